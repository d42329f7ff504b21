use Rattle.std.proofs.Common.{◌<◌, string_len}
use Rattle.wgsl_report.proofs.report.add_line.Given as goal

abbrev pub invariant-loop-character : goal.invariant-loop-character
invariant-loop-character l = string_len l.fn.errors < string_len l.errors

abbrev pub invariant-loop-character-2 : goal.invariant-loop-character-2
invariant-loop-character-2 l = string_len l.fn.errors < string_len l.errors
