use Rattle.std.proofs.Common.{◌<◌, string_len}
use Rattle.wgsl_report.proofs.report.errors_of.Given as goal

abbrev pub invariant-loop-finding : goal.invariant-loop-finding
invariant-loop-finding l = 0 < l.finding-index → 0 < string_len l.errors
