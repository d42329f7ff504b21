use Rattle.std.proofs.Common.{◌≡◌, ◌++◌, string_bytes}
use Rattle.wgsl_report.specs.Texts.{indent_text}
use Rattle.wgsl_report.proofs.table.add_indent.Given as goal

-- so many structures in, the line is indented so far
abbrev pub invariant-loop : goal.invariant-loop
invariant-loop l = string_bytes l.text ≡ string_bytes l.fn.text ++ indent_text l.counter
