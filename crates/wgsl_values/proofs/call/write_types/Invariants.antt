use Rattle.std.proofs.Common.{take, map, codes}
use Rattle.std.specs.Fmt.{HasWritten, IsPlainFormatter}
use Rattle.std.specs.List.{join_by}
use Rattle.wgsl_rules.specs.Text.{type_text}
use Rattle.wgsl_rules.specs.View.{type_view}
use Rattle.wgsl_values.proofs.call.write_types.Given as goal

abbrev pub invariant-loop-i : goal.invariant-loop-i
invariant-loop-i g l =
    IsPlainFormatter l.initial.f → HasWritten g.W.Write.write_str_gives l.initial.f (join_by type_text (codes ", ") (map type_view (take l.i l.types))) l.f
