use Rattle.std.proofs.Common.{take, map, codes}
use Rattle.std.specs.Fmt.{HasWritten, IsPlainFormatter}
use Rattle.std.specs.List.{join_by}
use Rattle.wgsl_values.specs.Signatures.{param_text, param_view}
use Rattle.wgsl_values.proofs.call.write_params.Given as goal

abbrev pub invariant-loop-i : goal.invariant-loop-i
invariant-loop-i g l =
    IsPlainFormatter l.initial.f → HasWritten g.W.Write.write_str_gives l.initial.f (join_by param_text (codes ", ") (map param_view (take l.i l.params))) l.f
