use Rattle.std.proofs.Common.{take}
use Rattle.std.specs.Fmt.{HasWritten, IsPlainFormatter}
use Rattle.wgsl_values.specs.Texts.{text_of_items}
use Rattle.wgsl_values.specs.View.{vals_view}
use Rattle.wgsl_values.proofs.+texts.Given as goal

abbrev pub invariant-lists::write_items-loop-i : goal.invariant-lists::write_items-loop-i
invariant-lists::write_items-loop-i g l =
    IsPlainFormatter l.initial.f → HasWritten g.W.Write.write_str_gives l.initial.f (text_of_items (vals_view (take l.i l.items))) l.f
