use Rattle.std.proofs.Common.{◌≡◌, ◌∙◌, [], length, ap, sym}
use Rattle.wgsl_rules.specs.Layout.{has_layout}
use Rattle.wgsl_values.specs.View.{steps_of}
use Rattle.wgsl_values.specs.declared.view.MemView.{Whole}
use Rattle.wgsl_values.proofs.Turned.{steps_of_whole}
use Rattle.wgsl_layout.specs.Buffers.{buffer}
use Rattle.wgsl_layout.specs.FlatCells.{IsPartAt, flat_value}
use Rattle.wgsl_layout.specs.Located.{part_range}
use Rattle.wgsl_layout.specs.Ranges.{bytes_in}
use Rattle.wgsl_layout.proofs.HeldBytes.{lent-bytes}
use Rattle.wgsl_layout.proofs.flat.FlatCell.bytes_at.Goals as goal

pub slice-requires-clause-whole : goal.slice-requires-clause-whole
slice-requires-clause-whole c =
    let own = c.self.inside in
    let part : IsPartAt (flat_value own) (steps_of c.args.view.now) c.part_at.result = rw (← c.self.view_is) at c.part_at.ensures.part in
    part.whole ∙ ap length (sym (c.as_slice-2.ensures.value ∙ c.self.invariant.bytes))

pub returns-clause-bytes : goal.returns-clause-bytes
returns-clause-bytes c =
    let own = c.self.inside in
    let v = flat_value own in
    let h = c.self.invariant in
    let steps = steps_of c.args.view.now in
    let r = part_range c.part_at.result in
    let part : IsPartAt v steps c.part_at.result = rw (← c.self.view_is) at c.part_at.ensures.part in
    let lent : c.slice.result.now ≡ bytes_in (buffer v) r = c.slice.ensures ∙ ap (λ (b : _). bytes_in b r) (c.as_slice-2.ensures.value ∙ h.bytes) in
    rw (← c.self.view_is) (lent-bytes v steps r c.slice.result.now h.storable (ap has_layout h.typed ∙ h.laid) (rw (← c.self.view_is) at c.requires) part.found lent)

pub returns-in-Whole-clause-bytes : goal.returns-in-Whole-clause-bytes
returns-in-Whole-clause-bytes c = rw (c.in-Whole.is, steps_of_whole, ← c.self.view_is) (c.as_slice.ensures.value ∙ c.self.invariant.bytes)
