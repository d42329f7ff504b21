use Rattle.std.proofs.Common.{◌∙◌, ap}
use Rattle.wgsl_rules.specs.Layout.{has_layout}
use Rattle.wgsl_values.specs.View.{steps_of}
use Rattle.wgsl_layout.specs.FlatCells.{IsPartAt, flat_value}
use Rattle.wgsl_layout.proofs.NumberPuts.{bytes-from}
use Rattle.wgsl_layout.proofs.flat.FlatCell.bytes_from.Goals as goal

pub returns-clause-bytes : goal.returns-clause-bytes
returns-clause-bytes c =
    let own = c.self.inside in
    let v = flat_value own in
    let h = c.self.invariant in
    let steps = steps_of c.args.view.now in
    let part : IsPartAt v steps c.part_at-start.result = rw (← c.self.view_is) at c.part_at-start.ensures.part in
    rw (← c.self.view_is) (bytes-from v steps c.part_at-start.result c.as_slice.result.now h.storable (ap has_layout h.typed ∙ h.laid) (rw (← c.self.view_is) at c.requires) part (c.as_slice.ensures.value ∙ h.bytes))
