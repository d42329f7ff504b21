use Rattle.std.proofs.Common.{◌∙◌, None}
use Rattle.wgsl_rules.specs.View.{type_view}
use Rattle.wgsl_places.proofs.Told.{whole-counted, whole-none, whole-told}
use Rattle.wgsl_places.proofs.places.Places.whole.Goals as goal

pub returns-in_err-elements : goal.returns-in_err-elements
returns-in_err-elements c =
    let h = c.self.invariant in
    let none = whole-counted c.as_slice-nodes.result.now (type_view c.self.inside.ty) c.args.self.now c.args.len None c.self.view_is (c.as_slice-nodes.ensures.value ∙ h.table_is) h.laid h.root c.in_err-elements.ensures.on_table in
    rw c.from_residual.ensures (whole-none c.args.self.now c.args.len none)

pub returns : goal.returns
returns c =
    let h = c.self.invariant in
    whole-told c.as_slice-nodes.result.now (type_view c.self.inside.ty) c.args.self.now c.args.len c.in_ok-elements.elements c.in_ok-at.at c.self.view_is (c.as_slice-nodes.ensures.value ∙ h.table_is) h.laid h.root c.ranges.len.fits
    c.in_ok-elements.ensures.on_table c.in_ok-at.ensures.on_table
