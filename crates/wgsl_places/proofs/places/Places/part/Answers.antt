use Rattle.std.proofs.Common.{◌∙◌, Some, None}
use Rattle.wgsl_rules.specs.View.{type_view}
use Rattle.wgsl_places.proofs.MemoryPlaces.{part-of}
use Rattle.wgsl_places.proofs.Told.{part-told}
use Rattle.wgsl_places.proofs.places.Places.part.Goals as goal

pub returns-in_err-at-clause-part : goal.returns-in_err-at-clause-part
returns-in_err-at-clause-part c = λ r place. rw c.from_residual.ensures
    (part-told c.as_slice.result.now (type_view c.self.inside.ty) c.args.self.now r c.args.place.at c.args.place.elements c.args.i None c.self.view_is
    (c.as_slice.ensures.value ∙ c.self.invariant.table_is) c.self.invariant.few c.in_err-at.ensures.on_table place)

pub returns-clause-part : goal.returns-clause-part
returns-clause-part c = λ r place.
    part-told c.as_slice.result.now (type_view c.self.inside.ty) c.args.self.now r c.args.place.at c.args.place.elements c.args.i (Some c.in_ok-at.at) c.self.view_is
    (c.as_slice.ensures.value ∙ c.self.invariant.table_is) c.self.invariant.few c.in_ok-at.ensures.on_table place

pub returns-in_err-at-clause-of : goal.returns-in_err-at-clause-of
returns-in_err-at-clause-of c = λ cells r h. rw c.from_residual.ensures tt

pub returns-clause-of : goal.returns-clause-of
returns-clause-of c = λ cells r h.
    part-of c.args.self.now cells r c.args.place c.args.i _
    (λ q place.
    part-told c.as_slice.result.now (type_view c.self.inside.ty) c.args.self.now q c.args.place.at c.args.place.elements c.args.i (Some c.in_ok-at.at) c.self.view_is
    (c.as_slice.ensures.value ∙ c.self.invariant.table_is) c.self.invariant.few c.in_ok-at.ensures.on_table place) h
