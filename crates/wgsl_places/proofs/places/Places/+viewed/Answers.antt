use Rattle.std.proofs.Common.{◌≡◌, ◌∷◌, None, sym, refl}
use Rattle.wgsl_rules.specs.Values.{index as index_step, member as member_step}
use Rattle.wgsl_values.specs.View.{steps_of}
use Rattle.wgsl_values.proofs.lemmas.Views.{steps_of-Member, steps_of-Index}
use Rattle.wgsl_places.specs.Steps.{shape_ty}
use Rattle.wgsl_places.proofs.Views.{led-by, nowhere, on-led, past-led}
use Rattle.wgsl_places.proofs.places.Places.+viewed.Goals as goal

pub returns-in_err-i-in-Member : goal.returns-in_err-i-in-Member
returns-in_err-i-in-Member t c = λ r place own.
    let s = member_step c.as_str.result.now in
    let rest = steps_of c.in-Member.rest.value in
    let all : steps_of c.args.view.now ≡ s ∷ rest = rw (c.in-Member.is, steps_of-Member, c.as_str.ensures.value) refl in
    rw c.from_residual.ensures (led-by c.args.self.now r s rest (steps_of c.args.view.now) None all (nowhere c.args.self.now r c.args.place s rest (shape_ty c.args.shape) place own (sym c.in_err-i-in-Member.ensures)))

pub returns-in_err-part-in-Member : goal.returns-in_err-part-in-Member
returns-in_err-part-in-Member t c = λ r place own.
    let s = member_step c.as_str.result.now in
    let rest = steps_of c.in-Member.rest.value in
    let all : steps_of c.args.view.now ≡ s ∷ rest = rw (c.in-Member.is, steps_of-Member, c.as_str.ensures.value) refl in
    rw c.from_residual-in_err-part-in-Member.ensures (led-by c.args.self.now r s rest (steps_of c.args.view.now) None all
    (past-led c.args.self.now r c.args.place s rest (shape_ty c.args.shape) (shape_ty c.in_ok-i-in-Member.member) c.in_ok-i-in-Member.i place own c.in_ok-i-in-Member.ensures (c.in_err-part-in-Member.ensures.part r place)))

pub returns-in_ok-part-in-Member : goal.returns-in_ok-part-in-Member
returns-in_ok-part-in-Member t c = λ r place own.
    let s = member_step c.as_str.result.now in
    let rest = steps_of c.deref.result.now in
    let all : steps_of c.args.view.now ≡ s ∷ rest = rw (c.in-Member.is, steps_of-Member, c.as_str.ensures.value, c.deref.ensures) refl in
    led-by c.args.self.now r s rest (steps_of c.args.view.now) c.viewed.result all
    (on-led c.args.self.now r c.args.place s rest (shape_ty c.args.shape) (shape_ty c.in_ok-i-in-Member.member) c.in_ok-i-in-Member.i c.in_ok-part-in-Member.field-0 c.viewed.result place own c.in_ok-i-in-Member.ensures
    (c.in_ok-part-in-Member.ensures.part r place) c.viewed.ensures)

pub returns-in_ok-part-in-Index : goal.returns-in_ok-part-in-Index
returns-in_ok-part-in-Index t c = λ r place own.
    let s = index_step c.in-Index.i in
    let rest = steps_of c.deref-in-Index.result.now in
    let all : steps_of c.args.view.now ≡ s ∷ rest = rw (c.in-Index.is, steps_of-Index, c.deref-in-Index.ensures) refl in
    led-by c.args.self.now r s rest (steps_of c.args.view.now) c.viewed-in-Index.result all
    (on-led c.args.self.now r c.args.place s rest (shape_ty c.args.shape) (shape_ty c.in_ok-element-in-Index.element) c.in-Index.i c.in_ok-part-in-Index.field-0 c.viewed-in-Index.result place own
    (c.in_ok-element-in-Index.ensures c.in-Index.i) (c.in_ok-part-in-Index.ensures.part r place) c.viewed-in-Index.ensures)
