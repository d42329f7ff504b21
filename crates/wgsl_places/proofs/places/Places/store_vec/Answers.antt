use Rattle.std.proofs.Common.{ℕ, List, Option, is_some, inl, inr, sym, ap, ◌∙◌}
use Rattle.std.specs.Option.{unwrap_or}
use Rattle.wgsl_places.proofs.Vectors.{place-refused, place-stored}
use Rattle.wgsl_places.proofs.places.Places.store_vec.Goals as goal
use Rattle.wgsl_places.proofs.places.Places.store_vec.Goals.{then-not-is_of_vector-via-then-not-is_of_vector, then-not-is_of_vector-via-else-not-is_of_vector+then-components-place}

pub returns-then-not-is_of_vector-clause-answer : goal.returns-then-not-is_of_vector-clause-answer
returns-then-not-is_of_vector-clause-answer c = λ r place.
    ap is_some (place-refused c.args.self.now r c.args.place c.args.bytes.now c.args.components.now place
    (elim c.then-not-is_of_vector.branch [
      | then-not-is_of_vector-via-then-not-is_of_vector w ↦ inl (sym c.is_of_vector.ensures ∙ w.if-not-is_of_vector.true)
      | then-not-is_of_vector-via-else-not-is_of_vector+then-components-place w ↦ inr w.if-components-place.true
    ]))

pub returns-then-not-is_of_vector-clause-bytes : goal.returns-then-not-is_of_vector-clause-bytes
returns-then-not-is_of_vector-clause-bytes c = λ r place.
    ap (λ (x : Option (List ℕ)). unwrap_or x c.args.bytes.now) (place-refused c.args.self.now r c.args.place c.args.bytes.now c.args.components.now place
    (elim c.then-not-is_of_vector.branch [
      | then-not-is_of_vector-via-then-not-is_of_vector w ↦ inl (sym c.is_of_vector.ensures ∙ w.if-not-is_of_vector.true)
      | then-not-is_of_vector-via-else-not-is_of_vector+then-components-place w ↦ inr w.if-components-place.true
    ]))

pub returns-clause-answer : goal.returns-clause-answer
returns-clause-answer c = λ r place.
    c.store_row.ensures.answer
    ∙ ap is_some (place-stored c.args.self.now r c.args.place c.args.bytes.now c.args.components.now place (sym c.is_of_vector.ensures ∙ c.if-not-is_of_vector.false) c.if-components-place.false)

pub returns-clause-bytes : goal.returns-clause-bytes
returns-clause-bytes c = λ r place.
    c.store_row.ensures.bytes
    ∙ ap (λ (x : Option (List ℕ)). unwrap_or x c.args.bytes.now)
    (place-stored c.args.self.now r c.args.place c.args.bytes.now c.args.components.now place (sym c.is_of_vector.ensures ∙ c.if-not-is_of_vector.false) c.if-components-place.false)
