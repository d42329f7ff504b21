use Rattle.std.proofs.Common.{◌≡◌, ℕ, List, subst, sym, arith}
use Rattle.wgsl_source.specs.Orders.{times_in, places_with}
use Rattle.wgsl_source.specs.declared.places.Mark.TheVariants.{Done}
use Rattle.std.proofs.Common.{set, slice_get}
use Rattle.wgsl_source.proofs.OrderLemmas.{done-once, done-kept}
use Rattle.wgsl_source.proofs.places.Places.place.Goals as goal
use Rattle.wgsl_rules.proofs.lemmas.Slices.{slice_get-set_same}

pub invariant_of-self-2 : goal.invariant_of-self-2
invariant_of-self-2 c =
    let marks = c.args.self.now.marks.items in
    let d : ℕ = c.args.declaration in
    let P : List ℕ → Type 0 = λ order. (number : ℕ) → times_in number order ≡ places_with (slice_get (set marks d Done) number) in
    record { once = subst P (sym c.in_ok-push.ensures.items) (done-once c.args.self.now.order.items marks d c.args.self.now.once (omega arith) c.requires.none) }

pub returns-clause-placed : goal.returns-clause-placed
returns-clause-placed c = slice_get-set_same c.args.self.now.marks.items c.args.declaration Done (omega arith)

pub returns-clause-kept : goal.returns-clause-kept
returns-clause-kept c = λ n. done-kept c.args.self.now.marks.items c.args.declaration n (omega arith)
