use Rattle.std.proofs.Common.{◌≡◌, ◌∙◌, ◌+◌, ℕ, List, Ok, length, ap, sym, subst, arith}
use Rattle.std.specs.Vec.{with_items}
use Rattle.std.proofs.Math.Seq.{take-append_seam}
use Rattle.wgsl_rules.specs.Layout.{has_layout}
use Rattle.wgsl_rules.specs.Paths.{put_viewed, viewed}
use Rattle.wgsl_rules.specs.Values.{Val}
use Rattle.wgsl_scalar.specs.Literals.{literal_of}
use Rattle.wgsl_values.specs.View.{steps_of}
use Rattle.wgsl_layout.specs.Buffers.{buffer}
use Rattle.wgsl_layout.specs.FlatCells.{Holds, IsPartAt, flat_value}
use Rattle.wgsl_layout.specs.NumbersIn.{HasNumberAt, IsNumberAt, number_put}
use Rattle.wgsl_layout.specs.Plan.{scalar}
use Rattle.wgsl_layout.specs.Walk.{put, Stands}
use Rattle.wgsl_layout.specs.declared.flat.FlatCell.TheInside.{Inside}
use Rattle.wgsl_layout.proofs.FlatPuts.{held-value, holds-own}
use Rattle.wgsl_layout.proofs.NumberPuts.{is-literal, led-is, number-holds, number-stands-in, stands-below}
use Rattle.wgsl_layout.proofs.Outcomes.{answered}
use Rattle.wgsl_layout.proofs.flat.FlatCell.put_number.Goals as goal

-- the number stands in the bytes of the cell
standing : (c : goal.After-self-1) → Stands (literal_of c.args.number) scalar (c.part_at-start.result.start + c.args.at) (length (buffer (flat_value c.self.inside)))
standing c =
    let own = c.self.inside in
    let h = c.self.invariant in
    number-stands-in (flat_value own) (literal_of c.args.number) (steps_of c.args.view.now) c.part_at-start.result c.args.at h.storable (ap has_layout h.typed ∙ h.laid) (is-literal c.args.number) c.a_literal_may_be_stored.ensures
    (rw (← c.self.view_is) at c.part_at-start.ensures.part) (rw (← c.self.view_is) at c.requires)

pub overflow_add-start : goal.overflow_add-start
overflow_add-start c =
    let own = c.self.inside in
    let h = c.self.invariant in
    let stands = number-stands-in (flat_value own) (literal_of c.args.number) (steps_of c.args.view.now) c.part_at-start.result c.args.at h.storable (ap has_layout h.typed ∙ h.laid) (is-literal c.args.number) c.a_literal_may_be_stored.ensures
    (rw (← c.self.view_is) at c.part_at-start.ensures.part) (rw (← c.self.view_is) at c.requires) in
    let below = stands-below (literal_of c.args.number) (c.part_at-start.result.start + c.args.at) (length (buffer (flat_value own))) (is-literal c.args.number) stands in
    let same = ap length h.bytes in
    omega (arith, below, same, own.bytes.ok.0)

pub write_literal-requires : goal.write_literal-requires
write_literal-requires c =
    let own = c.self.inside in
    let h = c.self.invariant in
    subst (λ (n : ℕ). Stands (literal_of c.args.number) scalar (c.part_at-start.result.start + c.args.at) n) (ap length (sym h.bytes) ∙ ap length (sym c.as_mut_slice.ensures.value))
    (number-stands-in (flat_value own) (literal_of c.args.number) (steps_of c.args.view.now) c.part_at-start.result c.args.at h.storable (ap has_layout h.typed ∙ h.laid) (is-literal c.args.number) c.a_literal_may_be_stored.ensures
    (rw (← c.self.view_is) at c.part_at-start.ensures.part) (rw (← c.self.view_is) at c.requires))

-- what the cell holds after the write, by the path of the number
after-holds : (c : goal.After-self-1) (x : Val) (path : List ℕ) → viewed (steps_of c.args.view.now) (flat_value c.self.inside) ≡ Ok x → IsNumberAt x path c.args.at (literal_of c.args.number)
    → Holds (record { owner = c.self.inside.owner; count = c.self.inside.count; bytes = with_items c.self.inside.bytes c.write_literal.new.out })
    (put_viewed (steps_of c.args.view.now) (number_put path (literal_of c.args.number) x) (flat_value c.self.inside))
after-holds c x path e n =
    let own = c.self.inside in
    let v = flat_value own in
    let w = literal_of c.args.number in
    let h = c.self.invariant in
    let at = c.part_at-start.result.start + c.args.at in
    let new = c.write_literal.new.out in
    let long : own.bytes.len ≡ length new = omega (arith, c.write_literal.auto.out, c.as_mut_slice.ensures.len) in
    let kept : (with_items own.bytes new).items ≡ new = rw long (take-append_seam new _) in
    let written : new ≡ put w scalar at (buffer v) = c.write_literal.ensures ∙ ap (put w scalar at) (c.as_mut_slice.ensures.value ∙ h.bytes) in
    let part : IsPartAt v (steps_of c.args.view.now) c.part_at-start.result = rw (← c.self.view_is) at c.part_at-start.ensures.part in
    number-holds own (with_items own.bytes new) v w x (steps_of c.args.view.now) path c.part_at-start.result c.args.at h (is-literal c.args.number) c.a_literal_may_be_stored.ensures part e n (kept ∙ written)

pub invariant_of-self : goal.invariant_of-self
invariant_of-self c =
    let there = rw (← c.self.view_is) at c.requires in
    let a = answered (viewed (steps_of c.args.view.now) (flat_value c.self.inside)) (λ x. HasNumberAt x c.args.at (literal_of c.args.number)) there in
    holds-own _ _ (after-holds c a.answer a.fact.path a.is a.fact.is)

pub returns-clause-put : goal.returns-clause-put
returns-clause-put c path =
    let there = rw (← c.self.view_is) at c.requires in
    let own = c.self.inside in
    let v = flat_value own in
    let steps = steps_of c.args.view.now in
    let w = literal_of c.args.number in
    let made : Inside = record { owner = own.owner; count = own.count; bytes = with_items own.bytes c.write_literal.new.out } in
    let a = answered (viewed steps v) (λ x. HasNumberAt x c.args.at w) there in
    rw (← c.self.view_is)
    (led-is (λ x. IsNumberAt x path c.args.at w → flat_value made ≡ put_viewed steps (number_put path w x) v) (viewed steps v) a.answer a.is
    (λ n. held-value made (put_viewed steps (number_put path w a.answer) v) (after-holds c a.answer path a.is n)))
