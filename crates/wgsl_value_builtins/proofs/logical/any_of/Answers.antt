use Rattle.std.proofs.Common.{rules, ◌≡◌, ◌∙◌, Bool, ◌||◌, false, Ok, Err, refl, sym, ap, subst}
use Rattle.std.specs.Prelude.{IsSomeAnd}
use Rattle.wgsl_scalar.specs.Answers.{refusal_of}
use Rattle.wgsl_value_builtins.proofs.SoFar.{HasJoined, joined-start, joined-more, joined-refused, joined-all, refused-as, or-assoc, or-false}
use Rattle.wgsl_value_builtins.specs.Logical.{truth_in, truths_joined}
use Rattle.wgsl_values.specs.View.{value_of, vals_view}
use Rattle.wgsl_value_builtins.proofs.logical.any_of.Goals as goal
use Rattle.wgsl_value_builtins.proofs.logical.any_of.Goals.{then-any, else-any}

pub loop-value-init : goal.loop-value-init
loop-value-init c = joined-start ◌||◌ false c.args.bools.now (λ a. refl)

pub returns-in_err-truth : goal.returns-in_err-truth
returns-in_err-truth c =
    let h : IsSomeAnd (refusal_of c.in_err-truth.field-0.0) (λ r. truth_in (value_of c.value-item.result) ≡ Err r) = c.in_err-truth.ensures in
    search (
      rules,
      refused-as (refusal_of c.in_err-truth.field-0.0) (truth_in (value_of c.value-item.result)) (truths_joined ◌||◌ false (vals_view c.args.bools.now))
          (λ r e. joined-refused ◌||◌ false c.args.bools.now c.loop-value.value-index c.value-item.result c.loop-value.any r c.loop-value-test.true c.value-item.is c.loop-value.invariant e) h,
    )

pub loop-value-preserved : goal.loop-value-preserved
loop-value-preserved c =
    let joined : c.if-any.any ≡ (c.loop-value.any || c.in_ok-truth.truth) =
    elim c.if-any.branch [
      | then-any w ↦ w.any-is ∙ w.if-any.true ∙ sym (ap (λ (a : Bool). a || c.in_ok-truth.truth) w.if-any.true)
      | else-any w ↦ w.any-is ∙ sym (ap (λ (a : Bool). a || c.in_ok-truth.truth) w.if-any.false)
    ] in
    subst (HasJoined ◌||◌ false c.args.bools.now _) (sym joined)
    (joined-more ◌||◌ false c.args.bools.now c.loop-value.value-index c.value-item.result c.loop-value.any c.in_ok-truth.truth (or-assoc c.loop-value.any c.in_ok-truth.truth) c.loop-value-test.true c.value-item.is c.loop-value.invariant c.in_ok-truth.ensures)

pub returns : goal.returns
returns c = joined-all ◌||◌ false c.args.bools.now c.loop-value.value-index c.loop-value.any (or-false c.loop-value.any) c.loop-value-test.false c.loop-value.invariant
