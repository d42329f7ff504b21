use Rattle.std.proofs.Common.{◌≡◌, ◌∷◌, rules, refl, sym, subst}
use Rattle.std.specs.Prelude.{IfOk, IsSomeAnd, Err}
use Rattle.wgsl_rules.specs.Paths.{viewed}
use Rattle.wgsl_rules.specs.Refusals.{Outcome}
use Rattle.wgsl_rules.specs.Values.{Val, index, member}
use Rattle.wgsl_scalar.specs.Answers.{refusal_of}
use Rattle.wgsl_values.specs.View.{value_of, vals_view, steps_of}
use Rattle.wgsl_values.specs.declared.view.MemView.{the_lemmas}
use Rattle.wgsl_values.proofs.Viewed.{member-well_formed, indexed-well_formed, member-nowhere, indexed-nowhere, viewed-past, viewed-no_parts}
use Rattle.wgsl_values.proofs.lemmas.Steps.{viewed-member}
use Rattle.wgsl_values.proofs.lemmas.Views.{steps_of-Member, steps_of-Index, count-vals_view}
use Rattle.wgsl_values.proofs.instance.Instance.+refusal.Goals as goal

pub refusal-requires : goal.refusal-requires
refusal-requires t c =
    let steps : steps_of c.args.view.now ≡ member c.as_str.result.now ∷ steps_of c.deref.result.now = rw (c.in-Member.is, steps_of-Member, c.as_str.ensures.value, c.deref.ensures) refl in (
      search (rules, the_lemmas),
      (
        member-well_formed _ _ _ c.requires.well_formed c.in-Some.ensures,
        member-nowhere c.as_str.result.now (steps_of c.deref.result.now) (value_of c.args.self.now) _ c.in-Some.ensures (rw steps at c.requires.nowhere),
      ),
    )

pub refusal-requires-in-Some-nth : goal.refusal-requires-in-Some-nth
refusal-requires-in-Some-nth t c =
    let steps : steps_of c.args.view.now ≡ index c.in-Index.i ∷ steps_of c.deref-in-Some-nth.result.now = rw (c.in-Index.is, steps_of-Index, c.deref-in-Some-nth.ensures) refl in (
      search (rules, the_lemmas),
      (
        indexed-well_formed _ _ _ _ c.requires.well_formed c.in-Some-indexed.ensures c.in-Some-nth.ensures,
        indexed-nowhere c.in-Index.i (steps_of c.deref-in-Some-nth.result.now) (value_of c.args.self.now) _ (vals_view c.in-Some-indexed.parts.now)
            c.in-Some-indexed.ensures c.in-Some-nth.ensures (rw steps at c.requires.nowhere),
      ),
    )

pub returns-in-Some : goal.returns-in-Some
returns-in-Some t c =
    let steps : steps_of c.args.view.now ≡ member c.as_str.result.now ∷ steps_of c.deref.result.now = rw (c.in-Member.is, steps_of-Member, c.as_str.ensures.value, c.deref.ensures) refl in
    let same : viewed (steps_of c.args.view.now) (value_of c.args.self.now) ≡ viewed (steps_of c.deref.result.now) (value_of c.in-Some.member.now) =
    rw steps (viewed-member c.as_str.result.now (steps_of c.deref.result.now) (value_of c.args.self.now) (value_of c.in-Some.member.now) c.in-Some.ensures) in
    subst (λ (o : Outcome Val). IfOk c.refusal.result (λ e. IsSomeAnd (refusal_of e) (λ f. o ≡ Err f))) (sym same) c.refusal.ensures

pub returns-in_ok-ty-in-None-nth : goal.returns-in_ok-ty-in-None-nth
returns-in_ok-ty-in-None-nth t c =
    rw (c.in-Index.is, steps_of-Index)
    (viewed-past c.in-Index.i (steps_of c.in-Index.rest.value) (value_of c.args.self.now) (vals_view c.in-Some-indexed.parts.now) _ _
    c.in-Some-indexed.ensures c.in-None-nth.ensures c.in_ok-ty-in-None-nth.ensures (sym (count-vals_view c.in-Some-indexed.parts.now)))

pub returns-in_ok-ty-in-None-indexed : goal.returns-in_ok-ty-in-None-indexed
returns-in_ok-ty-in-None-indexed t c =
    rw (c.in-Index.is, steps_of-Index)
    (viewed-no_parts c.in-Index.i (steps_of c.in-Index.rest.value) (value_of c.args.self.now) _ c.in-None-indexed.ensures c.in_ok-ty-in-None-indexed.ensures)
