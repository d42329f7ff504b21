-- Assertions that are faulty are explained by what is told.
use Rattle.std.proofs.Common.{◌≡◌, ◌∙◌, ◌<◌, ◌⊎◌, inl, inr, ℕ, zero, suc, Bool, true, false, List, [], ◌∷◌, ◌++◌, length, length-append, Some, MatchBool, refl, sym, ap, subst, arith}
use Rattle.std.specs.Prelude.{Contains, if◌then◌else◌, nat_lt, slice_get}
use Rattle.std.proofs.lemmas.List.Elements.{All-nil}
use Rattle.wgsl_source.specs.Readings.{Outline}
use Rattle.wgsl_source.specs.declared.expression.Span.{Span}
use Rattle.wgsl_values.specs.View.{value_of}
use Rattle.wgsl_eval.specs.Assertions.{AreAsserted, IsAsserted, IsAssertion, IsTold, is_truth}
use Rattle.wgsl_eval.specs.Evaluated.{IsEvaluatedWith, setting_with}
use Rattle.wgsl_eval.specs.Evaluators.{Setting}
use Rattle.wgsl_eval.specs.Faulty.{IsAssertedFault, IsAssertionExplained, IsBlamed, IsFaultyAt}
use Rattle.wgsl_eval.specs.Laws.{FaultyAssertionsAreExplained}
use Rattle.wgsl_eval.specs.Meanings.{with_fault}
use Rattle.wgsl_eval.specs.Messages.{IsFaultMessage, added}
use Rattle.wgsl_eval.specs.Runs.{IsFound}
use Rattle.wgsl_eval.specs.declared.answer.Answer.{Answer}
use Rattle.wgsl_eval.specs.declared.answer.Answer.TheVariants as answers
use Rattle.wgsl_eval.specs.declared.assertions.Assertion.{Assertion}
use Rattle.wgsl_eval.specs.declared.assertions.Assertion.TheVariants as asserts
use Rattle.wgsl_eval.specs.declared.message.Message.{Message}
use Rattle.wgsl_eval.proofs.FaultyChains.{AreKept, added-there}
use Rattle.wgsl_eval.proofs.FaultyLaws.{kept-asserted}
use Rattle.wgsl_eval.proofs.FaultyMessages.{AreAmong, asserted-faults, declared-faults, told-among}
use Rattle.wgsl_eval.proofs.FaultyRuns.{found-tells}
use Rattle.wgsl_eval.proofs.Walks.{IsLike, asserted_like}

-- a fault is told of it, or its expression is to blame
abbrev pub IsToldOrBlamed : Setting → Span → Setting → Type 0
IsToldOrBlamed s span t = ((m : Message) × IsFaultMessage m × (t ≡ with_fault s m)) ⊎ IsBlamed s.source (IsFaultyAt s) span

told : (s t : Setting) (span : Span) → IsTold s t → IsToldOrBlamed s span t
told s t span h = inl (h.message, h.fault, h.told)

held : (s t : Setting) (span : Span) (b : Bool) (a : Assertion) → a ≡ asserts.Faulty → MatchBool b ((a ≡ asserts.Holds) × (t ≡ s)) ((a ≡ asserts.Faulty) × IsTold s t) → IsToldOrBlamed s span t
held s t span true a f h = let e : a ≡ asserts.Holds = h.0 in absurd (cc)
held s t span false a f h = told s t span h.1

one : (s t : Setting) (span : Span) (x : Answer) (a : Assertion) → a ≡ asserts.Faulty → IsFound s span x → IsAssertion s x a t → IsToldOrBlamed s span t
one s t span (answers.Value v) a f found h = held s t span (is_truth (value_of v.instance)) a f h
one s t span (answers.Skipped k) a f found h = let e : a ≡ asserts.Skipped k = h.0 in absurd (cc)
one s t span (answers.Wrong m g) a f found h = inl (m, found-tells s span (answers.Wrong m g) found, h.1)
one s t span answers.Faulty a f found h = inr (found-tells s span answers.Faulty found)
one s t span (answers.Type u) a f found h = told s t span h.1
one s t span (answers.Bitcast u) a f found h = told s t span h.1
one s t span (answers.Variable v) a f found h = told s t span h.1
one s t span (answers.Named n) a f found h = told s t span h.1

fewer : (faults : List Message) (m : Message) (last : List Message) → AreKept (added faults m) last → length last < 100 → length faults < 100
fewer faults m last kept few = by (nat_lt (length faults) 100) (omega (arith, kept.count, few))
  where
    by : (b : Bool) → length (if b then faults ++ m ∷ [] else faults) < 100 → length faults < 100
    by true h = omega (arith, length-append faults (m ∷ []))
    by false h = h

-- what is told of it, or why nothing is
abbrev pub IsKnownOf : Setting → Setting → Span → Type 0
IsKnownOf after last span =
    ((m : Message) × IsAssertedFault after span m × (length last.faults < 100 → Contains last.faults m)) ⊎ IsBlamed after.source (IsFaultyAt after) span

here : (after s t last : Setting) (span : Span) (a : Assertion) → IsLike after s → a ≡ asserts.Faulty → IsAsserted s span a t → AreKept t.faults last.faults → IsKnownOf after last span
here after s t last span a like f h kept =
    elim (one s t span h.0 a f h.1 h.2) [
      | inl own ↦
          let P : Assertion → Type 0 = λ x. IsAsserted s span x t in
          let Q : Setting → Type 0 = λ u. IsAsserted s span asserts.Faulty u in
          let R : Setting → Type 0 = λ u. IsAsserted u span asserts.Faulty (with_fault u own.0) in
          let faults : t.faults ≡ (with_fault s own.0).faults = ap (λ (u : Setting). u.faults) own.2 in
          let S : List Message → Type 0 = λ fs. AreKept fs last.faults in
          let later = subst S faults kept in
          inl (
            own.0,
            record { fault = own.1; faults = s.faults; found = subst R like (subst Q own.2 (subst P f h)) },
            λ few. later.told own.0 (added-there s.faults own.0 (fewer s.faults own.0 last.faults later few)),
          )
      | inr blamed ↦ let P : Setting → Type 0 = λ u. IsBlamed u.source (IsFaultyAt u) span in inr (subst P like blamed)
    ]

known : (after s : Setting) (spans : List Span) (xs : List Assertion) (last : Setting) (number : ℕ) (span : Span) → IsLike after s → AreAsserted s spans xs last
    → slice_get spans number ≡ Some span → slice_get xs number ≡ Some asserts.Faulty → IsKnownOf after last span
known after s [] xs last number span like h e f = absurd (cc)
known after s (one_span ∷ spans) [] last number span like h e f = absurd h
known after s (one_span ∷ spans) (a ∷ xs) last zero span like h e f =
    let same : one_span ≡ span = cc in
    let faulty : a ≡ asserts.Faulty = cc in
    let P : Span → Type 0 = λ x. IsAsserted s x a h.0 in
    here after s h.0 last span a like faulty (subst P same h.1) (kept-asserted h.0 spans xs last h.2)
known after s (one_span ∷ spans) (a ∷ xs) last (suc number) span like h e f =
    let next : IsLike s h.0 = asserted_like s (one_span ∷ []) (a ∷ []) h.0 (h.0, h.1, refl) in
    known after h.0 spans xs last number span (next ∙ ap (λ (u : Setting). record u { faults = (h.0).faults }) like) h.2 e f

-- the law of assertions
pub assertions-explained : FaultyAssertionsAreExplained
assertions-explained o given settings e h number span is faulty =
    let among : AreAmong h.last.faults e.messages.items =
    told-among h.last.faults e.messages.items
    (asserted-faults h.after o.asserts e.asserts.items h.last h.asserts (declared-faults o.order (setting_with o given settings) h.after h.declared (All-nil IsFaultMessage)))
    h.messages in
    elim (known h.after h.after o.asserts e.asserts.items h.last number span refl h.asserts is faulty) [
      | inl own ↦ inl (own.0, own.1, λ few. among.told own.0 (own.2 (omega (arith, among.count, few))))
      | inr blamed ↦ inr blamed
    ]
