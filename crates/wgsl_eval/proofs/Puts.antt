-- A meaning in the place of its declaration.
use Rattle.std.specs.declared.alloc.AllocError.{AllocError}
use Rattle.std.proofs.Common.{◌⊎◌, IfOk, ◌≡◌, ◌≢◌, ◌↔◌, ℕ, ◌<◌, Bool, true, false, List, length, Result, Ok, Err, Some, refl, sym, ap, ◌∙◌, subst, inl, inr}
use Rattle.std.specs.Prelude.{OnOk, slice_get, slice_set}
use Rattle.std.proofs.lemmas.Bool.{false≢true}
use Rattle.std.proofs.Math.Seq.{lt-length-set}
use Rattle.std.proofs.lemmas.List.{length-set, get_or-set_other, get_or-set_same}
use Rattle.std.proofs.lemmas.Option.{slice_get-get_or, slice_get_cases, slice_get_past, unwrap_or-slice_get}
use Rattle.wgsl_eval.specs.Answers.{meaning_at}
use Rattle.wgsl_eval.specs.Evaluation.{name_at}
use Rattle.wgsl_eval.specs.Evaluators.{Setting}
use Rattle.wgsl_eval.specs.Meanings.{AreOthers, IsDeclared, IsFoundAt, IsPlaced, IsSecond, told, with_all, with_fault, with_faults, with_meaning}
use Rattle.wgsl_eval.specs.Assertions.{IsAssertion, IsTold}
use Rattle.wgsl_eval.specs.Messages.{IsFaultMessage, faults_with}
use Rattle.wgsl_eval.specs.declared.answer.Guard.{Guard}
use Rattle.wgsl_eval.specs.declared.assertions.Assertion.{Assertion}
use Rattle.wgsl_eval.specs.declared.assertions.Assertion.TheVariants as asserts
use Rattle.wgsl_eval.specs.declared.sized.SizedType.{SizedType}
use Rattle.wgsl_eval.specs.declared.variable.Variable.{Variable}
use Rattle.wgsl_eval.specs.declared.message.Message.{Message}
use Rattle.wgsl_eval.specs.declared.answer.Answer.{Answer}
use Rattle.wgsl_eval.specs.declared.answer.Answer.TheVariants as answers

slice_get-set_other : (xs : List Answer) (i k : ℕ) (v : Answer) → k ≢ i → slice_get (slice_set xs i v) k ≡ slice_get xs k
slice_get-set_other xs i k v ne =
    elim (slice_get_cases xs k).1 as (λ _. slice_get (slice_set xs i v) k ≡ slice_get xs k) [
      | inl w ↦ slice_get-get_or (slice_set xs i v) k w.0 (lt-length-set xs i v w.1) ∙ ap Some (get_or-set_other xs i k v w.0 ne ∙ w.3) ∙ sym w.2
      | inr w ↦ slice_get_past (slice_set xs i v) k (rw length-set w.0) ∙ sym w.1
    ]

pub placed_same : (s t : Setting) (n : ℕ) → t ≡ s → IsPlaced s n t
placed_same s t n e =
    let P : Setting → Type 0 = λ u. IsPlaced s n u in
    subst P (sym e) (record { source = refl; stage = refl; is_strict = refl; dialect = refl; given = refl; count = refl; others = λ k ne. refl })

-- a fault is told in no place
pub placed_told : (s t : Setting) (n : ℕ) (a : Answer) → t ≡ with_faults s a → IsPlaced s n t
placed_told s t n a e =
    let P : Setting → Type 0 = λ u. IsPlaced s n u in
    subst P (sym e) (record { source = refl; stage = refl; is_strict = refl; dialect = refl; given = refl; count = refl; others = λ k ne. refl })

placed : (s : Setting) (n : ℕ) (m : Answer) → IsPlaced s n (with_meaning s n m)
placed s n m = record {
  source = refl;
  stage = refl;
  is_strict = refl;
  dialect = refl;
  given = refl;
  count = length-set s.meanings n m;
  others = λ k ne. slice_get-set_other s.meanings n k m ne;
}

placed_both : (s t u : Setting) (n : ℕ) → IsPlaced s n t → IsPlaced t n u → IsPlaced s n u
placed_both s t u n h k = record {
  source = k.source ∙ h.source;
  stage = k.stage ∙ h.stage;
  is_strict = k.is_strict ∙ h.is_strict;
  dialect = k.dialect ∙ h.dialect;
  given = k.given ∙ h.given;
  count = k.count ∙ h.count;
  others = λ i ne. k.others i ne ∙ h.others i ne;
}

pub placed_put : (s t u : Setting) (n : ℕ) (m a : Answer) → t ≡ with_faults s a → u ≡ with_meaning t n m → IsPlaced s n u
placed_put s t u n m a e f =
    let P : Setting → Type 0 = λ v. IsPlaced t n v in
    placed_both s t u n (placed_told s t n a e) (subst P (sym f) (placed t n m))

-- the faults are those behind what was told
pub faults_put : (s t u : Setting) (n : ℕ) (m a : Answer) → t ≡ with_faults s a → u ≡ with_meaning t n m → u.faults ≡ faults_with s.faults a
faults_put s t u n m a e f = ap (λ (x : Setting). x.faults) f ∙ ap (λ (x : Setting). x.faults) e

pub meaning_put : (s t u : Setting) (n : ℕ) (m a b : Answer) → t ≡ with_faults s b → u ≡ with_meaning t n m → m ≡ a → n < length s.meanings → meaning_at u.meanings n ≡ a
meaning_put s t u n m a b e f is h =
    ap (λ (x : Setting). meaning_at x.meanings n) (f ∙ ap (λ x. with_meaning x n m) e)
    ∙ unwrap_or-slice_get (slice_set s.meanings n m) n answers.Faulty
    ∙ get_or-set_same s.meanings n m answers.Faulty h
    ∙ is

-- the test failed, so the fact does not hold
pub fails : (b : Bool) (A : Type 0) → b ≡ true ↔ A → b ≡ false → A → ⊥
fails b A e is a = false≢true (sym is ∙ e.1 a)

pub found_second : (s : Setting) (n : ℕ) → IsSecond s.source n → IsFoundAt s n s
found_second s n h = record { others = placed_same s s n refl; second = λ _. refl; first = λ not. absurd (not h) }

pub found_first : {T E : Type 0} (result : Result T E) (s t v u : Setting) (n len : ℕ) (m : Answer) (others : List Message)
    → t ≡ s → v ≡ with_all t others → length v.meanings ≡ len → IsPlaced v n u → OnOk result (n < len → meaning_at u.meanings n ≡ told m)
    → OnOk result (u.faults ≡ faults_with v.faults m) → IsDeclared s (name_at s.source n) (slice_get s.source.declared n) m
    → AreOthers s (slice_get s.source.declared n) m others → (IsSecond s.source n → ⊥) → OnOk result (IsFoundAt s n u)
found_first (Ok x) s t v u n len m others e f counted placed there faults declared beside not =
    let same : v ≡ with_all s others = f ∙ ap (λ (x : Setting). with_all x others) e in
    let P : Setting → Type 0 = λ x. IsPlaced x n u in
    let Q : Setting → Type 0 = λ x. n < length x.meanings in
    let R : ℕ → Type 0 = λ k. n < k in
    let p : IsPlaced (with_all s others) n u = subst P same placed in
    record {
      others = record { source = p.source; stage = p.stage; is_strict = p.is_strict; dialect = p.dialect; given = p.given; count = p.count; others = p.others };
      second = λ h. absurd (not h);
      first = λ _. (m, others, declared, beside, (λ h. there (subst R counted (subst Q (sym same) h))), faults ∙ ap (λ (x : Setting). faults_with x.faults m) same);
    }
found_first (Err x) s t v u n len m others e f counted placed there faults declared beside not = tt

-- what is told of an answer
pub told_wrong : (s t : Setting) (m : Message) (guard : Guard) → t ≡ with_fault s m → t ≡ with_faults s (answers.Wrong m guard)
told_wrong s t m guard e = e

-- nothing is told of an answer that is no fault
pub told_nothing : (s : Setting) (a : Answer) → ((m : Message) (guard : Guard) → a ≡ answers.Wrong m guard → ⊥) → s ≡ with_faults s a
told_nothing s (answers.Wrong m guard) n = absurd (n m guard refl)
told_nothing s a n = refl

-- a message that is a fault
pub told_fault : (s t : Setting) (m : Message) → IsFaultMessage m → t ≡ with_fault s m → IsTold s t
told_fault s t m h e = record { message = m; fault = h; told = e }

-- what is asserted and neither a value nor skipped
pub refuted_assertion : (s t : Setting) (a : Answer) (r : Result Assertion AllocError)
    → ((u : SizedType) × (a ≡ answers.Type u)) ⊎ (((u : SizedType) × (a ≡ answers.Bitcast u)) ⊎ (((v : Variable) × (a ≡ answers.Variable v)) ⊎ ((n : ℕ) × (a ≡ answers.Named n))))
    → IfOk r (λ found. (found ≡ asserts.Faulty) × IsTold s t) → IfOk r (λ found. IsAssertion s a found t)
refuted_assertion s t a (Err e) is h = tt
refuted_assertion s t a (Ok found) (inl w) h = let P : Answer → Type 0 = λ x. IsAssertion s x found t in subst P (sym w.1) h
refuted_assertion s t a (Ok found) (inr (inl w)) h = let P : Answer → Type 0 = λ x. IsAssertion s x found t in subst P (sym w.1) h
refuted_assertion s t a (Ok found) (inr (inr (inl w))) h = let P : Answer → Type 0 = λ x. IsAssertion s x found t in subst P (sym w.1) h
refuted_assertion s t a (Ok found) (inr (inr (inr w))) h = let P : Answer → Type 0 = λ x. IsAssertion s x found t in subst P (sym w.1) h
