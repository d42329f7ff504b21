-- From what a closure answers at each component to the definition that it meets, lifted.
use Rattle.std.proofs.Common.{◌≡◌, ◌∙◌, ◌⊎◌, inl, inr, ℕ, zero, suc, List, [], ◌∷◌, Bool, true, false, ◌==◌, Option, Some, None, Result, Ok, Err, refl, sym, ap, ap₂}
use Rattle.std.proofs.lemmas.Bool.{eq-eqb}
use Rattle.std.specs.Prelude.{slice_get, IsSomeAnd, MatchOption}
use Rattle.std.specs.List.{zip}
use Rattle.std.specs.Fn.{FnReturnsAt, FnReturnsAtPair}
use Rattle.std.specs.Borrow.{Bor}
use denote.Param.Members.{Shared}
use Rattle.wgsl_rules.specs.Paths.{parts, same_paths}
use Rattle.wgsl_rules.specs.Refusals.{Refusal, Outcome, and_then, compwise_binary}
use Rattle.wgsl_rules.specs.Types.{Ty, vec}
use Rattle.wgsl_scalar.specs.Operands.{ok_or}
use Rattle.wgsl_rules.specs.Values.{Val, vector, Vals, no_vals, val, count, type_of, first_type, AllOfType, IsWellFormed}
use Rattle.wgsl_rules.specs.declared.syntax.ShaderStage.{ShaderStage}
use Rattle.wgsl_rules.specs.declared.syntax.BinaryOperator.{BinaryOperator}
use Rattle.wgsl_scalar.specs.Answers.{Answers, Gives, refusal_of}
use Rattle.wgsl_scalar.specs.Literals.{literal_of}
use Rattle.wgsl_scalar.specs.declared.error.Error.{Error}
use Rattle.wgsl_scalar.specs.declared.error.Error.TheVariants.{Memory}
use Rattle.wgsl_scalar.specs.declared.literal.LiteralInstance.{LiteralInstance}
use Rattle.wgsl_values.proofs.lemmas.Views.{vec_view-is}
use Rattle.wgsl_values.specs.Iterators.{listed}
use Rattle.wgsl_values.specs.View.{vals_of, vals_view, vec_view}
use Rattle.wgsl_values.specs.declared.vector.VecInstance.{VecInstance}
use Rattle.wgsl_value_ops.proofs.Answering.{literals-shape}
use Rattle.wgsl_value_ops.proofs.Types.{answer-typed}
use Rattle.wgsl_value_ops.specs.Closures.{answer_of, AnswersAt, AnswersAtPair, AnswersEach, AnswersOneKind, AnswersPairs, Answered, Refused, components_of, pairs_of, seen}
use Rattle.wgsl_value_ops.specs.Laws.{answer_type}
use Rattle.wgsl_value_ops.specs.Lift.{lifted, lifted2, followed, vector_of}
use Rattle.wgsl_value_ops.specs.Literals.{of_literals}
use Rattle.wgsl_value_ops.specs.Vectors.{of_components}

-- ---- the definition that a closure meets

pub record Meets {X : Type 0} (R : X → Result Val Error → Type 0) (h : X → Outcome Val) : Type 0 where
  pub met : (x : X) (r : Result Val Error) → R x r → Answers (λ v. v) r (h x)

seen-answer : (a : Result LiteralInstance Error) (r : Result Val Error) (o : Outcome Val) → answer_of a ≡ r → Answers literal_of a o → Answers (λ v. v) r o
seen-answer (Ok l) r o e h = rw (← e) h
seen-answer (Err x) r o e h = rw (← e) h

pub meets-pairs : {F : Type 0} (g : Shared F (Bor LiteralInstance × (Bor LiteralInstance × Unit {0})) (Result LiteralInstance Error)) (f : F) (h : Val → Val → Outcome Val)
    → ((a b : LiteralInstance) (r : Result LiteralInstance Error) → FnReturnsAtPair g f a b r → Answers literal_of r (h (literal_of a) (literal_of b)))
    → Meets (AnswersAtPair g f) (λ p. h p.0 p.1)
meets-pairs g f h k = record {
  met = λ p r a. let e = k a.first a.second a.answer a.returns in
      seen-answer a.answer r (h p.0 p.1) a.gives (rw (a.is_first, a.is_second) at e);
}

pub meets-one : {F : Type 0} (g : Shared F (Bor LiteralInstance × Unit {0}) (Result LiteralInstance Error)) (f : F) (h : Val → Outcome Val)
    → ((a : LiteralInstance) (r : Result LiteralInstance Error) → FnReturnsAt g f a r → Answers literal_of r (h (literal_of a)))
    → Meets (AnswersAt g f) h
meets-one g f h k = record {
  met = λ v r a. let e = k a.literal a.answer a.returns in seen-answer a.answer r (h v) a.gives (rw (a.is) at e);
}

-- ---- what is lifted

refused-so : (o : Option Refusal) (p q : Outcome Vals) → ((r : Refusal) → p ≡ Err r → q ≡ Err r) → IsSomeAnd o (λ r. p ≡ Err r) → IsSomeAnd o (λ r. q ≡ Err r)
refused-so None p q f h = absurd h
refused-so (Some r) p q f h = f r h

first-refused : (o : Option Refusal) (p : Outcome Val) (rest : Outcome Vals) → IsSomeAnd o (λ r. p ≡ Err r) → IsSomeAnd o (λ r. followed p rest ≡ Err r)
first-refused None p rest h = absurd h
first-refused (Some r) p rest h = rw h refl

rest-refused : (o : Option Refusal) (y : Val) (p : Outcome Val) (rest : Outcome Vals) → p ≡ Ok y → IsSomeAnd o (λ r. rest ≡ Err r) → IsSomeAnd o (λ r. followed p rest ≡ Err r)
rest-refused None y p rest e h = absurd h
rest-refused (Some r) y p rest e h = rw (e, h) refl

module _ (R : Val × Val → Result Val Error → Type 0) (h : Val → Val → Outcome Val) (m : Meets R (λ p. h p.0 p.1)) where
  pub answered-pairs : (vs ws : Vals) (us : List Val) → Answered R (zip (listed vs) (listed ws)) us → lifted2 h vs ws ≡ Ok (vals_of us)
  answered-pairs no_vals ws [] a = refl
  answered-pairs no_vals ws (u ∷ us) a = absurd a
  answered-pairs (val v vs) no_vals [] a = refl
  answered-pairs (val v vs) no_vals (u ∷ us) a = absurd a
  answered-pairs (val v vs) (val w ws) [] a = absurd a
  answered-pairs (val v vs) (val w ws) (u ∷ us) a = rw (m.met (v, w) (Ok u) a.0, answered-pairs vs ws us a.1) refl

  pub refused-pairs : (vs ws : Vals) (e : Error) → Refused R (zip (listed vs) (listed ws)) e → IsSomeAnd (refusal_of e) (λ r. lifted2 h vs ws ≡ Err r)
  refused-pairs no_vals ws e a = absurd a
  refused-pairs (val v vs) no_vals e a = absurd a
  refused-pairs (val v vs) (val w ws) e (inl a) = first-refused (refusal_of e) (h v w) (lifted2 h vs ws) (m.met (v, w) (Err e) a)
  refused-pairs (val v vs) (val w ws) e (inr a) = rest-refused (refusal_of e) a.0 (h v w) (lifted2 h vs ws) (m.met (v, w) (Ok a.0) a.1) (refused-pairs vs ws e a.2)

module _ (R : Val → Result Val Error → Type 0) (h : Val → Outcome Val) (m : Meets R h) where
  pub answered-each : (vs : Vals) (us : List Val) → Answered R (listed vs) us → lifted h vs ≡ Ok (vals_of us)
  answered-each no_vals [] a = refl
  answered-each no_vals (u ∷ us) a = absurd a
  answered-each (val v vs) [] a = absurd a
  answered-each (val v vs) (u ∷ us) a = rw (m.met v (Ok u) a.0, answered-each vs us a.1) refl

  pub refused-each : (vs : Vals) (e : Error) → Refused R (listed vs) e → IsSomeAnd (refusal_of e) (λ r. lifted h vs ≡ Err r)
  refused-each no_vals e a = absurd a
  refused-each (val v vs) e (inl a) = first-refused (refusal_of e) (h v) (lifted h vs) (m.met v (Err e) a)
  refused-each (val v vs) e (inr a) = rest-refused (refusal_of e) a.0 (h v) (lifted h vs) (m.met v (Ok a.0) a.1) (refused-each vs e a.2)

-- ---- what calls give

-- a refusal, where the outcome is that
given-refusal : {X : Type 0} (view : X → Val) (e : Error) (o : Outcome Vals) → (e ≡ Memory) ⊎ IsSomeAnd (refusal_of e) (λ r. o ≡ Err r) → Gives view (Err e) (vector_of o)
given-refusal view e o (inl m) = rw m tt
given-refusal view e o (inr h) = by (refusal_of e) h
  where
    by : (q : Option Refusal) → IsSomeAnd q (λ r. o ≡ Err r) → MatchOption q (Unit {0}) (λ r. vector_of o ≡ Err r)
    by None h = absurd h
    by (Some r) h = rw h refl

relisted : (v : VecInstance) → vector (vals_of (components_of (vec_view v))) ≡ vec_view v
relisted v = rw (vec_view-is v) (ap vector (back (vals_view v.components.items)))
  where
    back : (vs : Vals) → vals_of (listed vs) ≡ vs
    back no_vals = refl
    back (val v vs) = ap (val v) (back vs)

either : {A B C : Type 0} → A ⊎ B → (B → C) → A ⊎ C
either (inl a) f = inl a
either (inr b) f = inr (f b)

pub gives-pairs : (R : Val × Val → Result Val Error → Type 0) (h : Val → Val → Outcome Val) → Meets R (λ p. h p.0 p.1) → (vs ws : Vals) (r : Result VecInstance Error)
    → AnswersEach R (zip (listed vs) (listed ws)) (seen (λ v. components_of (vec_view v)) r) → Gives vec_view r (vector_of (lifted2 h vs ws))
gives-pairs R h m vs ws (Ok v) a = rw (answered-pairs R h m vs ws (components_of (vec_view v)) a.each) (ap Ok (relisted v))
gives-pairs R h m vs ws (Err e) a = given-refusal vec_view e (lifted2 h vs ws) (either a.each (refused-pairs R h m vs ws e))

pub gives-each : (R : Val → Result Val Error → Type 0) (h : Val → Outcome Val) → Meets R h → (vs : Vals) (r : Result VecInstance Error)
    → AnswersEach R (listed vs) (seen (λ v. components_of (vec_view v)) r) → Gives vec_view r (vector_of (lifted h vs))
gives-each R h m vs (Ok v) a = rw (answered-each R h m vs (components_of (vec_view v)) a.each) (ap Ok (relisted v))
gives-each R h m vs (Err e) a = given-refusal vec_view e (lifted h vs) (either a.each (refused-each R h m vs e))

refusal-kept : (r : Result VecInstance Error) (q : Refusal) → Gives (λ x. x) (seen (λ v. components_of (vec_view v)) r) (Err q) → Gives vec_view r (Err q)
refusal-kept (Ok v) q h = cc
refusal-kept (Err e) q h = by (refusal_of e) h
  where
    by : (o : Option Refusal) → MatchOption o (Unit {0}) (λ r. ◌≡◌ {A = Outcome (List Val)} (Err q) (Err r)) → MatchOption o (Unit {0}) (λ r. ◌≡◌ {A = Outcome Val} (Err q) (Err r))
    by None h = tt
    by (Some r) h = let e : q ≡ r = cc in ap Err e

-- each two components by themselves
pub gives-components : (op : BinaryOperator) (stage : ShaderStage) (R : Val × Val → Result Val Error → Type 0) → Meets R (λ p. of_literals op stage p.0 p.1) → (v w : VecInstance) (r : Result VecInstance Error)
    → IsWellFormed (vec_view v) → IsWellFormed (vec_view w) → AnswersPairs R (vec_view v) (vec_view w) (seen (λ v. components_of (vec_view v)) r)
    → Gives vec_view r (of_components op stage (vec_view v) (vec_view w))
gives-components op stage R m v w r k l a =
    let e = vec_view-is v in
    let f = vec_view-is w in
    rw (e, f) (at (vals_view v.components.items) (vals_view w.components.items) (rw e at k) (rw f at l) (rw (e, f) at a))
  where
    by : (vs ws : Vals) (b : Bool) → same_paths (vector vs) (vector ws) ≡ b → (count vs == count ws) ≡ b → AnswersPairs R (vector vs) (vector ws) (seen (λ v. components_of (vec_view v)) r)
        → Gives vec_view r (of_components op stage (vector vs) (vector ws))
    by vs ws true s c a = rw c (gives-pairs R (of_literals op stage) m vs ws r (a.equal s))
    by vs ws false s c a = rw c (refusal-kept r (compwise_binary (type_of (vector vs)) (type_of (vector ws))) (a.unequal s))

    at : (vs ws : Vals) → IsWellFormed (vector vs) → IsWellFormed (vector ws) → AnswersPairs R (vector vs) (vector ws) (seen (λ v. components_of (vec_view v)) r)
        → Gives vec_view r (of_components op stage (vector vs) (vector ws))
    at vs ws k l a = by vs ws (count vs == count ws) (literals-shape vs ws k.2 l.2) refl a

-- ---- answers are of one kind

pair-types : (t u : Ty) (vs ws : Vals) (i : ℕ) (p : Val × Val) → AllOfType t vs → AllOfType u ws → slice_get (zip (listed vs) (listed ws)) i ≡ Some p → (type_of p.0 ≡ t) × (type_of p.1 ≡ u)
pair-types t u no_vals ws i p a b h = cc
pair-types t u (val v vs) no_vals i p a b h = cc
pair-types t u (val v vs) (val w ws) zero p a b h = let e : (v, w) ≡ p = cc in rw (← e) (a.0, b.0)
pair-types t u (val v vs) (val w ws) (suc i) p a b h = pair-types t u vs ws i p a.1 b.1 h

answers-one-kind : (op : BinaryOperator) (stage : ShaderStage) (R : Val × Val → Result Val Error → Type 0) → Meets R (λ p. of_literals op stage p.0 p.1) → (vs ws : Vals)
    → AllOfType (first_type vs) vs → AllOfType (first_type ws) ws → AnswersOneKind R (zip (listed vs) (listed ws))
answers-one-kind op stage R m vs ws a b = record {
  one = λ i j x y v w gi gj rx ry.
      let s = pair-types (first_type vs) (first_type ws) vs ws i x a b gi in
      let t = pair-types (first_type vs) (first_type ws) vs ws j y a b gj in
      let e = answer-typed op stage x.0 x.1 v (m.met x (Ok v) rx) in
      let f = answer-typed op stage y.0 y.1 w (m.met y (Ok w) ry) in
      e ∙ ap₂ (answer_type op) (s.0 ∙ sym t.0) (s.1 ∙ sym t.1) ∙ sym f;
}

pub pairs-one-kind : (op : BinaryOperator) (stage : ShaderStage) (R : Val × Val → Result Val Error → Type 0) → Meets R (λ p. of_literals op stage p.0 p.1) → (v w : VecInstance)
    → IsWellFormed (vec_view v) → IsWellFormed (vec_view w) → AnswersOneKind R (pairs_of (vec_view v) (vec_view w))
pairs-one-kind op stage R m v w k l =
    let e = vec_view-is v in
    let f = vec_view-is w in
    rw (e, f) (answers-one-kind op stage R m (vals_view v.components.items) (vals_view w.components.items) (first v _ e k) (first w _ f l))
  where
    first : (x : VecInstance) (vs : Vals) → vec_view x ≡ vector vs → IsWellFormed (vec_view x) → AllOfType (first_type vs) vs
    first x vs e k = let s = rw e at k in s.3

-- ---- one vector

each-typed : (t : Ty) (vs : Vals) (i : ℕ) (x : Val) → AllOfType t vs → slice_get (listed vs) i ≡ Some x → type_of x ≡ t
each-typed t no_vals i x a h = cc
each-typed t (val v vs) zero x a h = let e : v ≡ x = cc in rw (← e) a.0
each-typed t (val v vs) (suc i) x a h = each-typed t vs i x a.1 h

-- the type of the answer depends on the type alone
abbrev pub TypedBy : (Ty → Ty) → (Val → Outcome Val) → Type 0
TypedBy t h = (v x : Val) → h v ≡ Ok x → type_of x ≡ t (type_of v)

each-one-kind : (t : Ty → Ty) (h : Val → Outcome Val) → TypedBy t h → (R : Val → Result Val Error → Type 0) → Meets R h → (vs : Vals) → AllOfType (first_type vs) vs → AnswersOneKind R (listed vs)
each-one-kind t h typed R m vs a = record {
  one = λ i j x y v w gi gj rx ry.
      typed x v (m.met x (Ok v) rx) ∙ ap t (each-typed (first_type vs) vs i x a gi ∙ sym (each-typed (first_type vs) vs j y a gj)) ∙ sym (typed y w (m.met y (Ok w) ry));
}

pub vector-one-kind : (t : Ty → Ty) (h : Val → Outcome Val) → TypedBy t h → (R : Val → Result Val Error → Type 0) → Meets R h → (v : VecInstance) → IsWellFormed (vec_view v)
    → AnswersOneKind R (components_of (vec_view v))
vector-one-kind t h typed R m v k =
    let e = vec_view-is v in
    let s = rw e at k in
    rw e (each-one-kind t h typed R m (vals_view v.components.items) s.3)

pub gives-vector : (R : Val → Result Val Error → Type 0) (h : Val → Outcome Val) → Meets R h → (v : VecInstance) (r : Result VecInstance Error)
    → AnswersEach R (components_of (vec_view v)) (seen (λ v. components_of (vec_view v)) r) → Gives vec_view r (vector_of (lifted h (parts (vec_view v))))
gives-vector R h m v r a =
    let e = vec_view-is v in
    rw e (gives-each R h m (vals_view v.components.items) r (rw e at a))

-- ---- after a conversion

pub converted-refused : {A B : Type 0} (o : Option A) (e : Refusal) (f : A → Outcome B) → o ≡ None → and_then (ok_or e o) f ≡ Err e
converted-refused None e f h = refl
converted-refused (Some x) e f h = cc

same-counts : (v w : VecInstance) → type_of (vec_view v) ≡ type_of (vec_view w) → (count (parts (vec_view v)) == count (parts (vec_view w))) ≡ true
same-counts v w h =
    let e = vec_view-is v in
    let f = vec_view-is w in
    let t = rw (e, f) at h in
    rw (e, f) (eq-eqb (count (vals_view v.components.items)) (count (vals_view w.components.items)) (counts _ _ _ _ t))
  where
    counts : (m n : ℕ) (s t : Ty) → vec m s ≡ vec n t → m ≡ n
    counts m n s t h = cc

-- two vectors of one type have the components joined
pub of-components-is : (op : BinaryOperator) (stage : ShaderStage) (v w : VecInstance) → type_of (vec_view v) ≡ type_of (vec_view w)
    → of_components op stage (vec_view v) (vec_view w) ≡ vector_of (lifted2 (of_literals op stage) (parts (vec_view v)) (parts (vec_view w)))
of-components-is op stage v w h = rw (same-counts v w h) refl
