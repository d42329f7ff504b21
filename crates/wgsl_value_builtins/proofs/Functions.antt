-- From what a closure over a function of literals answers to the function, taken to vectors.
use Rattle.std.proofs.Common.{◌≡◌, ◌∙◌, ℕ, zero, suc, ◌-◌, ℤ, true, Some, Result, Ok, refl, sym, ap, arith}
use Rattle.std.specs.List.{zip}
use Rattle.std.specs.Prelude.{slice_get}
use Rattle.wgsl_value_ops.proofs.Lifting.{Meets, gives-pairs}
use Rattle.wgsl_value_ops.specs.Closures.{AnswersOneKind, AnswersPairs, components_of, pairs_of, seen}
use Rattle.wgsl_value_ops.specs.Lift.{lifted2, vector_of}
use Rattle.wgsl_rules.specs.Kinds.{Kind}
use Rattle.wgsl_rules.specs.Paths.{all_same_paths, parts, same_paths}
use Rattle.wgsl_rules.specs.Refusals.{Outcome}
use Rattle.wgsl_rules.specs.Types.{Ty, vec}
use Rattle.wgsl_rules.specs.Values.{Val, truth, number, vector, Vals, no_vals, val, count, first_type, type_of, AllOfType, AreLiterals, IsLiteral, IsWellFormed}
use Rattle.wgsl_scalar.specs.Answers.{Gives}
use Rattle.wgsl_scalar.specs.BitFields.{extracted_in, first_leading_in, first_trailing_in, reversed_in}
use Rattle.wgsl_scalar.specs.Bits.{bit}
use Rattle.wgsl_scalar.specs.Counts.{with_number}
use Rattle.wgsl_scalar.specs.declared.error.Error.{Error}
use Rattle.wgsl_value_builtins.proofs.BitAnswers.{bits-literal, inserted-literal, on_word-literal, wrapped-literal}
use Rattle.wgsl_value_builtins.proofs.Lifted.{GivesLiteral2}
use Rattle.wgsl_value_builtins.proofs.NumericAnswers.{minimum-literal, maximum-literal}
use Rattle.wgsl_value_builtins.specs.Functions.{binary_value, unary_value}
use Rattle.wgsl_value_builtins.specs.declared.lifts.BinaryFunction.{BinaryFunction}
use Rattle.wgsl_value_builtins.specs.declared.lifts.BinaryFunction.TheVariants as between
use Rattle.wgsl_value_builtins.specs.declared.lifts.UnaryFunction.{UnaryFunction}
use Rattle.wgsl_value_builtins.specs.declared.lifts.UnaryFunction.TheVariants as before
use Rattle.wgsl_values.proofs.lemmas.Views.{vec_view-is}
use Rattle.wgsl_values.specs.Iterators.{listed}
use Rattle.wgsl_values.specs.View.{vals_view, vec_view}
use Rattle.wgsl_values.specs.declared.vector.VecInstance.{VecInstance}
use Rattle.wgsl_layout.proofs.Locating.{vec-same as one-type}

-- ---- a function of one literal keeps its type

abbrev KeepsType : (Val → Outcome Val) → Type 0
KeepsType f = (v x : Val) → f v ≡ Ok x → type_of x ≡ type_of v

with_number-typed : (f : Kind → ℤ → ℤ) → KeepsType (with_number f)
with_number-typed f (number k z) x e = let same : number k (f k z) ≡ x = cc in ap type_of (sym same)
with_number-typed f v x e = absurd (cc)

pub unary-typed : (f : UnaryFunction) → KeepsType (unary_value f)
unary-typed before.Abs v x e = with_number-typed _ v x e
unary-typed before.Sign v x e = with_number-typed _ v x e
unary-typed before.CountLeadingZeros v x e = with_number-typed _ v x e
unary-typed before.CountOneBits v x e = with_number-typed _ v x e
unary-typed before.CountTrailingZeros v x e = with_number-typed _ v x e
unary-typed before.FirstLeadingBit v x e = (on_word-literal first_leading_in (λ k z. wrapped-literal k _) (type_of v) v x refl e).typed
unary-typed before.FirstTrailingBit v x e = (on_word-literal first_trailing_in (λ k z. wrapped-literal k _) (type_of v) v x refl e).typed
unary-typed before.ReverseBits v x e = (on_word-literal reversed_in (λ k z. bits-literal k (λ i. bit z (31 - i))) (type_of v) v x refl e).typed
unary-typed (before.ExtractBits offset count) v x e = (on_word-literal (extracted_in offset count) (λ k z. bits-literal k _) (type_of v) v x refl e).typed

-- ---- a function of two literals of one type keeps it

pub binary-literal : (f : BinaryFunction) (t : Ty) → GivesLiteral2 (binary_value f) t
binary-literal between.Min t = minimum-literal t
binary-literal between.Max t = maximum-literal t
binary-literal (between.InsertBits offset count) t = inserted-literal offset count t

pair-types : (t : Ty) (vs ws : Vals) (i : ℕ) (p : Val × Val) → AllOfType t vs → AllOfType t ws → slice_get (zip (listed vs) (listed ws)) i ≡ Some p → (type_of p.0 ≡ t) × (type_of p.1 ≡ t)
pair-types t no_vals ws i p a b h = cc
pair-types t (val v vs) no_vals i p a b h = cc
pair-types t (val v vs) (val w ws) zero p a b h = let e : (v, w) ≡ p = cc in rw (← e) (a.0, b.0)
pair-types t (val v vs) (val w ws) (suc i) p a b h = pair-types t vs ws i p a.1 b.1 h

literals-one-kind : (f : BinaryFunction) (t : Ty) (R : Val × Val → Result Val Error → Type 0) → Meets R (λ p. binary_value f p.0 p.1) → (vs ws : Vals) → AllOfType t vs → AllOfType t ws
    → AnswersOneKind R (zip (listed vs) (listed ws))
literals-one-kind f t R m vs ws a b = record {
  one = λ i j x y v w gi gj rx ry.
      let s = pair-types t vs ws i x a b gi in
      let u = pair-types t vs ws j y a b gj in
      (binary-literal f t x.0 x.1 v s.0 s.1 (m.met x (Ok v) rx)).typed ∙ sym ((binary-literal f t y.0 y.1 w u.0 u.1 (m.met y (Ok w) ry)).typed);
}

-- ---- vectors of one type

one-count : (m n : ℕ) (t u : Ty) → vec m t ≡ vec n u → m ≡ n
one-count m n t u h = cc

literal-paths : (v w : Val) → IsLiteral v → IsLiteral w → same_paths v w ≡ true
literal-paths (truth a) (truth b) k l = refl
literal-paths (truth a) (number j y) k l = refl
literal-paths (number i x) (truth b) k l = refl
literal-paths (number i x) (number j y) k l = refl
literal-paths (truth a) w k l = absurd l
literal-paths (number i x) w k l = absurd l
literal-paths v w k l = absurd k

literals-paths : (vs ws : Vals) → AreLiterals vs → AreLiterals ws → count vs ≡ count ws → all_same_paths vs ws ≡ true
literals-paths no_vals no_vals k l c = refl
literals-paths no_vals (val w ws) k l c = absurd (omega arith)
literals-paths (val v vs) no_vals k l c = absurd (omega arith)
literals-paths (val v vs) (val w ws) k l c = rw (literal-paths v w k.0 l.0) (literals-paths vs ws k.1 l.1 (omega arith))

module _ (f : BinaryFunction) (R : Val × Val → Result Val Error → Type 0) (m : Meets R (λ p. binary_value f p.0 p.1)) where
  one-kind-of : (vs ws : Vals) → IsWellFormed (vector vs) → IsWellFormed (vector ws) → type_of (vector vs) ≡ type_of (vector ws) → AnswersOneKind R (zip (listed vs) (listed ws))
  one-kind-of vs ws k l h =
      let firsts = one-type (count vs) (count ws) (first_type vs) (first_type ws) h in
      literals-one-kind f (first_type vs) R m vs ws k.3 (rw firsts l.3)

  gives-of : (vs ws : Vals) (r : Result VecInstance Error) → IsWellFormed (vector vs) → IsWellFormed (vector ws) → type_of (vector vs) ≡ type_of (vector ws)
      → AnswersPairs R (vector vs) (vector ws) (seen (λ v. components_of (vec_view v)) r) → Gives vec_view r (vector_of (lifted2 (binary_value f) vs ws))
  gives-of vs ws r k l h a =
      let counts = one-count (count vs) (count ws) (first_type vs) (first_type ws) h in
      gives-pairs R (binary_value f) m vs ws r (a.equal (literals-paths vs ws k.2 l.2 counts))

  pub vectors-one-kind : (v w : VecInstance) → IsWellFormed (vec_view v) → IsWellFormed (vec_view w) → type_of (vec_view v) ≡ type_of (vec_view w)
      → AnswersOneKind R (pairs_of (vec_view v) (vec_view w))
  vectors-one-kind v w k l h =
      let e = vec_view-is v in
      let f = vec_view-is w in
      rw (e, f) (one-kind-of (vals_view v.components.items) (vals_view w.components.items) (rw e at k) (rw f at l) (rw (e, f) at h))

  pub gives-vectors : (v w : VecInstance) (r : Result VecInstance Error) → IsWellFormed (vec_view v) → IsWellFormed (vec_view w) → type_of (vec_view v) ≡ type_of (vec_view w)
      → AnswersPairs R (vec_view v) (vec_view w) (seen (λ v. components_of (vec_view v)) r)
      → Gives vec_view r (vector_of (lifted2 (binary_value f) (parts (vec_view v)) (parts (vec_view w))))
  gives-vectors v w r k l h a =
      let e = vec_view-is v in
      let d = vec_view-is w in
      rw (e, d) (gives-of (vals_view v.components.items) (vals_view w.components.items) r (rw e at k) (rw d at l) (rw (e, d) at h) (rw (e, d) at a))
