-- What is put at a path of a value: it stands there, what stands apart from it stays, and the type and the
-- count of the whole stay.
use Rattle.std.proofs.Common.{◌≡◌, ℕ, zero, suc, List, [], ◌∷◌, Option, Some, None, is_some, option_and_then, Bool, true, false, refl, sym, ap, ◌∙◌, subst}
use Rattle.std.proofs.lemmas.Bool.{false≢true}
use Rattle.std.proofs.Common.{◌⊎◌}
use mathlib.Core.Logic.{inl, inr}
use Rattle.wgsl_rules.specs.Kinds as kinds
use Rattle.wgsl_rules.specs.Kinds.{Kind}
use Rattle.wgsl_rules.specs.Types.{Ty, struct, array, vec, Fields, no_fields, field}
use Rattle.wgsl_rules.specs.Values.{Val, truth, number, record_of, array_of, vector, matrix, atomic_of, pointer, reference, deferred, Vals, no_vals, val, count, item, type_of, type_of_kind, first_type, matrix_type, array_type, HaveTypes, IsStorable, AreStorable}
use Rattle.wgsl_rules.specs.Paths.{parts, value_at, replace_item, with_parts, put_tree, FitsPlace}
use Rattle.wgsl_rules.specs.Layout.{elements, last_elements, runtime_count}
pub use Rattle.wgsl_values.proofs.lemmas.Replaced.{part-storable, put-type}

-- ---- the type of the whole stays

replaced-count : (i : ℕ) (f : Val → Val) (vs : Vals) → count (replace_item i f vs) ≡ count vs
replaced-count i f no_vals = refl
replaced-count zero f (val v vs) = refl
replaced-count (suc i) f (val v vs) = ap suc (replaced-count i f vs)

replaced-first : (i : ℕ) (f : Val → Val) (vs : Vals) → ((y : Val) → item i vs ≡ Some y → type_of (f y) ≡ type_of y) → first_type (replace_item i f vs) ≡ first_type vs
replaced-first i f no_vals h = refl
replaced-first zero f (val v vs) h = h v refl
replaced-first (suc i) f (val v vs) h = refl

-- a part that is replaced by one of its type
pub part-type : (i : ℕ) (f : Val → Val) (v : Val) → ((y : Val) → item i (parts v) ≡ Some y → type_of (f y) ≡ type_of y) → type_of (with_parts v (replace_item i f (parts v))) ≡ type_of v
part-type i f (record_of t vs) h = refl
part-type i f (array_of runtime vs) h = ap (λ (t : Ty). array_type runtime t (count (replace_item i f vs))) (replaced-first i f vs h) ∙ ap (array_type runtime (first_type vs)) (replaced-count i f vs)
part-type i f (vector vs) h = ap (λ (n : ℕ). vec n (first_type (replace_item i f vs))) (replaced-count i f vs) ∙ ap (vec (count vs)) (replaced-first i f vs h)
part-type i f (matrix vs) h = ap (λ (n : ℕ). matrix_type n (first_type (replace_item i f vs))) (replaced-count i f vs) ∙ ap (matrix_type (count vs)) (replaced-first i f vs h)
part-type i f v h = refl

-- what is at a path below a part
below : (p : List ℕ) (o : Option Val) (x y : Val) → option_and_then (value_at p) o ≡ Some x → o ≡ Some y → value_at p y ≡ Some x
below p o x y e is = ap (option_and_then (value_at p)) (sym is) ∙ e

-- ---- the count of the whole stays

open_count : Ty → ℕ → ℕ
open_count (array t None) n = n
open_count t n = 0

no-kind : (k : Kind) (n : ℕ) → open_count (type_of_kind k) n ≡ 0
unfolding open_count
no-kind kinds.abstract_int n = refl
no-kind kinds.i32 n = refl
no-kind kinds.u32 n = refl
no-kind kinds.i64 n = refl
no-kind kinds.u64 n = refl

no-matrix : (c : ℕ) (u : Ty) (n : ℕ) → open_count (matrix_type c u) n ≡ 0
unfolding open_count
no-matrix c (vec r t) n = refl
no-matrix c u n = refl

elements-typed : (v : Val) → IsStorable v → elements v ≡ open_count (type_of v) (count (parts v))
unfolding open_count
elements-typed (truth b) s = refl
elements-typed (number k z) s = sym (no-kind k (count (parts (number k z))))
elements-typed (record_of (struct n fs) vs) s = refl
elements-typed (record_of t vs) s = absurd (s.0)
elements-typed (array_of true vs) s = refl
elements-typed (array_of false vs) s = refl
elements-typed (vector vs) s = refl
elements-typed (matrix vs) s = sym (no-matrix (count vs) (first_type vs) (count vs))
elements-typed (atomic_of v) s = refl
elements-typed (pointer r) s = refl
elements-typed (reference r) s = refl
elements-typed (deferred t) s = absurd s

same-count : (vs ws : Vals) → ((i : ℕ) → is_some (item i vs) ≡ is_some (item i ws)) → count vs ≡ count ws
same-count no_vals no_vals h = refl
same-count no_vals (val w ws) h = absurd (false≢true (h 0))
same-count (val v vs) no_vals h = absurd (false≢true (sym (h 0)))
same-count (val v vs) (val w ws) h = ap suc (same-count vs ws (λ i. h (suc i)))

one-step : (o : Option Val) → is_some (option_and_then (value_at []) o) ≡ is_some o
one-step None = refl
one-step (Some x) = refl

fits-elements : (w x : Val) → IsStorable w → IsStorable x → FitsPlace w x → elements w ≡ elements x
fits-elements w x s t h =
    let counts = same-count (parts w) (parts x) (λ i. sym (one-step (item i (parts w))) ∙ h.1 (i ∷ []) ∙ one-step (item i (parts x))) in
    elements-typed w s ∙ ap (λ (u : Ty). open_count u (count (parts w))) h.0 ∙ ap (open_count (type_of x)) counts ∙ sym (elements-typed x t)

-- members of the same types with the same paths
fits-last : (fs : Fields) (ws xs : Vals) (m n : ℕ) → m ≡ n → HaveTypes fs ws → HaveTypes fs xs → AreStorable ws → AreStorable xs
    → ((i : ℕ) (p : List ℕ) → is_some (option_and_then (value_at p) (item i ws)) ≡ is_some (option_and_then (value_at p) (item i xs))) → last_elements m ws ≡ last_elements n xs
fits-last no_fields no_vals no_vals m n e a b s t h = e
fits-last no_fields no_vals (val x xs) m n e a b s t h = absurd b
fits-last no_fields (val w ws) xs m n e a b s t h = absurd a
fits-last (field name u z g fs) no_vals xs m n e a b s t h = absurd a
fits-last (field name u z g fs) (val w ws) no_vals m n e a b s t h = absurd b
fits-last (field name u z g fs) (val w ws) (val x xs) m n e a b s t h =
    fits-last fs ws xs (elements w) (elements x) (fits-elements w x s.0 t.0 (a.0 ∙ sym b.0, λ p. h 0 p)) a.1 b.1 s.1 t.1 (λ i p. h (suc i) p)

is_record : Ty → Bool
is_record (struct n fs) = true
is_record t = false

record-kind : (k : Kind) → is_record (type_of_kind k) ≡ false
unfolding is_record
record-kind kinds.abstract_int = refl
record-kind kinds.i32 = refl
record-kind kinds.u32 = refl
record-kind kinds.i64 = refl
record-kind kinds.u64 = refl

record-matrix : (c : ℕ) (u : Ty) → is_record (matrix_type c u) ≡ false
unfolding is_record
record-matrix c (vec r t) = refl
record-matrix c u = refl

record-array : (runtime : Bool) (u : Ty) (n : ℕ) → is_record (array_type runtime u n) ≡ false
unfolding is_record
record-array true u n = refl
record-array false u n = refl

-- a value is a struct's, or its count is that of its elements
Kinds : Val → Type 0
Kinds v = ((t : Ty) × (vs : Vals) × (v ≡ record_of t vs)) ⊎ ((is_record (type_of v) ≡ false) × (runtime_count v ≡ elements v))

sorted : (v : Val) → IsStorable v → Kinds v
unfolding Kinds is_record
sorted (truth b) s = inr (refl, refl)
sorted (number k z) s = inr (record-kind k, refl)
sorted (record_of t vs) s = inl (t, vs, refl)
sorted (array_of runtime vs) s = inr (record-array runtime (first_type vs) (count vs), refl)
sorted (vector vs) s = inr (refl, refl)
sorted (matrix vs) s = inr (record-matrix (count vs) (first_type vs), refl)
sorted (atomic_of v) s = inr (refl, refl)
sorted (pointer r) s = inr (refl, refl)
sorted (reference r) s = inr (refl, refl)
sorted (deferred t) s = absurd s

is-record : (t : Ty) (vs : Vals) → IsStorable (record_of t vs) → is_record t ≡ true
unfolding is_record
is-record (struct n fs) vs s = refl
is-record t vs s = absurd (s.0)

records-count : (t u : Ty) (ws xs : Vals) → IsStorable (record_of t ws) → IsStorable (record_of u xs) → t ≡ u
    → ((p : List ℕ) → is_some (value_at p (record_of t ws)) ≡ is_some (value_at p (record_of u xs))) → last_elements 0 ws ≡ last_elements 0 xs
records-count (struct n fs) u ws xs s t e h =
    let other : IsStorable (record_of (struct n fs) xs) = subst (λ (q : Ty). IsStorable (record_of q xs)) (sym e) t in
    fits-last fs ws xs 0 0 refl s.0 other.0 s.1 other.1 (λ i p. h (i ∷ p))
records-count t' u ws xs s t e h = absurd (s.0)

pub fits-count : (w x : Val) → IsStorable w → IsStorable x → FitsPlace w x → runtime_count w ≡ runtime_count x
unfolding Kinds
fits-count w x s t h = by (sorted w s) (sorted x t)
  where
    by : Kinds w → Kinds x → runtime_count w ≡ runtime_count x
    by (inl a) (inl b) =
        let sw = subst IsStorable a.2 s in
        let sx = subst IsStorable b.2 t in
        let same = subst (λ (v : Val). FitsPlace v (record_of b.0 b.1)) a.2 (subst (λ (v : Val). FitsPlace w v) b.2 h) in
        ap runtime_count a.2 ∙ records-count a.0 b.0 a.1 b.1 sw sx same.0 same.1 ∙ sym (ap runtime_count b.2)
    by (inl a) (inr b) = absurd (false≢true (sym b.0 ∙ ap is_record (sym h.0 ∙ ap type_of a.2) ∙ is-record a.0 a.1 (subst IsStorable a.2 s)))
    by (inr a) (inl b) = absurd (false≢true (sym a.0 ∙ ap is_record (h.0 ∙ ap type_of b.2) ∙ is-record b.0 b.1 (subst IsStorable b.2 t)))
    by (inr a) (inr b) = a.1 ∙ fits-elements w x s t h ∙ sym b.1

-- a part that is replaced by one with as many elements
replaced-last : (i m : ℕ) (f : Val → Val) (vs : Vals) → ((y : Val) → item i vs ≡ Some y → elements (f y) ≡ elements y) → last_elements m (replace_item i f vs) ≡ last_elements m vs
replaced-last i m f no_vals h = refl
replaced-last zero m f (val v vs) h = ap (λ (n : ℕ). last_elements n vs) (h v refl)
replaced-last (suc i) m f (val v vs) h = replaced-last i (elements v) f vs h

part-elements : (i : ℕ) (f : Val → Val) (v : Val) → elements (with_parts v (replace_item i f (parts v))) ≡ elements v
part-elements i f (array_of true vs) = replaced-count i f vs
part-elements i f (array_of false vs) = refl
part-elements i f (record_of t vs) = refl
part-elements i f (vector vs) = refl
part-elements i f (matrix vs) = refl
part-elements i f v = refl

put-elements : (p : List ℕ) (w v x : Val) → value_at p v ≡ Some x → elements w ≡ elements x → elements (put_tree p w v) ≡ elements v
put-elements [] w v x e h = let same : v ≡ x = cc in h ∙ ap elements (sym same)
put-elements (i ∷ p) w v x e h = part-elements i (put_tree p w) v

part-count : (i : ℕ) (f : Val → Val) (v : Val) → ((y : Val) → item i (parts v) ≡ Some y → elements (f y) ≡ elements y) → runtime_count (with_parts v (replace_item i f (parts v))) ≡ runtime_count v
part-count i f (record_of t vs) h = replaced-last i 0 f vs h
part-count i f (array_of true vs) h = replaced-count i f vs
part-count i f (array_of false vs) h = refl
part-count i f (vector vs) h = refl
part-count i f (matrix vs) h = refl
part-count i f v h = refl

pub put-count : (p : List ℕ) (w v x : Val) → IsStorable w → IsStorable x → value_at p v ≡ Some x → FitsPlace w x → runtime_count (put_tree p w v) ≡ runtime_count v
put-count [] w v x s t e h = let same : v ≡ x = cc in fits-count w x s t h ∙ ap runtime_count (sym same)
put-count (i ∷ p) w v x s t e h = part-count i (put_tree p w) v (λ y is. put-elements p w y x (below p (item i (parts v)) x y e is) (fits-elements w x s t h))
