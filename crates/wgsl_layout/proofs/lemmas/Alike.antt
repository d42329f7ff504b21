-- Values of one type with the same paths are alike, and where a view leads in the one it leads in the other.
use Rattle.std.proofs.Common.{◌≡◌, ℕ, zero, suc, ◌≤◌, List, [], ◌∷◌, Option, Some, None, is_some, option_and_then, Bool, true, false, refl, sym, ap, ◌∙◌, subst, arith}
use Rattle.wgsl_values.proofs.lemmas.Steps.{parts-storable}
use Rattle.std.proofs.lemmas.Bool.{false≢true}
use Rattle.std.proofs.lemmas.Option.{same_Some}
use Rattle.wgsl_rules.specs.Types.{Ty, struct, array, vec, mat, Fields, no_fields, field}
use Rattle.wgsl_rules.specs.Values.{Val, record_of, array_of, vector, matrix, Vals, no_vals, val, count, item, type_of, first_type, matrix_type, array_type, AllOfType, HaveTypes, AreVectors, IsStorable, AreStorable}
use Rattle.wgsl_rules.specs.Paths.{parts, value_at, replace_item, with_parts, put_tree, FitsPlace}
pub use Rattle.wgsl_rules.proofs.lemmas.Paths.{parts-replaced}
use Rattle.wgsl_layout.proofs.lemmas.Places.{part-type}

abbrev pub HasNone : Vals → Type 0
HasNone no_vals = Unit {0}
HasNone (val v vs) = ⊥

abbrev mutual
  pub IsLike : Val → Val → Type 0
  IsLike (record_of t vs) w = (type_of (record_of t vs) ≡ type_of w) × AreLike vs (parts w)
  IsLike (array_of runtime vs) w = (type_of (array_of runtime vs) ≡ type_of w) × AreLike vs (parts w)
  IsLike (vector vs) w = (type_of (vector vs) ≡ type_of w) × AreLike vs (parts w)
  IsLike (matrix vs) w = (type_of (matrix vs) ≡ type_of w) × AreLike vs (parts w)
  IsLike v w = (type_of v ≡ type_of w) × HasNone (parts w)

  pub AreLike : Vals → Vals → Type 0
  AreLike no_vals ws = HasNone ws
  AreLike (val v vs) no_vals = ⊥
  AreLike (val v vs) (val w ws) = IsLike v w × AreLike vs ws

pub like-of : (v w : Val) → type_of v ≡ type_of w → AreLike (parts v) (parts w) → IsLike v w
like-of (record_of t vs) w e h = (e, h)
like-of (array_of runtime vs) w e h = (e, h)
like-of (vector vs) w e h = (e, h)
like-of (matrix vs) w e h = (e, h)
like-of v w e h = (e, h)

pub like-both : (v w : Val) → IsLike v w → (type_of v ≡ type_of w) × AreLike (parts v) (parts w)
like-both (record_of t vs) w h = h
like-both (array_of runtime vs) w h = h
like-both (vector vs) w h = h
like-both (matrix vs) w h = h
like-both v w h = h

mutual
  pub like-self : (v : Val) → IsLike v v
  like-self (record_of t vs) = (refl, alike-self vs)
  like-self (array_of runtime vs) = (refl, alike-self vs)
  like-self (vector vs) = (refl, alike-self vs)
  like-self (matrix vs) = (refl, alike-self vs)
  like-self v = (refl, tt)

  pub alike-self : (vs : Vals) → AreLike vs vs
  alike-self no_vals = tt
  alike-self (val v vs) = (like-self v, alike-self vs)

-- ---- what is put is like what was there

replaced-like : (i : ℕ) (f : Val → Val) (vs : Vals) → ((y : Val) → item i vs ≡ Some y → IsLike y (f y)) → AreLike vs (replace_item i f vs)
replaced-like i f no_vals h = tt
replaced-like zero f (val v vs) h = (h v refl, alike-self vs)
replaced-like (suc i) f (val v vs) h = (like-self v, replaced-like i f vs h)

pub put-like : (p : List ℕ) (w v x : Val) → value_at p v ≡ Some x → IsLike x w → IsLike v (put_tree p w v)
put-like [] w v x e h = let same : x ≡ v = cc in subst (λ (u : Val). IsLike u w) same h
put-like (i ∷ p) w v x e h = whole (λ y is. put-like p w y x (ap (option_and_then (value_at p)) (sym is) ∙ e) h)
  where
    whole : ((y : Val) → item i (parts v) ≡ Some y → IsLike y (put_tree p w y)) → IsLike v (with_parts v (replace_item i (put_tree p w) (parts v)))
    whole f =
        like-of v (with_parts v (replace_item i (put_tree p w) (parts v))) (sym (part-type i (put_tree p w) v (λ y is. sym (like-both y (put_tree p w y) (f y is)).0)))
        (subst (λ (vs : Vals). AreLike (parts v) vs) (sym (parts-replaced i (put_tree p w) v)) (replaced-like i (put_tree p w) (parts v) f))

-- ---- what fits is alike

-- the type of a part, by the type of the whole
field_type : ℕ → Fields → Option Ty
field_type i no_fields = None
field_type zero (field n t s a fs) = Some t
field_type (suc i) (field n t s a fs) = field_type i fs

child_type : Ty → ℕ → Option Ty
child_type (struct n fs) i = field_type i fs
child_type (array t n) i = Some t
child_type (vec n t) i = Some t
child_type (mat c r t) i = Some (vec r t)
child_type t i = None

field-typed : (i : ℕ) (fs : Fields) (vs : Vals) (y : Val) → HaveTypes fs vs → item i vs ≡ Some y → field_type i fs ≡ Some (type_of y)
unfolding field_type
field-typed i no_fields no_vals y h e = absurd (cc)
field-typed i no_fields (val v vs) y h e = absurd h
field-typed i (field n t s a fs) no_vals y h e = absurd h
field-typed zero (field n t s a fs) (val v vs) y h e = ap Some (sym h.0 ∙ ap type_of (same_Some v y e))
field-typed (suc i) (field n t s a fs) (val v vs) y h e = field-typed i fs vs y h.1 e

all-typed : (t : Ty) (i : ℕ) (vs : Vals) (y : Val) → AllOfType t vs → item i vs ≡ Some y → t ≡ type_of y
all-typed t i no_vals y h e = absurd (cc)
all-typed t zero (val v vs) y h e = sym h.0 ∙ ap type_of (same_Some v y e)
all-typed t (suc i) (val v vs) y h e = all-typed t i vs y h.1 e

array-child : (runtime : Bool) (t : Ty) (n i : ℕ) → child_type (array_type runtime t n) i ≡ Some t
unfolding child_type
array-child true t n i = refl
array-child false t n i = refl

matrix-child : (c i : ℕ) (u : Ty) (vs : Vals) → 2 ≤ count vs → AreVectors vs → first_type vs ≡ u → child_type (matrix_type c u) i ≡ Some u
unfolding child_type
matrix-child c i (vec r t) vs le h e = refl
matrix-child c i u no_vals le h e = absurd (omega arith)
matrix-child c i u (val (vector ws) vs) le h e = absurd (cc)
matrix-child c i u (val v vs) le h e = absurd (h.0)

child-typed : (i : ℕ) (v y : Val) → IsStorable v → item i (parts v) ≡ Some y → child_type (type_of v) i ≡ Some (type_of y)
unfolding child_type
child-typed i (record_of (struct n fs) vs) y s e = field-typed i fs vs y s.0 e
child-typed i (record_of t vs) y s e = absurd (s.0)
child-typed i (array_of runtime vs) y s e = array-child runtime (first_type vs) (count vs) i ∙ ap Some (all-typed (first_type vs) i vs y s.1 e)
child-typed i (vector vs) y s e = ap Some (all-typed (first_type vs) i vs y s.3 e)
child-typed i (matrix vs) y s e = matrix-child (count vs) i (first_type vs) vs s.0 s.2 refl ∙ ap Some (all-typed (first_type vs) i vs y s.3 e)
child-typed i v y s e = absurd (cc)

children-typed : (x w : Val) → IsStorable x → IsStorable w → type_of x ≡ type_of w → (i : ℕ) (a b : Val) → item i (parts x) ≡ Some a → item i (parts w) ≡ Some b → type_of a ≡ type_of b
children-typed x w s t e i a b ia ib =
    let same : Some (type_of a) ≡ Some (type_of b) = sym (child-typed i x a s ia) ∙ ap (λ (u : Ty). child_type u i) e ∙ child-typed i w b t ib in
    cc

abbrev SamePaths : Vals → Vals → Type 0
SamePaths vs ws = (i : ℕ) (p : List ℕ) → is_some (option_and_then (value_at p) (item i vs)) ≡ is_some (option_and_then (value_at p) (item i ws))

abbrev SameTypes : Vals → Vals → Type 0
SameTypes vs ws = (i : ℕ) (a b : Val) → item i vs ≡ Some a → item i ws ≡ Some b → type_of a ≡ type_of b

none : (ws : Vals) → SamePaths no_vals ws → AreLike no_vals ws
none no_vals h = tt
none (val w ws) h = absurd (false≢true (h zero []))

mutual
  fit-like : (x w : Val) → IsStorable x → IsStorable w → type_of x ≡ type_of w → ((p : List ℕ) → is_some (value_at p x) ≡ is_some (value_at p w)) → IsLike x w
  fit-like (record_of t vs) w s u e h = (e, fit-all vs (parts w) s.1 (parts-storable w u) (children-typed (record_of t vs) w s u e) (λ i p. h (i ∷ p)))
  fit-like (array_of runtime vs) w s u e h = (e, fit-all vs (parts w) s.2 (parts-storable w u) (children-typed (array_of runtime vs) w s u e) (λ i p. h (i ∷ p)))
  fit-like (vector vs) w s u e h = (e, fit-all vs (parts w) s.4 (parts-storable w u) (children-typed (vector vs) w s u e) (λ i p. h (i ∷ p)))
  fit-like (matrix vs) w s u e h = (e, fit-all vs (parts w) s.4 (parts-storable w u) (children-typed (matrix vs) w s u e) (λ i p. h (i ∷ p)))
  fit-like v w s u e h = (e, none (parts w) (λ i p. h (i ∷ p)))

  fit-all : (xs ws : Vals) → AreStorable xs → AreStorable ws → SameTypes xs ws → SamePaths xs ws → AreLike xs ws
  fit-all no_vals ws s u t h = none ws h
  fit-all (val x xs) no_vals s u t h = absurd (false≢true (sym (h zero [])))
  fit-all (val x xs) (val w ws) s u t h = (fit-like x w s.0 u.0 (t zero x w refl refl) (λ p. h zero p), fit-all xs ws s.1 u.1 (λ i a b. t (suc i) a b) (λ i p. h (suc i) p))

pub fits-like : (w x : Val) → IsStorable w → IsStorable x → FitsPlace w x → IsLike x w
fits-like w x s t h = fit-like x w t s (sym h.0) (λ p. sym (h.1 p))
