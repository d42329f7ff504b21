-- The laws of conversion, of values.
use Rattle.std.proofs.Common.{◌≡◌, ◌∙◌, ℕ, zero, suc, ℤ, ◌<◌, List, [], ◌∷◌, Bool, true, false, ◌==◌, Option, Some, None, option_map, option_and_then, if◌then◌else◌, refl, sym, ap, ap₂, subst, arith}
use Rattle.std.proofs.lemmas.Bool.{eqb-true, eq-eqb}
use Rattle.wgsl_rules.specs.Converted.{converted, all_converted, inner_converted, abstract_converted, kept, joined, type_count}
use Rattle.wgsl_rules.specs.Equal.{same-Decides, number_decided}
use Rattle.wgsl_rules.specs.Kinds as kinds
use Rattle.wgsl_rules.specs.Kinds.{Kind, in_kind}
use Rattle.wgsl_rules.specs.Laws.{number_of, ConversionsKeepNumbers, InnerConversionsGiveTheirType}
use Rattle.wgsl_rules.specs.Paths.{value_at}
use Rattle.wgsl_rules.specs.Same.{same, same_number}
use Rattle.wgsl_rules.specs.TypeParts.{inner_type, with_inner}
use Rattle.wgsl_rules.specs.Types as types
use Rattle.wgsl_rules.specs.Types.{Ty}
use Rattle.wgsl_rules.specs.Values.{Val, truth, number, array_of, vector, matrix, deferred, Vals, no_vals, val, count, item, type_of, type_of_kind, first_type, array_type, matrix_type, IsWellFormed, IsStorable, AreStorable, AllOfType, IsLiteral, AreLiterals, IsVector, AreVectors}

-- ---- what a conversion is made of

pub record IsMapped (b : Bool) (f : Vals → Val) (o : Option Vals) (w : Val) : Type 0 where
  pub parts : Vals
  pub test : b ≡ true
  pub gives : o ≡ Some parts
  pub is : w ≡ f parts

pub mapped : (b : Bool) (f : Vals → Val) (o : Option Vals) (w : Val) → (if b then option_map f o else None) ≡ Some w → IsMapped b f o w
mapped false f o w h = cc
mapped true f None w h = cc
mapped true f (Some vs) w h = record { parts = vs; test = refl; gives = refl; is = let e : w ≡ f vs = cc in e }

pub record IsJoined (o : Option Val) (p : Option Vals) (ws : Vals) : Type 0 where
  pub first : Val
  pub rest : Vals
  pub first_is : o ≡ Some first
  pub rest_is : p ≡ Some rest
  pub is : ws ≡ val first rest

pub joins : (o : Option Val) (p : Option Vals) (ws : Vals) → joined o p ≡ Some ws → IsJoined o p ws
joins None p ws h = cc
joins (Some x) None ws h = cc
joins (Some x) (Some xs) ws h = record { first = x; rest = xs; first_is = refl; rest_is = refl; is = let e : ws ≡ val x xs = cc in e }

tested : (b : Bool) (x w : Val) → (if b then Some x else None) ≡ Some w → (b ≡ true) × (w ≡ x)
tested true x w h = (refl, let e : w ≡ x = cc in e)
tested false x w h = cc

-- what is kept is the value itself, of its own type
pub keeps : (v w : Val) (t : Ty) → kept v t ≡ Some w → (type_of v ≡ t) × (w ≡ v)
keeps v w t h = let e = tested (same (type_of v) t) v w h in ((same-Decides (type_of v) t).0 e.0, e.1)

kept-own : (v : Val) → kept v (type_of v) ≡ Some v
kept-own v = rw ((same-Decides (type_of v) (type_of v)).1 refl) refl

array_type-is : (runtime : Bool) (t : Ty) (n : ℕ) → array_type runtime t n ≡ types.array t (type_count runtime n)
array_type-is true t n = refl
array_type-is false t n = refl

-- ---- a value in its own type

mutual
  own : (v : Val) → IsStorable v → converted v (type_of v) ≡ Some v
  own (number kinds.abstract_int z) h = refl
  own (array_of runtime vs) h =
      rw (array_type-is runtime (first_type vs) (count vs), (number_decided (type_count runtime (count vs)) (type_count runtime (count vs))).1 refl)
      (ap (option_map (array_of runtime)) (all_own vs (first_type vs) h.1 h.2))
  own (vector vs) h = rw (eq-eqb (count vs) (count vs) refl) (ap (option_map vector) (all_own vs (first_type vs) h.3 h.4))
  own (matrix (val (vector us) vs)) h =
      rw (eq-eqb (count (val (vector us) vs)) (count (val (vector us) vs)) refl)
      (ap (option_map matrix) (all_own (val (vector us) vs) (type_of (vector us)) h.3 h.4))
  own (matrix no_vals) h = absurd (omega (arith, h.0))
  own (matrix (val v vs)) h = absurd h.2.0
  own v h = kept-own v

  all_own : (vs : Vals) (t : Ty) → AllOfType t vs → AreStorable vs → all_converted vs t ≡ Some vs
  all_own no_vals t h k = refl
  all_own (val v vs) t h k =
      let first : converted v t ≡ Some v = rw (← h.0) (own v k.0) in
      rw first (ap (joined (Some v)) (all_own vs t h.1 k.1))

pub converted-own : (v : Val) → IsWellFormed v → converted v (type_of v) ≡ Some v
converted-own (deferred t) h = kept-own (deferred t)
converted-own v h = own v h

-- ---- the type of what a conversion gives

same_count : (vs ws : Vals) (t : Ty) → all_converted vs t ≡ Some ws → count ws ≡ count vs
same_count no_vals ws t h = let e : ws ≡ no_vals = cc in ap count e
same_count (val v vs) ws t h =
    let j = joins (converted v t) (all_converted vs t) ws h in
    ap count j.is ∙ ap suc (same_count vs j.rest t j.rest_is)

first-typed : (ws : Vals) (t : Ty) → 0 < count ws → AllOfType t ws → first_type ws ≡ t
first-typed no_vals t h k = absurd (omega arith)
first-typed (val w ws) t h k = k.0

number-type : (z : ℤ) (t : Ty) (w : Val) → abstract_converted z t ≡ Some w → type_of w ≡ t
number-type z types.abstract_int w h = let e : w ≡ number kinds.abstract_int z = cc in ap type_of e
number-type z types.i32 w h = ap type_of (tested (in_kind kinds.i32 z) (number kinds.i32 z) w h).1
number-type z types.u32 w h = ap type_of (tested (in_kind kinds.u32 z) (number kinds.u32 z) w h).1
number-type z t w h = cc

kept-type : (v w : Val) (t : Ty) → kept v t ≡ Some w → type_of w ≡ t
kept-type v w t h = let k = keeps v w t h in ap type_of k.1 ∙ k.0

mutual
  gives_type : (v w : Val) (t : Ty) → IsStorable v → converted v t ≡ Some w → type_of w ≡ t
  gives_type (number kinds.abstract_int z) w t well h = number-type z t w h
  gives_type (array_of runtime vs) w (types.array t n) well h =
      let m = mapped (same_number (type_count runtime (count vs)) n) (array_of runtime) (all_converted vs t) w h in
      let c = same_count vs m.parts t m.gives in
      let e = first-typed m.parts t (omega (arith, well.0)) (all_give_type vs m.parts t well.2 m.gives) in
      let n_is = (number_decided (type_count runtime (count vs)) n).0 m.test in
      ap type_of m.is ∙ array_type-is runtime (first_type m.parts) (count m.parts) ∙ ap₂ types.array e (ap (type_count runtime) c ∙ n_is)
  gives_type (vector vs) w (types.vec n t) well h =
      let m = mapped (count vs == n) vector (all_converted vs t) w h in
      let c = same_count vs m.parts t m.gives in
      let e = first-typed m.parts t (omega (arith, well.0)) (all_give_type vs m.parts t well.4 m.gives) in
      ap type_of m.is ∙ ap₂ types.vec (c ∙ eqb-true (count vs) n m.test) e
  gives_type (matrix vs) w (types.mat n r t) well h =
      let m = mapped (count vs == n) matrix (all_converted vs (types.vec r t)) w h in
      let c = same_count vs m.parts (types.vec r t) m.gives in
      let e = first-typed m.parts (types.vec r t) (omega (arith, well.0)) (all_give_type vs m.parts (types.vec r t) well.4 m.gives) in
      ap type_of m.is ∙ ap₂ matrix_type (c ∙ eqb-true (count vs) n m.test) e
  gives_type v w t well h = kept-type v w t h

  all_give_type : (vs ws : Vals) (t : Ty) → AreStorable vs → all_converted vs t ≡ Some ws → AllOfType t ws
  all_give_type no_vals ws t well h = let e : no_vals ≡ ws = cc in rw (← e) tt
  all_give_type (val v vs) ws t well h =
      let j = joins (converted v t) (all_converted vs t) ws h in
      rw j.is (gives_type v j.first t well.0 j.first_is, all_give_type vs j.rest t well.1 j.rest_is)

pub converted-type : (v w : Val) (t : Ty) → IsWellFormed v → converted v t ≡ Some w → type_of w ≡ t
converted-type (deferred s) w t well h = kept-type (deferred s) w t h
converted-type v w t well h = gives_type v w t well h

-- ---- what a conversion gives is well-formed

number-literal : (z : ℤ) (t : Ty) (w : Val) → abstract_converted z t ≡ Some w → IsLiteral w
number-literal z types.abstract_int w h = let e : w ≡ number kinds.abstract_int z = cc in rw e tt
number-literal z types.i32 w h = rw ((tested (in_kind kinds.i32 z) (number kinds.i32 z) w h).1) tt
number-literal z types.u32 w h = rw ((tested (in_kind kinds.u32 z) (number kinds.u32 z) w h).1) tt
number-literal z t w h = cc

number-storable : (z : ℤ) (t : Ty) (w : Val) → IsStorable (number kinds.abstract_int z) → abstract_converted z t ≡ Some w → IsStorable w
number-storable z types.abstract_int w well h = let e : w ≡ number kinds.abstract_int z = cc in rw e well
number-storable z types.i32 w well h = let e = tested (in_kind kinds.i32 z) (number kinds.i32 z) w h in rw e.1 e.0
number-storable z types.u32 w well h = let e = tested (in_kind kinds.u32 z) (number kinds.u32 z) w h in rw e.1 e.0
number-storable z t w well h = cc

kept-has : (P : Val → Type 0) (v w : Val) (t : Ty) → P v → kept v t ≡ Some w → P w
kept-has P v w t p h = subst P (sym (keeps v w t h).1) p

literal : (v w : Val) (t : Ty) → IsLiteral v → converted v t ≡ Some w → IsLiteral w
literal (number kinds.abstract_int z) w t l h = number-literal z t w h
literal (truth b) w t l h = kept-has IsLiteral (truth b) w t l h
literal (number k z) w t l h = kept-has IsLiteral (number k z) w t l h
literal v w t l h = absurd l

literals : (vs ws : Vals) (t : Ty) → AreLiterals vs → all_converted vs t ≡ Some ws → AreLiterals ws
literals no_vals ws t l h = let e : no_vals ≡ ws = cc in rw (← e) tt
literals (val v vs) ws t l h =
    let j = joins (converted v t) (all_converted vs t) ws h in
    rw j.is (literal v j.first t l.0 j.first_is, literals vs j.rest t l.1 j.rest_is)

is_vector : (v w : Val) (t : Ty) → IsVector v → converted v t ≡ Some w → IsVector w
is_vector (vector vs) w (types.vec n t) l h = rw ((mapped (count vs == n) vector (all_converted vs t) w h).is) tt
is_vector (vector vs) w t l h = kept-has IsVector (vector vs) w t l h
is_vector v w t l h = absurd l

vectors : (vs ws : Vals) (t : Ty) → AreVectors vs → all_converted vs t ≡ Some ws → AreVectors ws
vectors no_vals ws t l h = let e : no_vals ≡ ws = cc in rw (← e) tt
vectors (val v vs) ws t l h =
    let j = joins (converted v t) (all_converted vs t) ws h in
    rw j.is (is_vector v j.first t l.0 j.first_is, vectors vs j.rest t l.1 j.rest_is)

mutual
  storable : (v w : Val) (t : Ty) → IsStorable v → converted v t ≡ Some w → IsStorable w
  storable (number kinds.abstract_int z) w t well h = number-storable z t w well h
  storable (array_of runtime vs) w (types.array t n) well h =
      let m = mapped (same_number (type_count runtime (count vs)) n) (array_of runtime) (all_converted vs t) w h in
      let c = same_count vs m.parts t m.gives in
      let typed = all_give_type vs m.parts t well.2 m.gives in
      let e = first-typed m.parts t (omega (arith, well.0)) typed in
      rw m.is (omega (arith, well.0), rw e typed, all_storable vs m.parts t well.2 m.gives)
  storable (vector vs) w (types.vec n t) well h =
      let m = mapped (count vs == n) vector (all_converted vs t) w h in
      let c = same_count vs m.parts t m.gives in
      let typed = all_give_type vs m.parts t well.4 m.gives in
      let e = first-typed m.parts t (omega (arith, well.0)) typed in
      rw m.is (omega (arith, well.0), omega (arith, well.1), literals vs m.parts t well.2 m.gives, rw e typed, all_storable vs m.parts t well.4 m.gives)
  storable (matrix vs) w (types.mat n r t) well h =
      let m = mapped (count vs == n) matrix (all_converted vs (types.vec r t)) w h in
      let c = same_count vs m.parts (types.vec r t) m.gives in
      let typed = all_give_type vs m.parts (types.vec r t) well.4 m.gives in
      let e = first-typed m.parts (types.vec r t) (omega (arith, well.0)) typed in
      rw m.is (omega (arith, well.0), omega (arith, well.1), vectors vs m.parts (types.vec r t) well.2 m.gives, rw e typed, all_storable vs m.parts (types.vec r t) well.4 m.gives)
  storable v w t well h = kept-has IsStorable v w t well h

  all_storable : (vs ws : Vals) (t : Ty) → AreStorable vs → all_converted vs t ≡ Some ws → AreStorable ws
  all_storable no_vals ws t well h = let e : no_vals ≡ ws = cc in rw (← e) tt
  all_storable (val v vs) ws t well h =
      let j = joins (converted v t) (all_converted vs t) ws h in
      rw j.is (storable v j.first t well.0 j.first_is, all_storable vs j.rest t well.1 j.rest_is)

pub storable-well_formed : (w : Val) → IsStorable w → IsWellFormed w
storable-well_formed (deferred t) h = absurd h
storable-well_formed w h = h

pub converted-well_formed : (v w : Val) (t : Ty) → IsWellFormed v → converted v t ≡ Some w → IsWellFormed w
converted-well_formed (deferred s) w t well h = kept-has IsWellFormed (deferred s) w t tt h
converted-well_formed v w t well h = storable-well_formed w (storable v w t well h)

pub inner_converted-well_formed : (v w : Val) (t : Ty) → IsWellFormed v → inner_converted v t ≡ Some w → IsWellFormed w
inner_converted-well_formed (truth b) w t well h = converted-well_formed (truth b) w (with_inner (type_of (truth b)) t) well h
inner_converted-well_formed (number k z) w t well h = converted-well_formed (number k z) w (with_inner (type_of (number k z)) t) well h
inner_converted-well_formed (array_of runtime vs) w t well h = converted-well_formed (array_of runtime vs) w (with_inner (type_of (array_of runtime vs)) t) well h
inner_converted-well_formed (vector vs) w t well h = converted-well_formed (vector vs) w (with_inner (type_of (vector vs)) t) well h
inner_converted-well_formed (matrix vs) w t well h = converted-well_formed (matrix vs) w (with_inner (type_of (matrix vs)) t) well h
inner_converted-well_formed v w t well h = cc

-- ---- the type inside

literal-inner : (w : Val) → IsLiteral w → inner_type (type_of w) ≡ type_of w
literal-inner (truth b) h = refl
literal-inner (number kinds.abstract_int z) h = refl
literal-inner (number kinds.i32 z) h = refl
literal-inner (number kinds.u32 z) h = refl
literal-inner (number kinds.i64 z) h = refl
literal-inner (number kinds.u64 z) h = refl
literal-inner w h = absurd h

array-inner : (runtime : Bool) (s : Ty) (n : ℕ) (t : Ty) → with_inner (array_type runtime s n) t ≡ types.array t (type_count runtime n)
array-inner true s n t = refl
array-inner false s n t = refl

matrix-inner : (n : ℕ) (s t : Ty) → inner_type (with_inner (matrix_type n s) t) ≡ t
matrix-inner n (types.vec r s) t = refl
matrix-inner n s t = refl

literal-same : (k : Kind) (t : Ty) → with_inner (type_of_kind k) t ≡ t
literal-same kinds.abstract_int t = refl
literal-same kinds.i32 t = refl
literal-same kinds.u32 t = refl
literal-same kinds.i64 t = refl
literal-same kinds.u64 t = refl

pub inner_converted-type : InnerConversionsGiveTheirType
inner_converted-type (truth b) w t well h =
    literal-inner w (literal (truth b) w t tt h) ∙ converted-type (truth b) w t well h
inner_converted-type (number k z) w t well h =
    let e = rw (literal-same k t) at h in
    literal-inner w (literal (number k z) w t tt e) ∙ converted-type (number k z) w t well e
inner_converted-type (array_of runtime vs) w t well h =
    let e = converted-type (array_of runtime vs) w (with_inner (type_of (array_of runtime vs)) t) well h in
    ap inner_type (e ∙ array-inner runtime (first_type vs) (count vs) t)
inner_converted-type (vector vs) w t well h = ap inner_type (converted-type (vector vs) w (with_inner (type_of (vector vs)) t) well h)
inner_converted-type (matrix vs) w t well h =
    ap inner_type (converted-type (matrix vs) w (with_inner (type_of (matrix vs)) t) well h) ∙ matrix-inner (count vs) (first_type vs) t
inner_converted-type v w t well h = cc

-- each element of an array is converted

pub inner_converted-array : (runtime : Bool) (vs : Vals) (t : Ty) → inner_converted (array_of runtime vs) t ≡ option_map (array_of runtime) (all_converted vs t)
inner_converted-array runtime vs t =
    rw (array-inner runtime (first_type vs) (count vs) t, (number_decided (type_count runtime (count vs)) (type_count runtime (count vs))).1 refl) refl

pub inner_converted-vector : (vs : Vals) (t : Ty) → inner_converted (vector vs) t ≡ option_map vector (all_converted vs t)
inner_converted-vector vs t = rw (eq-eqb (count vs) (count vs) refl) refl

-- ---- the numbers of what a conversion gives

number-number : (j k : Kind) (z : ℤ) (p : List ℕ) → option_map number_of (value_at p (number j z)) ≡ option_map number_of (value_at p (number k z))
number-number j k z [] = refl
number-number j k z (i ∷ p) = refl

abstract-numbers : (z : ℤ) (w : Val) (t : Ty) (p : List ℕ) → abstract_converted z t ≡ Some w
    → option_map number_of (value_at p w) ≡ option_map number_of (value_at p (number kinds.abstract_int z))
abstract-numbers z w types.abstract_int p h = let e : w ≡ number kinds.abstract_int z = cc in rw e refl
abstract-numbers z w types.i32 p h = rw ((tested (in_kind kinds.i32 z) (number kinds.i32 z) w h).1) (number-number kinds.i32 kinds.abstract_int z p)
abstract-numbers z w types.u32 p h = rw ((tested (in_kind kinds.u32 z) (number kinds.u32 z) w h).1) (number-number kinds.u32 kinds.abstract_int z p)
abstract-numbers z w t p h = cc

mutual
  pub converted-numbers : ConversionsKeepNumbers
  converted-numbers (number kinds.abstract_int z) w t p h = abstract-numbers z w t p h
  converted-numbers (array_of runtime vs) w (types.array t n) [] h =
      rw ((mapped (same_number (type_count runtime (count vs)) n) (array_of runtime) (all_converted vs t) w h).is) refl
  converted-numbers (array_of runtime vs) w (types.array t n) (i ∷ p) h =
      let m = mapped (same_number (type_count runtime (count vs)) n) (array_of runtime) (all_converted vs t) w h in
      rw m.is (item-numbers vs m.parts t i p m.gives)
  converted-numbers (vector vs) w (types.vec n t) [] h = rw ((mapped (count vs == n) vector (all_converted vs t) w h).is) refl
  converted-numbers (vector vs) w (types.vec n t) (i ∷ p) h =
      let m = mapped (count vs == n) vector (all_converted vs t) w h in
      rw m.is (item-numbers vs m.parts t i p m.gives)
  converted-numbers (matrix vs) w (types.mat n r t) [] h = rw ((mapped (count vs == n) matrix (all_converted vs (types.vec r t)) w h).is) refl
  converted-numbers (matrix vs) w (types.mat n r t) (i ∷ p) h =
      let m = mapped (count vs == n) matrix (all_converted vs (types.vec r t)) w h in
      rw m.is (item-numbers vs m.parts (types.vec r t) i p m.gives)
  converted-numbers v w t p h = rw ((keeps v w t h).1) refl

  item-numbers : (vs ws : Vals) (t : Ty) (i : ℕ) (p : List ℕ) → all_converted vs t ≡ Some ws
      → option_map number_of (option_and_then (value_at p) (item i ws)) ≡ option_map number_of (option_and_then (value_at p) (item i vs))
  item-numbers no_vals ws t i p h = let e : no_vals ≡ ws = cc in rw (← e) refl
  item-numbers (val v vs) ws t zero p h = let j = joins (converted v t) (all_converted vs t) ws h in rw j.is (converted-numbers v j.first t p j.first_is)
  item-numbers (val v vs) ws t (suc i) p h = let j = joins (converted v t) (all_converted vs t) ws h in rw j.is (item-numbers vs j.rest t i p j.rest_is)
