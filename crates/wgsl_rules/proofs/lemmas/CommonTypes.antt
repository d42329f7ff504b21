-- The common type of two types does not depend on their order, since types that convert to each
-- other are the same. A type converts to the concrete one that it ends in.
use Rattle.std.proofs.Common.{◌≡◌, ◌∙◌, ℕ, suc, ◌+◌, ◌-◌, List, length, get_or, drop, Bool, true, false, ◌&&◌, ◌==◌, ◌⊎◌, inl, inr, nat_eq, codes, Option, Some, None, is_some, if◌then◌else◌, refl, sym, ap, ap₂, arith}
use Rattle.std.proofs.lemmas.Bool.{eqb-true, eq-eqb}
use Rattle.std.proofs.lemmas.List.{get_or-drop, length-drop}
use Rattle.std.proofs.lemmas.Slice.Eq.{bytes_eq-Decides}
use Rattle.std.specs.List.{starts_with, ends_with}
use Rattle.wgsl_rules.specs.Access.{can_read}
use Rattle.wgsl_rules.specs.Conversion.{rank, unequal_rank, zero_if, only_if, struct_rank, is_abstract_name, common_type, CommonTypeIsSymmetric, concretized}
use Rattle.wgsl_rules.specs.Converted.{type_converted}
use Rattle.wgsl_rules.specs.ConvertedLaws.{rank-same}
use Rattle.wgsl_rules.specs.Equal.{same-Decides, same-equiv, number_decided}
use Rattle.wgsl_rules.specs.InCommon.{both, both_in, in_common}
use Rattle.wgsl_rules.specs.Same.{same, same_number}
use Rattle.wgsl_rules.specs.TypeParts.{struct_part}
use Rattle.wgsl_rules.specs.Types.{Ty, abstract_int, abstract_float, f32, struct, array, vec, mat, ref, Fields}
use Rattle.wgsl_rules.specs.Values.{Val, deferred, type_of}
use Rattle.wgsl_rules.specs.declared.syntax.AddressSpace.{AddressSpace}
use Rattle.wgsl_rules.specs.declared.syntax.AccessMode.{AccessMode}
use Rattle.wgsl_rules.proofs.lemmas.Known.{and-both}

-- ---- types that convert to each other

guarded : (b : Bool) (o : Option ℕ) → is_some (only_if b o) ≡ true → (b ≡ true) × (is_some o ≡ true)
guarded true o h = (refl, h)
guarded false o h = cc

by_test : (P : Type 0) (b c : Bool) (r s : Option ℕ) → (b ≡ true → P) → b ≡ c → (is_some r ≡ true → is_some s ≡ true → P)
    → is_some (zero_if b r) ≡ true → is_some (zero_if c s) ≡ true → P
by_test P true c r s f e g p q = f refl
by_test P false true r s f e g p q = cc
by_test P false false r s f e g p q = g p q

either_way : (t u : Ty) → (is_some (unequal_rank t u) ≡ true → is_some (unequal_rank u t) ≡ true → t ≡ u)
    → is_some (rank t u) ≡ true → is_some (rank u t) ≡ true → t ≡ u
either_way t u f p q =
    by_test (t ≡ u) (same t u) (same u t) (unequal_rank t u) (unequal_rank u t) ((same-Decides t u).0) (same-equiv.symm t u) f p q

-- how deep a type is in references
abbrev depth : Ty → ℕ
depth (ref s t a) = suc (depth t)
depth t = 0

no_deeper : (t : Ty) (s z : AddressSpace) (a b : AccessMode) → t ≡ ref s (ref z t b) a → ⊥
no_deeper t s z a b e = let d : depth t ≡ suc (suc (depth t)) = ap depth e in omega arith

no_rank_to_its_reference : (t : Ty) (s : AddressSpace) (a : AccessMode) → is_some (unequal_rank t (ref s t a)) ≡ true → ⊥
no_rank_to_its_reference (ref z u b) s a h =
    let g = guarded (can_read b && same u (ref s (ref z u b) a)) (Some 0) h in
    let r = and-both (can_read b) (same u (ref s (ref z u b) a)) g.0 in
    no_deeper u s z a b ((same-Decides u (ref s (ref z u b) a)).0 r.1)
no_rank_to_its_reference t s a h = cc

not_both : (s : AddressSpace) (t : Ty) (a : AccessMode) (u : Ty) → is_some (unequal_rank (ref s t a) u) ≡ true → is_some (unequal_rank u (ref s t a)) ≡ true → ⊥
not_both s t a u p q =
    let g = guarded (can_read a && same t u) (Some 0) p in
    let r = and-both (can_read a) (same t u) g.0 in
    let e : t ≡ u = (same-Decides t u).0 r.1 in
    no_rank_to_its_reference u s a (rw e at q)

mats : {c d r s : ℕ} {t u : Ty} → c ≡ d → r ≡ s → t ≡ u → mat c r t ≡ mat d s u
mats e f h = cc

-- what ends with eight given bytes and with three has one last byte
last_of : (n front back : List ℕ) → length front ≡ 8 → length back ≡ 3 → ends_with nat_eq n front ≡ true → ends_with nat_eq n back ≡ true
    → get_or front 7 0 ≡ get_or back 2 0
last_of n front back e f p q =
    let long : front ≡ drop (length n - length front) n = (bytes_eq-Decides front (drop (length n - length front) n)).0 p in
    let short : back ≡ drop (length n - length back) n = (bytes_eq-Decides back (drop (length n - length back) n)).0 q in
    let long_len : length front ≡ length n - (length n - length front) = ap length long ∙ length-drop (length n - length front) n in
    let left : get_or front 7 0 ≡ get_or n ((length n - length front) + 7) 0 = ap (λ l. get_or l 7 0) long ∙ get_or-drop (length n - length front) n 7 0 in
    let right : get_or back 2 0 ≡ get_or n ((length n - length back) + 2) 0 = ap (λ l. get_or l 2 0) short ∙ get_or-drop (length n - length back) n 2 0 in
    let at : (length n - length front) + 7 ≡ (length n - length back) + 2 = omega arith in
    left ∙ ap (λ i. get_or n i 0) at ∙ sym right

is_result : (b c : Bool) → is_some {T = ℕ} (if b then Some 1 else (if c then Some 2 else None)) ≡ true → (b ≡ true) ⊎ (c ≡ true)
is_result true c h = inl refl
is_result false true h = inr refl
is_result false false h = cc

given : (b : Bool) (o : Option ℕ) → is_some (if b then o else None) ≡ true → (b ≡ true) × (is_some o ≡ true)
given true o h = (refl, h)
given false o h = cc

-- no name ends both as that of an abstract result and as that of a result in f32 or f16

-- the last bytes, t, 2 and 6

t_is_not_2 : let t : ℕ = 116 in let two : ℕ = 50 in t ≡ two → ⊥
t_is_not_2 e = omega arith

t_is_not_6 : let t : ℕ = 116 in let six : ℕ = 54 in t ≡ six → ⊥
t_is_not_6 e = omega arith

not_f32 : (n : List ℕ) → ends_with nat_eq n (codes "abstract") ≡ true → ends_with nat_eq n (codes "f32") ≡ true → ⊥
not_f32 n p q = t_is_not_2 (last_of n (codes "abstract") (codes "f32") refl refl p q)

not_f16 : (n : List ℕ) → ends_with nat_eq n (codes "abstract") ≡ true → ends_with nat_eq n (codes "f16") ≡ true → ⊥
not_f16 n p q = t_is_not_6 (last_of n (codes "abstract") (codes "f16") refl refl p q)

no_result : (n : List ℕ) → ends_with nat_eq n (codes "abstract") ≡ true
    → (ends_with nat_eq n (codes "f32") ≡ true) ⊎ (ends_with nat_eq n (codes "f16") ≡ true) → ⊥
no_result n p (inl h) = not_f32 n p h
no_result n p (inr h) = not_f16 n p h

no_struct_both : (n m : List ℕ) → is_some (struct_rank n m) ≡ true → is_some (struct_rank m n) ≡ true → ⊥
no_struct_both n m p q =
    let l = given (is_abstract_name n) (if ends_with nat_eq m (codes "f32") then Some 1 else (if ends_with nat_eq m (codes "f16") then Some 2 else None)) p in
    let r = given (is_abstract_name m) (if ends_with nat_eq n (codes "f32") then Some 1 else (if ends_with nat_eq n (codes "f16") then Some 2 else None)) q in
    let name = and-both (starts_with nat_eq n (codes "__")) (ends_with nat_eq n (codes "abstract")) l.0 in
    no_result n name.1 (is_result (ends_with nat_eq n (codes "f32")) (ends_with nat_eq n (codes "f16")) r.1)

unequal_both : (t u : Ty) → is_some (unequal_rank t u) ≡ true → is_some (unequal_rank u t) ≡ true → t ≡ u
unequal_both (ref s t a) u p q = absurd (not_both s t a u p q)
unequal_both (array t n) (array u m) p q =
    let l = guarded (same_number n m) (rank t u) p in
    let r = guarded (same_number m n) (rank u t) q in
    ap₂ array (either_way t u (λ x y. unequal_both t u x y) l.1 r.1) ((number_decided n m).0 l.0)
unequal_both (vec n t) (vec m u) p q =
    let l = guarded (n == m) (rank t u) p in
    let r = guarded (m == n) (rank u t) q in
    ap₂ vec (eqb-true n m l.0) (either_way t u (λ x y. unequal_both t u x y) l.1 r.1)
unequal_both (mat c r t) (mat d s u) p q =
    let l = guarded ((c == d) && (r == s)) (rank t u) p in
    let m = guarded ((d == c) && (s == r)) (rank u t) q in
    let same_shape = and-both (c == d) (r == s) l.0 in
    mats (eqb-true c d same_shape.0) (eqb-true r s same_shape.1) (either_way t u (λ x y. unequal_both t u x y) l.1 m.1)
unequal_both (struct n fs) (struct m gs) p q = absurd (no_struct_both n m p q)
unequal_both t (ref s u a) p q = absurd (not_both s u a t q p)
unequal_both t u p q = cc

ranks_both : (t u : Ty) → is_some (rank t u) ≡ true → is_some (rank u t) ≡ true → t ≡ u
ranks_both t u = either_way t u (unequal_both t u)

-- ---- the common type

whichever : (b c : Bool) (t u : Ty) → (b ≡ true → c ≡ true → t ≡ u)
    → (if b then Some u else (if c then Some t else None)) ≡ (if c then Some t else (if b then Some u else None))
whichever true true t u h = ap Some (sym (h refl refl))
whichever true false t u h = refl
whichever false true t u h = refl
whichever false false t u h = refl

pub common_types_commute : CommonTypeIsSymmetric
common_types_commute t u = whichever (is_some (rank t u)) (is_some (rank u t)) t u (ranks_both t u)

abbrev turned : Option (Val × Val) → Option (Val × Val)
turned None = None
turned (Some p) = Some (p.1, p.0)

both-swapped : (p q : Option Val) (x y : Val) → both p q ≡ Some (x, y) → both q p ≡ Some (y, x)
both-swapped None q x y h = cc
both-swapped (Some a) None x y h = cc
both-swapped (Some a) (Some b) x y h = ap turned h

both_in-swapped : (f : Val → Ty → Option Val) (a b x y : Val) (t : Option Ty) → both_in f f a b t ≡ Some (x, y) → both_in f f b a t ≡ Some (y, x)
both_in-swapped f a b x y None h = cc
both_in-swapped f a b x y (Some t) h = both-swapped (f a t) (f b t) x y h

pub in_common-swapped : (f : Val → Ty → Option Val) (a b x y : Val) → in_common f a b ≡ Some (x, y) → in_common f b a ≡ Some (y, x)
in_common-swapped f a b x y h =
    let e = both_in-swapped f a b x y (common_type (type_of a) (type_of b)) h in
    rw (common_types_commute (type_of b) (type_of a)) e

-- ---- structures

pub struct_part-is : (u t : Ty) → Some t ≡ struct_part u → t ≡ u
struct_part-is (struct n fs) t e = cc
struct_part-is u t e = cc

-- structures that are not the same convert by their names
pub struct-converts : (s t u : Ty) (n m : List ℕ) (fs gs : Fields) (r : Option ℕ) (b : Bool) → s ≡ struct n fs → t ≡ struct m gs → Some t ≡ struct_part u
    → same s t ≡ false → r ≡ struct_rank n m → b ≡ is_some r → b ≡ is_some (rank s u)
struct-converts s t u n m fs gs r b s_is t_is part apart by_name known =
    let e : struct m gs ≡ u = sym t_is ∙ struct_part-is u t part in
    let not_same : same (struct n fs) (struct m gs) ≡ false = rw (s_is, t_is) at apart in
    rw (← e, s_is, not_same) (known ∙ ap is_some by_name)

-- ---- the type inside another

zero_twice : (b : Bool) (o : Option ℕ) → zero_if b (zero_if b o) ≡ zero_if b o
zero_twice true o = refl
zero_twice false o = refl

-- a test that is made twice, beside one that holds
doubled : (b c : Bool) (o : Option ℕ) → c ≡ true → zero_if (b && c) (only_if c (zero_if b o)) ≡ zero_if b o
doubled true true o e = refl
doubled false true o e = refl
doubled b false o e = cc

before : (b c : Bool) (o : Option ℕ) → c ≡ true → zero_if (c && b) (only_if c (zero_if b o)) ≡ zero_if b o
before b true o e = zero_twice b o
before b false o e = cc

pub rank-array : (s t : Ty) (n : Option ℕ) → rank (array s n) (array t n) ≡ rank s t
rank-array s t n = doubled (same s t) (same_number n n) (unequal_rank s t) ((number_decided n n).1 refl)

pub rank-vec : (s t : Ty) (n : ℕ) → rank (vec n s) (vec n t) ≡ rank s t
rank-vec s t n = before (same s t) (n == n) (unequal_rank s t) (eq-eqb n n refl)

pub rank-mat : (s t : Ty) (c r : ℕ) → rank (mat c r s) (mat c r t) ≡ rank s t
rank-mat s t c r = rw (eq-eqb c c refl, eq-eqb r r refl) (zero_twice (same s t) (unequal_rank s t))

pub ruleset inner_ranks = (rank-array, rank-vec, rank-mat)

-- ---- the concrete type

pub concrete_rank : (t : Ty) → is_some (rank t (concretized t)) ≡ true
concrete_rank abstract_int = refl
concrete_rank abstract_float = refl
concrete_rank (array t n) = ap is_some (rank-array t (concretized t) n) ∙ concrete_rank t
concrete_rank (vec n t) = ap is_some (rank-vec t (concretized t) n) ∙ concrete_rank t
concrete_rank (mat c r abstract_int) = ap is_some (rank-mat abstract_int f32 c r)
concrete_rank (mat c r abstract_float) = ap is_some (rank-mat abstract_float f32 c r)
concrete_rank t = ap is_some (rank-same t)

-- a type converts to the concrete one that it ends in
pub concretized-converts : (s t : Ty) → t ≡ concretized s → Some (deferred t) ≡ type_converted (deferred s) (concretized s)
concretized-converts s t e = rw (concrete_rank s, e) refl
