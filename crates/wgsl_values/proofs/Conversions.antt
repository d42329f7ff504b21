-- Conversions of values, part by part.
use Rattle.std.proofs.Common.{◌≡◌, ◌∙◌, ◌↔◌, ℕ, zero, suc, ◌+◌, ◌<◌, List, [], ◌∷◌, ◌++◌, get_or, take, length, Bool, true, false, ◌&&◌, IsTrue, Option, Some, None, is_some, refl, sym, ap, arith, add-one}
use Rattle.std.proofs.lemmas.Bool.Decides.{same_from_decides}
use Rattle.wgsl_rules.proofs.lemmas.CommonTypes.{rank-array, rank-vec}
use Rattle.wgsl_rules.specs.Access.{can_read}
use Rattle.wgsl_rules.specs.Conversion.{rank, unequal_rank, zero_if, only_if}
use Rattle.wgsl_rules.specs.Converted.{converted, all_converted, joined, kept}
use Rattle.wgsl_rules.specs.Equal.{same-Decides, number_decided}
use Rattle.wgsl_rules.specs.Same.{same, same_number}
use Rattle.wgsl_rules.specs.TypeParts.{array_part, vec_part}
use Rattle.wgsl_rules.specs.Types.{Ty, bool, array, vec, ptr, ref}
use Rattle.wgsl_rules.specs.Values.{Val, Vals, AreLiterals, AreStorable, AreVectors, IsLiteral, IsStorable, IsVector, type_of}
use Rattle.wgsl_rules.specs.declared.syntax.AddressSpace.{AddressSpace}
use Rattle.wgsl_rules.specs.declared.syntax.AccessMode.{AccessMode}
use Rattle.wgsl_scalar.specs.Literals.{literal_of}
use Rattle.wgsl_scalar.specs.declared.literal.LiteralInstance.{LiteralInstance}
use Rattle.wgsl_values.proofs.Typed.{array_part-is}
use Rattle.wgsl_values.proofs.lemmas.Views.{struct_view-is, value_of-Literal, value_of-Vec}
use Rattle.wgsl_values.specs.View.{value_of, struct_view, vals_view, vec_view}
use Rattle.wgsl_values.specs.declared.instance.Instance.{Instance, Literal, Vec}
use Rattle.wgsl_values.specs.declared.vector.VecInstance.{VecInstance}
use Rattle.wgsl_values.specs.declared.structure.StructInstance.{StructInstance}

-- ---- lists

pub item-storable : (vs : List Instance) (i : ℕ) (d : Instance) → i < length vs → AreStorable (vals_view vs) → IsStorable (value_of (get_or vs i d))
item-storable [] i d h w = absurd (omega arith)
item-storable (v ∷ vs) zero d h w = w.0
item-storable (v ∷ vs) (suc i) d h w = item-storable vs i d (omega arith) w.1

pub item-vector : (vs : List Instance) (i : ℕ) (d : Instance) → i < length vs → AreVectors (vals_view vs) → IsVector (value_of (get_or vs i d))
item-vector [] i d h w = absurd (omega arith)
item-vector (v ∷ vs) zero d h w = w.0
item-vector (v ∷ vs) (suc i) d h w = item-vector vs i d (omega arith) w.1

pub item-literal : (vs : List Instance) (i : ℕ) (d : Instance) → i < length vs → AreLiterals (vals_view vs) → IsLiteral (value_of (get_or vs i d))
item-literal [] i d h w = absurd (omega arith)
item-literal (v ∷ vs) zero d h w = w.0
item-literal (v ∷ vs) (suc i) d h w = item-literal vs i d (omega arith) w.1

joined-step : (o : Option Val) (p q : Option Vals) (ws : List Instance) (y : Instance) → joined o p ≡ Some (vals_view ws)
    → ((rest : List Instance) → p ≡ Some (vals_view rest) → q ≡ Some (vals_view (rest ++ (y ∷ [])))) → joined o q ≡ Some (vals_view (ws ++ (y ∷ [])))
joined-step None p q ws y h k = cc
joined-step (Some x) None q ws y h k = cc
joined-step (Some x) (Some xs) q [] y h k = cc
joined-step (Some x) (Some xs) q (w ∷ ws) y h k =
    let e : x ≡ value_of w = cc in
    let f : xs ≡ vals_view ws = cc in
    rw (k ws (ap Some f), e) refl

pub joined-none : (o : Option Val) → joined o None ≡ None
joined-none None = refl
joined-none (Some x) = refl

pub all_converted-push : (t : Ty) (vs : List Instance) (i : ℕ) (d : Instance) (out : List Instance) (y : Instance)
    → i < length vs → all_converted (vals_view (take i vs)) t ≡ Some (vals_view out) → converted (value_of (get_or vs i d)) t ≡ Some (value_of y)
    → all_converted (vals_view (take (i + 1) vs)) t ≡ Some (vals_view (out ++ (y ∷ [])))
all_converted-push t [] i d out y h e k = absurd (omega arith)
all_converted-push t (v ∷ vs) zero d [] y h e k = rw k refl
all_converted-push t (v ∷ vs) zero d (w ∷ ws) y h e k = cc
all_converted-push t (v ∷ vs) (suc i) d out y h e k =
    rw add-one (joined-step (converted (value_of v) t) (all_converted (vals_view (take i vs)) t) (all_converted (vals_view (take (suc i) vs)) t) out y e
    (λ rest p. let more = all_converted-push t vs i d rest y (omega arith) p k in rw add-one at more))

pub all_converted-none : (t : Ty) (vs : List Instance) (i : ℕ) (d : Instance) → i < length vs → converted (value_of (get_or vs i d)) t ≡ None
    → all_converted (vals_view vs) t ≡ None
all_converted-none t [] i d h k = absurd (omega arith)
all_converted-none t (v ∷ vs) zero d h k = rw k refl
all_converted-none t (v ∷ vs) (suc i) d h k = rw (all_converted-none t vs i d (omega arith) k) (joined-none (converted (value_of v) t))

pub ruleset value_steps = (all_converted-push, all_converted-none)

pub literal-push : (t : Ty) (vs : List Instance) (i : ℕ) (d : Instance) (out : List Instance) (l k : LiteralInstance)
    → i < length vs → all_converted (vals_view (take i vs)) t ≡ Some (vals_view out) → literal_of l ≡ value_of (get_or vs i d)
    → Some (literal_of k) ≡ converted (literal_of l) t → all_converted (vals_view (take (i + 1) vs)) t ≡ Some (vals_view (out ++ (Literal k ∷ [])))
literal-push t vs i d out l k h e is gives =
    all_converted-push t vs i d out (Literal k) h e (rw (← is, value_of-Literal k) (sym gives))

pub column-push : (t : Ty) (vs : List Instance) (i : ℕ) (d : Instance) (out : List Instance) (v w : VecInstance)
    → i < length vs → all_converted (vals_view (take i vs)) t ≡ Some (vals_view out) → vec_view v ≡ value_of (get_or vs i d)
    → Some (vec_view w) ≡ converted (vec_view v) t → all_converted (vals_view (take (i + 1) vs)) t ≡ Some (vals_view (out ++ (Vec w ∷ [])))
column-push t vs i d out v w h e is gives =
    all_converted-push t vs i d out (Vec w) h e (rw (← is, value_of-Vec w) (sym gives))

pub ruleset literal_steps = (literal-push, all_converted-none)

pub ruleset column_steps = (column-push, all_converted-none)

-- ---- a value in its own type alone

own-tested : (w u : Ty) (b : Bool) → (IsTrue b ↔ (w ≡ u)) → b ≡ same w u
own-tested w u b h = same_from_decides b (same w u) h (same-Decides w u)

pub kept-here : (v w : Val) (t : Ty) (b : Bool) → (IsTrue b ↔ (type_of v ≡ t)) → b ≡ true → w ≡ v → Some w ≡ kept v t
kept-here v w t b h e is = rw (← own-tested (type_of v) t b h, e, is) refl

pub kept-not : (v : Val) (t : Ty) (b : Bool) → (IsTrue b ↔ (type_of v ≡ t)) → b ≡ false → None ≡ kept v t
kept-not v t b h e = rw (← own-tested (type_of v) t b h, e) refl

pub converted-struct : (s : StructInstance) (t : Ty) → converted (struct_view s) t ≡ kept (struct_view s) t
converted-struct s t = rw (struct_view-is s) refl

-- ---- ranks, part by part

abbrev vec_from : Option (ℕ × Ty) → Ty
vec_from (Some p) = vec p.0 p.1
vec_from None = bool

vec_part-is : (u t : Ty) (n : ℕ) → Some (n, t) ≡ vec_part u → vec n t ≡ u
vec_part-is (vec m v) t n e = ap vec_from e
vec_part-is u t n e = cc

pub array-converts : (w s u t : Ty) (m n : Option ℕ) (b : Bool) → w ≡ array s m → Some (t, n) ≡ array_part u → true ≡ same_number m n
    → b ≡ is_some (rank s t) → b ≡ is_some (rank w u)
array-converts w s u t m n b is part counted inner =
    let whole : w ≡ array s n = is ∙ ap (array s) ((number_decided m n).0 (sym counted)) in
    rw (whole, ← array_part-is u t n part, rank-array s t n) inner

nothing : (b : Bool) (o : Option ℕ) → false ≡ is_some (zero_if (b && false) (only_if false o))
nothing true o = refl
nothing false o = refl

pub array-apart : (w s u t : Ty) (m n : Option ℕ) → w ≡ array s m → Some (t, n) ≡ array_part u → same_number m n ≡ false → false ≡ is_some (rank w u)
array-apart w s u t m n is part apart = rw (is, ← array_part-is u t n part, apart) (nothing (same s t) (zero_if (same s t) (unequal_rank s t)))

pub vec-converts : (w s u t : Ty) (m n : ℕ) (b : Bool) → w ≡ vec m s → Some (n, t) ≡ vec_part u → m ≡ n → b ≡ is_some (rank s t) → b ≡ is_some (rank w u)
vec-converts w s u t m n b is part counted inner =
    let whole : w ≡ vec n s = is ∙ ap (λ k. vec k s) counted in
    rw (whole, ← vec_part-is u t n part, rank-vec s t n) inner

-- ---- ranks of pointers and references

same_or_none : (b : Bool) → b ≡ is_some {T = ℕ} (zero_if b None)
same_or_none true = refl
same_or_none false = refl

pub ptr-converts : (s : AddressSpace) (t : Ty) (a : AccessMode) (u : Ty) (b : Bool) → (IsTrue b ↔ (ptr s t a ≡ u)) → b ≡ is_some (rank (ptr s t a) u)
ptr-converts s t a u b h = own-tested (ptr s t a) u b h ∙ same_or_none (same (ptr s t a) u)

pub ref-own : (s : AddressSpace) (t : Ty) (a : AccessMode) (u : Ty) (b : Bool) → (IsTrue b ↔ (ref s t a ≡ u)) → b ≡ true → b ≡ is_some (rank (ref s t a) u)
ref-own s t a u b h e = rw (← own-tested (ref s t a) u b h, e) refl

zero_when : (b : Bool) → b ≡ is_some (only_if b (Some 0))
zero_when true = refl
zero_when false = refl

pub ref-read : (s : AddressSpace) (t : Ty) (a : AccessMode) (u : Ty) (b x : Bool) → (IsTrue b ↔ (ref s t a ≡ u)) → b ≡ false → can_read a ≡ true
    → x ≡ same t u → x ≡ is_some (rank (ref s t a) u)
ref-read s t a u b x h e r is = rw (← own-tested (ref s t a) u b h, e, r) (is ∙ zero_when (same t u))

pub ref-unread : (s : AddressSpace) (t : Ty) (a : AccessMode) (u : Ty) (b : Bool) → (IsTrue b ↔ (ref s t a ≡ u)) → b ≡ false → can_read a ≡ false
    → false ≡ is_some (rank (ref s t a) u)
ref-unread s t a u b h e r = rw (← own-tested (ref s t a) u b h, e, r) refl
