-- The parts of a place.
use Rattle.std.proofs.Common.{◌≡◌, ℕ, zero, suc, ◌+◌, ◌*◌, ◌≤◌, ◌^◌, List, Option, Some, None, option_map, is_some, Bool, true, false, refl, sym, ap, ◌∙◌, subst, arith}
use Rattle.std.specs.Prelude.{nat_lt, ◌&&◌, ◌||◌, MatchOption}
use Rattle.std.proofs.lemmas.Bool.{false≢true, ltb-true, ltb-false, lt-ltb}
use Rattle.wgsl_rules.specs.Kinds.{Kind}
use Rattle.wgsl_rules.specs.Types as types
use Rattle.wgsl_rules.specs.Types.{Ty, struct, array, vec, mat, Fields, no_fields, field}
use Rattle.wgsl_rules.specs.Size.{size_of, extent_in, end_after}
use Rattle.wgsl_rules.specs.Layout.{size, align, stride, scalar_kind, known_stride, is_from_2_to_4, has_fixed_layout, have_fixed_layouts, is_runtime_array, end_in_runtime_array, has_runtime_layout, has_layout, Layout, scalar, composite, Parts, no_parts, part, length_in, type_in, repeated, leaf, leaf_kind, layout, member_parts}
use Rattle.wgsl_rules.proofs.lemmas.Known.{and-both}
use Rattle.wgsl_rules.proofs.lemmas.Tests.{or-false as left}
use Rattle.wgsl_nodes.specs.Canonical.{table}
use Rattle.wgsl_nodes.specs.Places.{Part, part_if, part_with, member_in, IsPartAt, IsPlaceOf}
use Rattle.wgsl_nodes.specs.declared.places.Place.{«Place» as NodePlace}
use Rattle.wgsl_layout.specs.Ranges.{Range, further, part_at, parts_in}
use Rattle.wgsl_layout.proofs.lemmas.Fixed.{first-fixed, fixed-array, fixed-mat, last-runtime, array-runtime}
use Rattle.wgsl_layout.proofs.lemmas.Positive.{tail-stride}
use Rattle.wgsl_layout.proofs.lemmas.Ranges.{IsTidy, AreTidy, tidy-length}
use Rattle.wgsl_layout.proofs.lemmas.Tidy.{tidy}
use Rattle.wgsl_layout.proofs.lemmas.ViewPaths.{layout-type}
use Rattle.wgsl_places.specs.Places.{IsPlace, ArePlaces}
use Rattle.wgsl_places.specs.declared.place.Place.{Place}
use Rattle.wgsl_layout.proofs.Locating.{nth-part}

-- ---- the parts of a layout are those of the type

abbrev pub range_of : ℕ → Part → Range
range_of n q = record { start = q.start; layout = layout n q.ty }

abbrev range_at : ℕ → Layout → Range
range_at start l = record { start = start; layout = l }

past-parts : (l : Layout) (far from i n : ℕ) → n ≤ i → part_at i (repeated l far from n) ≡ None
past-parts l far from i zero h = refl
past-parts l far from zero (suc n) h = absurd (omega arith)
past-parts l far from (suc i) (suc n) h = past-parts l far (from + far) i n (omega arith)

row-agrees : (n i far k : ℕ) (u : Ty) → part_at i (repeated (layout n u) far 0 k) ≡ option_map (range_of n) (part_if (nat_lt i k) (i * far) u)
row-agrees n i far k u = by (nat_lt i k) refl
  where
    by : (b : Bool) → nat_lt i k ≡ b → part_at i (repeated (layout n u) far 0 k) ≡ option_map (range_of n) (part_if b (i * far) u)
    by true e = let z : 0 + i * far ≡ i * far = omega arith in nth-part (layout n u) far 0 i k (ltb-true i k e) ∙ ap (λ (o : ℕ). Some (range_at o (layout n u))) z
    by false e = past-parts (layout n u) far 0 i k (ltb-false i k e)

members-agree : (n i : ℕ) (from : Option ℕ) (fs : Fields) → part_at i (member_parts n from fs) ≡ option_map (range_of n) (member_in from i fs)
members-agree n i from no_fields = refl
members-agree n zero from (field name t s a fs) = refl
members-agree n (suc i) from (field name t s a fs) = members-agree n i (end_after from (extent_in t s a)) fs

leaf-parts : (t : Ty) (k : Option Kind) → parts_in (leaf t k) ≡ no_parts
leaf-parts t None = refl
leaf-parts t (Some k) = refl

positive : (b : Bool) (k i n : ℕ) → nat_lt 0 k ≡ true → (nat_lt 0 k && nat_lt i n) ≡ nat_lt i n
positive b k i n h = ap (λ (c : Bool). c && nat_lt i n) h

pub parts-agree : (n i : ℕ) (u : Ty) → has_layout u ≡ true → part_at i (parts_in (layout n u)) ≡ option_map (range_of n) (part_with n i u)
parts-agree n i (vec k u) h = row-agrees n i (size u) k u
parts-agree n i (mat c r u) h = row-agrees n i (align (vec r u)) c (vec r u)
parts-agree n i (array u (Some k)) h = row-agrees n i (stride u) k u
parts-agree n i (array u None) h =
    let far = lt-ltb 0 (stride u) (tail-stride (array u None) h) in
    row-agrees n i (stride u) n u ∙ ap (λ (b : Bool). option_map (range_of n) (part_if b (i * stride u) u)) (sym (positive true (stride u) i n far))
parts-agree n i (struct name fs) h = members-agree n i (Some 0) fs
parts-agree n i t h = ap (part_at i) (leaf-parts t (leaf_kind t))

-- ---- a part has a layout

pub if-is : (b : Bool) (start : ℕ) (u : Ty) (q : Part) → part_if b start u ≡ Some q → u ≡ q.ty
if-is true start u q e = cc (e)
if-is false start u q e = absurd (cc (e))

pub fixed-laid : (t : Ty) → has_fixed_layout t ≡ true → has_layout t ≡ true
fixed-laid t h = ap (λ (b : Bool). b || has_runtime_layout t) h

runtime-laid : (t : Ty) → is_runtime_array t ≡ true → has_layout t ≡ true
runtime-laid t h = either (has_fixed_layout t) (has_runtime_layout t) (array-runtime t h)
  where
    either : (a b : Bool) → b ≡ true → (a || b) ≡ true
    either true b k = refl
    either false b k = k

scalar-laid : (t : Ty) → is_some (scalar_kind t) ≡ true → has_layout t ≡ true
scalar-laid types.i32 h = refl
scalar-laid types.u32 h = refl
scalar-laid types.i64 h = refl
scalar-laid types.u64 h = refl
scalar-laid t h = absurd (false≢true h)

vector-laid : (r : ℕ) (u : Ty) → is_from_2_to_4 r ≡ true → is_some (scalar_kind u) ≡ true → has_layout (vec r u) ≡ true
vector-laid r u h k = fixed-laid (vec r u) (ap (λ (b : Bool). b && is_some (scalar_kind u)) h ∙ k)

fixed-members : (fs : Fields) (from : Option ℕ) (i : ℕ) (q : Part) → have_fixed_layouts fs ≡ true → member_in from i fs ≡ Some q → has_layout q.ty ≡ true
fixed-members no_fields from i q h e = absurd (cc (e))
fixed-members (field name t s a fs) from zero q h e =
    let same : t ≡ q.ty = cc (e) in
    subst (λ (u : Ty). has_layout u ≡ true) same (fixed-laid t (first-fixed t s a (have_fixed_layouts fs) h).fixed)
fixed-members (field name t s a fs) from (suc i) q h e = fixed-members fs (end_after from (extent_in t s a)) i q (first-fixed t s a (have_fixed_layouts fs) h).rest e

open-members : (fs : Fields) (from from2 : Option ℕ) (i : ℕ) (q : Part) → end_in_runtime_array from fs ≡ true → member_in from2 i fs ≡ Some q → has_layout q.ty ≡ true
open-members no_fields from from2 i q h e = absurd (cc (e))
open-members (field name t s a no_fields) from from2 zero q h e =
    let same : t ≡ q.ty = cc (e) in
    subst (λ (u : Ty). has_layout u ≡ true) same (runtime-laid t (last-runtime t s a from h).0)
open-members (field name t s a no_fields) from from2 (suc i) q h e = absurd (cc (e))
open-members (field name t s a (field m u z b fs)) from from2 zero q h e =
    let same : t ≡ q.ty = cc (e) in
    subst (λ (u : Ty). has_layout u ≡ true) same (fixed-laid t (first-fixed t s a (end_in_runtime_array (end_after from (extent_in t s a)) (field m u z b fs)) h).fixed)
open-members (field name t s a (field m u z b fs)) from from2 (suc i) q h e =
    open-members (field m u z b fs) (end_after from (extent_in t s a)) (end_after from2 (extent_in t s a)) i q (first-fixed t s a (end_in_runtime_array (end_after from (extent_in t s a)) (field m u z b fs)) h).rest e

struct-members : (name : List ℕ) (fs : Fields) (i : ℕ) (q : Part) → has_layout (struct name fs) ≡ true → member_in (Some 0) i fs ≡ Some q → has_layout q.ty ≡ true
struct-members name fs i q h e = by (has_fixed_layout (struct name fs)) refl h
  where
    by : (b : Bool) → has_fixed_layout (struct name fs) ≡ b → (b || end_in_runtime_array (Some 0) fs) ≡ true → has_layout q.ty ≡ true
    by true fixed h = fixed-members fs (Some 0) i q (and-both (have_fixed_layouts fs) (is_some (size_of (struct name fs))) fixed).0 e
    by false fixed h = open-members fs (Some 0) (Some 0) i q h e

of-type : (u v : Ty) → u ≡ v → has_layout u ≡ true → has_layout v ≡ true
of-type u v e h = subst (λ (t : Ty). has_layout t ≡ true) e h

pub part-laid : (n i : ℕ) (u : Ty) (q : Part) → has_layout u ≡ true → part_with n i u ≡ Some q → has_layout q.ty ≡ true
part-laid n i (vec k u) q h e =
    of-type u q.ty (if-is (nat_lt i k) (i * size u) u q e) (scalar-laid u (and-both (is_from_2_to_4 k) (is_some (scalar_kind u)) (left (has_fixed_layout (vec k u)) h)).1)
part-laid n i (mat c r u) q h e =
    let k = fixed-mat c r u (left (has_fixed_layout (mat c r u)) h) in
    of-type (vec r u) q.ty (if-is (nat_lt i c) (i * align (vec r u)) (vec r u) q e) (vector-laid r u k.rows k.scalar)
part-laid n i (array u (Some k)) q h e =
    of-type u q.ty (if-is (nat_lt i k) (i * stride u) u q e) (fixed-laid u (fixed-array k u (left (has_fixed_layout (array u (Some k))) h)).element)
part-laid n i (array u None) q h e =
    of-type u q.ty (if-is (nat_lt 0 (stride u) && nat_lt i n) (i * stride u) u q e) (fixed-laid u (and-both (has_fixed_layout u) (is_some (known_stride u)) h).0)
part-laid n i (struct name fs) q h e = struct-members name fs i q h e
part-laid n i t q h e = absurd (cc (e))

-- ---- and lies inside

tidy-inside : (ps : Parts) (low to i : ℕ) (r : Range) → AreTidy low ps to → part_at i ps ≡ Some r → r.start + length_in r.layout ≤ to
tidy-inside no_parts low to i r h e = absurd (cc (e))
tidy-inside (part o l ps) low to zero r h e =
    let same : range_at o l ≡ r = cc (e) in
    subst (λ (x : Range). x.start + length_in x.layout ≤ to) same (tidy-length (o + length_in l) to ps h.2)
tidy-inside (part o l ps) low to (suc i) r h e = tidy-inside ps (o + length_in l) to i r h.2 e

layout-inside : (l : Layout) (i : ℕ) (r : Range) → IsTidy l → part_at i (parts_in l) ≡ Some r → r.start + length_in r.layout ≤ length_in l
layout-inside (scalar t k) i r h e = absurd (cc (e))
layout-inside (composite t len ps) i r h e = tidy-inside ps 0 len i r h e

pub part-inside : (n i : ℕ) (u : Ty) (q : Part) → has_layout u ≡ true → part_with n i u ≡ Some q → q.start + length_in (layout n q.ty) ≤ length_in (layout n u)
part-inside n i u q h e = layout-inside (layout n u) i (range_of n q) (tidy u n h).0 (parts-agree n i u h ∙ ap (option_map (range_of n)) e)

-- ---- the part of a place

abbrev pub place_with : ℕ → NodePlace → Place
place_with n a = record { at = a; elements = n }

pub place-part : (t : Ty) (r : Range) (p : Place) (i : ℕ) (res : Option NodePlace) → IsPlace t r p → IsPartAt (table t) p.at.offset (part_with p.elements i (type_in r.layout)) res
    → ArePlaces t (option_map (further r.start) (part_at i (parts_in r.layout))) (option_map (place_with p.elements) res)
place-part t r p i res is at =
    subst (λ (o : Option Range). ArePlaces t (option_map (further r.start) o) (option_map (place_with p.elements) res)) (sym agrees) (by (part_with p.elements i u) refl at)
  where
    u : Ty
    u = type_in r.layout

    n : ℕ
    n = p.elements

    agrees : part_at i (parts_in r.layout) ≡ option_map (range_of n) (part_with n i u)
    agrees = ap (λ (l : Layout). part_at i (parts_in l)) is.layout_is ∙ parts-agree n i u is.laid

    long : length_in r.layout ≡ length_in (layout n u)
    long = ap length_in is.layout_is

    there : (q : Part) → part_with n i u ≡ Some q → (res : Option NodePlace) → MatchOption res (2 ^ 64 ≤ p.at.offset + q.start) (IsPlaceOf (table t) (p.at.offset + q.start) q.ty)
        → ArePlaces t (Some (further r.start (range_of n q))) (option_map (place_with n) res)
    there q e None past =
        let inside = part-inside n i u q is.laid e in
        let below = is.below in
        let start = is.at.offset_is in
        absurd (omega (arith, long))
    there q e (Some a) found =
        let inside = part-inside n i u q is.laid e in
        let below = is.below in
        let start : p.at.offset + q.start ≡ r.start + q.start = ap (λ (k : ℕ). k + q.start) is.at.offset_is in
        let type_is = layout-type q.ty n in
        record {
          at = subst (λ (v : Ty). IsPlaceOf (table t) (r.start + q.start) v a) (sym type_is) (subst (λ (k : ℕ). IsPlaceOf (table t) k q.ty a) start found);
          layout_is = ap (layout n) (sym type_is);
          laid = of-type q.ty (type_in (layout n q.ty)) (sym type_is) (part-laid n i u q is.laid e);
          below = omega (arith, long);
        }

    by : (o : Option Part) → part_with n i u ≡ o → IsPartAt (table t) p.at.offset o res → ArePlaces t (option_map (further r.start) (option_map (range_of n) o)) (option_map (place_with n) res)
    by None e none = ap (option_map (place_with n)) none
    by (Some q) e found = there q e res found
