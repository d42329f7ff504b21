-- One step deeper from a part that is located by its type.
use Rattle.std.proofs.Common.{◌≡◌, ℕ, zero, suc, ◌+◌, ◌*◌, ◌<◌, ◌≤◌, List, [], ◌∷◌, length, get_or, drop, Option, Some, None, Err, is_some, option_map, Bool, true, false, if◌then◌else◌, refl, sym, ap, ◌∙◌, subst, arith}
use Rattle.std.specs.Prelude.{◌||◌, ◌↔◌, bytes_eq}
use Rattle.std.specs.Option.{unwrap_or}
use Rattle.std.specs.Result.{result_ok}
use Rattle.std.proofs.lemmas.Bool.{false≢true}
use Rattle.std.proofs.lemmas.Option.{none-some, same_Some}
use Rattle.wgsl_rules.specs.Equal.{same-Decides}
use Rattle.wgsl_rules.specs.Same.{same}
use Rattle.wgsl_rules.specs.Types as types
use Rattle.wgsl_rules.specs.Types.{Ty, array, vec, mat, atomic}
use Rattle.wgsl_rules.specs.TypeParts.{vec_part}
use Rattle.wgsl_rules.specs.Kinds.{Kind}
use Rattle.wgsl_rules.specs.Values.{member, index, array_of, vector, matrix, count, type_of}
use Rattle.wgsl_rules.specs.Refusals.{out_of_bounds, not_indexable}
use Rattle.wgsl_rules.specs.Paths.{index_named, placed, or_refused, part_at as part_of}
use Rattle.wgsl_rules.specs.Size.{offset_after, end_after, extent_in}
use Rattle.wgsl_rules.specs.View.{type_view, struct_view as struct_type_view, member_view, members_view}
use Rattle.wgsl_rules.specs.Layout.{amount, size, align, stride, scalar_kind, atomic_kind, has_fixed_layout, Layout, Parts, no_parts, part, length_in, repeated, leaf, layout, member_parts}
use Rattle.wgsl_rules.proofs.lemmas.Views.{struct_view-is}
use Rattle.wgsl_rules.specs.declared.ty.StructMemberType.{StructMemberType}
use Rattle.wgsl_rules.specs.declared.ty.StructType.{StructType, out-StructType}
use Rattle.wgsl_layout.specs.Located.{range_behind, number_of_parts, is_indexable}
use Rattle.wgsl_layout.specs.Buffers.{decoded, decoded_parts}
use Rattle.wgsl_layout.specs.Plan.{Plan, scalar, components, row, members, Placed, places_of, place_view, plan_view, places_view}
use Rattle.wgsl_layout.specs.Ranges.{Range, further, part_at, parts_in}
use Rattle.wgsl_layout.specs.Reading.{IsThere, AreThere}
use Rattle.wgsl_layout.specs.declared.plan.Place.{«Place» as CodePlace}
use Rattle.wgsl_layout.proofs.Making.{type-is}
use Rattle.wgsl_layout.proofs.Plans.{place-is}
use Rattle.wgsl_layout.proofs.Reading.{fixed-there, vector-there, matrix-there, array-there, next-member, struct-there, struct-of}
use Rattle.wgsl_layout.proofs.lemmas.Follows.{layout-any}

-- ---- parts alike

abbrev pub range_at : ℕ → Layout → Range
range_at start l = record { start = start; layout = l }

-- one of them
pub nth-part : (l : Layout) (far from i n : ℕ) → i < n → part_at i (repeated l far from n) ≡ Some (range_at (from + i * far) l)
nth-part l far from i zero h = absurd (omega arith)
nth-part l far from zero (suc n) h = let e : from ≡ from + 0 * far = omega arith in ap (λ (o : ℕ). Some (range_at o l)) e
nth-part l far from (suc i) (suc n) h =
    let e : from + far + i * far ≡ from + suc i * far = omega arith in
    nth-part l far (from + far) i n (omega arith) ∙ ap (λ (o : ℕ). Some (range_at o l)) e

past-parts : (l : Layout) (far from i n : ℕ) → n ≤ i → None ≡ part_at i (repeated l far from n)
past-parts l far from i zero h = refl
past-parts l far from zero (suc n) h = absurd (omega arith)
past-parts l far from (suc i) (suc n) h = past-parts l far (from + far) i n (omega arith)

pub row-past : (start far i n : ℕ) (l : Layout) → n ≤ i → None ≡ option_map (further start) (part_at i (repeated l far 0 n))
row-past start far i n l h = ap (option_map (further start)) (past-parts l far 0 i n h)

pub row-nth : (start far i n : ℕ) (l : Layout) → i < n → Some (range_at (start + i * far) l) ≡ option_map (further start) (part_at i (repeated l far 0 n))
row-nth start far i n l h =
    let e : start + i * far ≡ start + (0 + i * far) = omega arith in
    ap (λ (o : ℕ). Some (range_at o l)) e ∙ ap (option_map (further start)) (sym (nth-part l far 0 i n h))

-- so many of them, so far apart
row-as : (start i n m far stride : ℕ) (l : Layout) → m ≡ n → far ≡ stride → option_map (further start) (part_at i (repeated l far 0 m)) ≡ option_map (further start) (part_at i (repeated l stride 0 n))
row-as start i n m far stride l e f = ap (λ (k : ℕ). option_map (further start) (part_at i (repeated l far 0 k))) e ∙ ap (λ (k : ℕ). option_map (further start) (part_at i (repeated l k 0 n))) f

-- ---- components

scalar-there : (n : ℕ) (t : Ty) (o len : ℕ) → is_some (scalar_kind t) ≡ true → o + size t ≤ len → IsThere n t scalar o len
scalar-there n types.i32 o len h le = fixed-there n types.i32 scalar o len refl refl le
scalar-there n types.u32 o len h le = fixed-there n types.u32 scalar o len refl refl le
scalar-there n types.i64 o len h le = fixed-there n types.i64 scalar o len refl refl le
scalar-there n types.u64 o len h le = fixed-there n types.u64 scalar o len refl refl le
scalar-there n t o len h le = absurd (false≢true h)

pub component-there : (n k m far : ℕ) (t : Ty) (o len : ℕ) → IsThere n (vec k t) (components far) o len → m ≡ k → (i : ℕ) → i < m → IsThere n t scalar (o + i * far) len
component-there n k m far t o len h e i lt =
    let r = vector-there n k far t o len h in
    scalar-there n t (o + i * far) len r.scalar (r.inside i (subst (λ (x : ℕ). i < x) e lt))

pub component-range : (n k m far i : ℕ) (t : Ty) (o len : ℕ) → IsThere n (vec k t) (components far) o len → m ≡ k → option_map (further o) (part_at i (repeated (layout n t) far 0 m)) ≡ range_behind (index i) n (vec k t) o
component-range n k m far i t o len h e = row-as o i k m far (size t) (layout n t) e (vector-there n k far t o len h).far_is

-- ---- columns

vector-fixed : (k : ℕ) (t : Ty) (b : Bool) → has_fixed_layout (vec k t) ≡ b → (b || false) ≡ true → b ≡ true
vector-fixed k t true e h = refl
vector-fixed k t false e h = h

-- a vector stands there whatever the count
vector-any : (n k : ℕ) (t : Ty) (p : Plan) (o len : ℕ) → IsThere 0 (vec k t) p o len → IsThere n (vec k t) p o len
vector-any n k t p o len h =
    let fixed = vector-fixed k t (has_fixed_layout (vec k t)) refl h.laid in
    fixed-there n (vec k t) p o len fixed h.planned (subst (λ (l : Layout). o + length_in l ≤ len) (layout-any (vec k t) 0 n fixed) h.inside)

pub column-there : (n c r m far : ℕ) (t : Ty) (p : Plan) (o len : ℕ) → IsThere n (mat c r t) (row far p) o len → m ≡ c → (i : ℕ) → i < m → IsThere n (vec r t) p (o + i * far) len
column-there n c r m far t p o len h e i lt = vector-any n r t p (o + i * far) len ((matrix-there n c r far t p o len h).1 i (subst (λ (x : ℕ). i < x) e lt))

pub column-range : (n c r m far i : ℕ) (t : Ty) (p : Plan) (o len : ℕ) → IsThere n (mat c r t) (row far p) o len → m ≡ c
    → option_map (further o) (part_at i (repeated (layout n (vec r t)) far 0 m)) ≡ range_behind (index i) n (mat c r t) o
column-range n c r m far i t p o len h e = row-as o i c m far (align (vec r t)) (layout n (vec r t)) e (matrix-there n c r far t p o len h).0

-- ---- elements

pub element-range : (n m far i : ℕ) (r : Option ℕ) (t : Ty) (p : Plan) (o len : ℕ) → IsThere n (array t r) (row far p) o len → m ≡ unwrap_or r n
    → option_map (further o) (part_at i (repeated (layout n t) far 0 m)) ≡ range_behind (index i) n (array t r) o
element-range n m far i None t p o len h e = row-as o i n m far (stride t) (layout n t) e (array-there None n m far t p o len h e).0
element-range n m far i (Some k) t p o len h e = row-as o i k m far (stride t) (layout n t) e (array-there (Some k) n m far t p o len h e).0

-- ---- members

pub named-below : (name : List ℕ) (ms : List StructMemberType) (i : ℕ) → index_named name (members_view ms) ≡ Some i → i < length ms
named-below name [] i e = absurd (cc)
named-below name (x ∷ ms) i e = by (bytes_eq (member_view x).name name) (index_named name (members_view ms)) (λ k is. named-below name ms k is) e
  where
    by : (b : Bool) (o : Option ℕ) → ((k : ℕ) → o ≡ Some k → k < length ms) → (if b then Some 0 else option_map (λ i. suc i) o) ≡ Some i → i < suc (length ms)
    by true o on e = let z : 0 ≡ i = cc in omega arith
    by false None on e = absurd (cc)
    by false (Some k) on e = let z : suc k ≡ i = cc in let lt = on k refl in omega arith

-- from one of the members on
there-on : (ms : List StructMemberType) (ps : List CodePlace) (i n o len : ℕ) → i < length ms → AreThere n (members_view ms) (places_view ps) o len → AreThere n (members_view (drop i ms)) (places_view (drop i ps)) o len
there-on ms ps zero n o len lt h = h
there-on [] ps (suc i) n o len lt h = absurd (omega arith)
there-on (x ∷ ms) [] (suc i) n o len lt h = absurd h
there-on (x ∷ ms) (p ∷ ps) (suc i) n o len lt h = there-on ms ps i n o len (omega arith) h.1

-- where one of them stands in their layout
nth-member : (ms : List StructMemberType) (ps : List CodePlace) (i n : ℕ) (from : Option ℕ) (m : StructMemberType) (p : CodePlace) → i < length ms → m ≡ get_or ms i m → i < length ps → p ≡ get_or ps i p
    → places_view ps ≡ places_of from (members_view ms) → part_at i (member_parts n from (members_view ms)) ≡ Some (range_at p.offset (layout n (type_view m.ty)))
nth-member [] ps i n from m p lt e k d same = absurd (omega arith)
nth-member (x ∷ ms) [] i n from m p lt e k d same = absurd (omega arith)
nth-member (x ∷ ms) (q ∷ ps) zero n from m p lt e k d same =
    let f = member_view x in
    let off : (place_view q).offset ≡ amount (offset_after from (extent_in f.ty f.size f.align)) = cc in
    let own : (place_view q).offset ≡ p.offset = ap (λ (r : Placed). r.offset) (place-is q) ∙ ap (λ (r : CodePlace). r.offset) (sym d) in
    let typed : (member_view x).ty ≡ type_view m.ty = ap (λ (y : StructMemberType). (member_view y).ty) (sym e) ∙ sym (type-is m) in
    ap (λ (o : ℕ). Some (range_at o (layout n f.ty))) (sym off ∙ own) ∙ ap (λ (u : Ty). Some (range_at p.offset (layout n u))) typed
nth-member (x ∷ ms) (q ∷ ps) (suc i) n from m p lt e k d same =
    let f = member_view x in
    let rest : places_view ps ≡ places_of (end_after from (extent_in f.ty f.size f.align)) (members_view ms) = cc in
    nth-member ms ps i n (end_after from (extent_in f.ty f.size f.align)) m p (omega arith) e (omega arith) d rest

-- of the members at a position that there is: its place, that it stands there, and its range
pub place-below : (ms : List StructMemberType) (ps : List CodePlace) (i n o len : ℕ) → i < length ms → AreThere n (members_view ms) (places_view ps) o len → i < length ps
place-below [] ps i n o len lt h = absurd (omega arith)
place-below (x ∷ ms) [] i n o len lt h = absurd h
place-below (x ∷ ms) (p ∷ ps) zero n o len lt h = omega arith
place-below (x ∷ ms) (p ∷ ps) (suc i) n o len lt h = let k = place-below ms ps i n o len (omega arith) h.1 in omega arith

pub member-there : (ms : List StructMemberType) (ps : List CodePlace) (i n o len : ℕ) (m : StructMemberType) (p : CodePlace) → i < length ms → AreThere n (members_view ms) (places_view ps) o len → m ≡ get_or ms i m → p ≡ get_or ps i p
    → IsThere n (type_view m.ty) (plan_view p.plan) (o + p.offset) len
member-there ms ps i n o len m p lt h is at = (next-member ms ps i n m p o len lt is (place-below ms ps i n o len lt h) at (there-on ms ps i n o len lt h)).there

pub member-range : (ms : List StructMemberType) (ps : List CodePlace) (i n o len : ℕ) (m : StructMemberType) (p : CodePlace) → i < length ms → AreThere n (members_view ms) (places_view ps) o len → m ≡ get_or ms i m → p ≡ get_or ps i p
    → places_view ps ≡ places_of (Some 0) (members_view ms)
    → Some (range_at (o + p.offset) (layout n (type_view m.ty))) ≡ option_map (further o) (part_at i (member_parts n (Some 0) (members_view ms)))
member-range ms ps i n o len m p lt h is at planned = ap (option_map (further o)) (sym (nth-member ms ps i n (Some 0) m p lt is (place-below ms ps i n o len lt h) at planned))

-- of the structure of these members
pub record IsNamed (ms : List StructMemberType) (ps : List CodePlace) (i n o len : ℕ) : Type 0 where
  pub below : i < length ms
  pub there : AreThere n (members_view ms) (places_view ps) o len
  pub planned : places_view ps ≡ places_of (Some 0) (members_view ms)

pub named : (s : StructType) (ms : List StructMemberType) (ps : List CodePlace) (name : List ℕ) (i n o len : ℕ) {long : ℕ} → IsThere n (struct_type_view s) (members long (places_view ps)) o len
    → ms ≡ (out-StructType s).members.items → Some i ≡ index_named name (members_view ms) → IsNamed ms ps i n o len
named s ms ps name i n o len {long} h e is = record {
  below = named-below name ms i (sym is);
  there = struct-there s ms n (places_view ps) o len h e;
  planned = let here = subst (λ (u : Ty). IsThere n u (members long (places_view ps)) o len) (struct-of s ms e) h in cc (here.planned);
}

pub named-range : (s : StructType) (ms : List StructMemberType) (name : List ℕ) (i n o : ℕ) → ms ≡ (out-StructType s).members.items → Some i ≡ index_named name (members_view ms)
    → option_map (further o) (part_at i (member_parts n (Some 0) (members_view ms))) ≡ range_behind (member name) n (struct_type_view s) o
named-range s ms name i n o e is =
    ap (λ (k : Option ℕ). elim k [ None ↦ None | Some j ↦ option_map (further o) (part_at j (member_parts n (Some 0) (members_view ms))) ]) is
    ∙ ap (λ (u : Ty). range_behind (member name) n u o) (sym (struct-of s ms e))

-- ---- how many parts there are

parts-alike : (l : Layout) (far from n : ℕ) → n ≡ number_of_parts (repeated l far from n)
parts-alike l far from zero = refl
parts-alike l far from (suc n) = ap suc (parts-alike l far (from + far) n)

pub vector-count : (m n k : ℕ) (t : Ty) → m ≡ k → m ≡ number_of_parts (repeated (layout n t) (size t) 0 k)
vector-count m n k t e = e ∙ parts-alike (layout n t) (size t) 0 k

pub matrix-count : (m n c r : ℕ) (t : Ty) → m ≡ c → m ≡ number_of_parts (repeated (layout n (vec r t)) (align (vec r t)) 0 c)
matrix-count m n c r t e = e ∙ parts-alike (layout n (vec r t)) (align (vec r t)) 0 c

pub array-count : (m n : ℕ) (r : Option ℕ) (t : Ty) → m ≡ unwrap_or r n → m ≡ number_of_parts (parts_in (layout n (array t r)))
array-count m n None t e = e ∙ parts-alike (layout n t) (stride t) 0 n
array-count m n (Some k) t e = e ∙ parts-alike (layout n t) (stride t) 0 k

members-count : (ms : List StructMemberType) (n : ℕ) (from : Option ℕ) → length ms ≡ number_of_parts (member_parts n from (members_view ms))
members-count [] n from = refl
members-count (x ∷ ms) n from = let f = member_view x in ap suc (members-count ms n (end_after from (extent_in f.ty f.size f.align)))

pub struct-count : (s : StructType) (n m : ℕ) → m ≡ length (out-StructType s).members.items → m ≡ number_of_parts (parts_in (layout n (struct_type_view s)))
struct-count s n m e = e ∙ members-count (out-StructType s).members.items n (Some 0) ∙ ap (λ (u : Ty). number_of_parts (parts_in (layout n u))) (sym (struct_view-is s))

-- ---- types that are compared

pub same-tells : (t u : Ty) (b : Bool) → b ≡ same t u → (b ≡ true) ↔ (t ≡ u)
same-tells t u b is = (λ h. (same-Decides t u).0 (sym is ∙ h), λ h. is ∙ (same-Decides t u).1 h)

-- with the type of a vector

pub vec-same : (k n : ℕ) (v u : Ty) → vec k v ≡ vec n u → v ≡ u
vec-same k n v u e = cc

pub vector-of : (t u w : Ty) (n m : ℕ) (b : Bool) → Some (m, w) ≡ vec_part t → m ≡ n → b ≡ same w u → (b ≡ true) ↔ (t ≡ vec n u)
vector-of (vec k v) u w n m b e f is =
    let pair = same_Some {A = ℕ × Ty} (m, w) (k, v) e in
    let n_is : k ≡ n = sym (ap (λ (q : ℕ × Ty). q.0) pair) ∙ f in
    let t_is : w ≡ v = ap (λ (q : ℕ × Ty). q.1) pair in (
      λ h. ap (λ (j : ℕ). vec j v) n_is ∙ ap (vec n) (sym t_is ∙ (same-Decides w u).0 (sym is ∙ h)),
      λ h. is ∙ (same-Decides w u).1 (t_is ∙ vec-same k n v u h),
    )
vector-of t u w n m b e f is = absurd (none-some (m, w) (sym e))

-- ---- why what bytes lay out has no part of an index

pub count-decoded : (b : List ℕ) (o : ℕ) (ps : Parts) → count (decoded_parts b o ps) ≡ number_of_parts ps
count-decoded b o no_parts = refl
count-decoded b o (part from l ps) = ap suc (count-decoded b o ps)

out-of-bounds : {A : Type 0} (x : Option A) (i : ℕ) (t : Ty) (n m : ℕ) → n ≡ m → result_ok (or_refused x (out_of_bounds i t n)) ≡ None → or_refused x (out_of_bounds i t n) ≡ Err (out_of_bounds i t m)
out-of-bounds None i t n m e h = ap (λ (k : ℕ). Err (out_of_bounds i t k)) e
out-of-bounds (Some y) i t n m e h = absurd (cc)

-- where parts have indices, there are so many
pub indexable-refused : (i n : ℕ) (t : Ty) (b : List ℕ) (o : ℕ) → is_indexable t ≡ true → result_ok (part_of i (decoded b o (layout n t))) ≡ None
    → part_of i (decoded b o (layout n t)) ≡ Err (out_of_bounds i (type_of (decoded b o (layout n t))) (number_of_parts (parts_in (layout n t))))
indexable-refused i n (array t None) b o is h =
    let vs = decoded_parts b o (parts_in (layout n (array t None))) in
    out-of-bounds (placed i vs) i (type_of (array_of true vs)) (count vs) (number_of_parts (parts_in (layout n (array t None)))) (count-decoded b o (parts_in (layout n (array t None)))) h
indexable-refused i n (array t (Some k)) b o is h =
    let vs = decoded_parts b o (parts_in (layout n (array t (Some k)))) in
    out-of-bounds (placed i vs) i (type_of (array_of false vs)) (count vs) (number_of_parts (parts_in (layout n (array t (Some k))))) (count-decoded b o (parts_in (layout n (array t (Some k))))) h
indexable-refused i n (vec k t) b o is h =
    let vs = decoded_parts b o (parts_in (layout n (vec k t))) in
    out-of-bounds (placed i vs) i (type_of (vector vs)) (count vs) (number_of_parts (parts_in (layout n (vec k t)))) (count-decoded b o (parts_in (layout n (vec k t)))) h
indexable-refused i n (mat c r t) b o is h =
    let vs = decoded_parts b o (parts_in (layout n (mat c r t))) in
    out-of-bounds (placed i vs) i (type_of (matrix vs)) (count vs) (number_of_parts (parts_in (layout n (mat c r t)))) (count-decoded b o (parts_in (layout n (mat c r t)))) h
indexable-refused i n t b o is h = absurd (false≢true is)

pub unindexable-refused : (i n : ℕ) (t : Ty) (b : List ℕ) (o : ℕ) → is_indexable t ≡ false → part_of i (decoded b o (layout n t)) ≡ Err (not_indexable (type_of (decoded b o (layout n t))))
unindexable-refused i n (array t k) b o is = absurd (false≢true (sym is))
unindexable-refused i n (vec k t) b o is = absurd (false≢true (sym is))
unindexable-refused i n (mat c r t) b o is = absurd (false≢true (sym is))
unindexable-refused i n (atomic t) b o is = by (atomic_kind t)
  where
    by : (k : Option Kind) → part_of i (decoded b o (leaf (atomic t) k)) ≡ Err (not_indexable (type_of (decoded b o (leaf (atomic t) k))))
    by None = refl
    by (Some k) = refl
unindexable-refused i n t b o is = refl
