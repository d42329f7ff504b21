-- One step of the walk that reads a value.
use Rattle.std.proofs.Common.{◌≡◌, ℕ, zero, suc, ◌+◌, ◌-◌, ◌*◌, ◌<◌, ◌≤◌, List, [], ◌∷◌, ◌++◌, length, get_or, drop, Option, Some, None, is_some, Bool, true, false, refl, sym, ap, ◌∙◌, subst, arith, string_bytes}
use Rattle.std.specs.Prelude.{not, ◌||◌, ◌/◌, nat_le, if◌then◌else◌}
use Rattle.std.specs.Option.{unwrap_or}
use Rattle.std.proofs.lemmas.Bool.{false≢true}
use Rattle.std.proofs.lemmas.Bool.Decides.{nat_tests}
use Rattle.std.proofs.Math.ListN.{drop_of_length-le}
use Rattle.std.proofs.Math.Nat.{div-mul-le_self}
use Rattle.std.proofs.Math.Seq.{drop-nil}
use Rattle.std.proofs.Math.Bool.{or-false}
use Rattle.wgsl_rules.specs.Kinds.{bytes_of}
use Rattle.wgsl_rules.specs.Types as types
use Rattle.wgsl_rules.specs.Types.{Ty, struct, array, vec, mat, atomic, Fields, no_fields, field}
use Rattle.wgsl_rules.specs.Values.{Val, Vals, no_vals, val, array_of, vector, matrix, record_of, IsStorable}
use Rattle.wgsl_rules.specs.Size.{size_of, offset_after, end_after, extent_in}
use Rattle.wgsl_rules.specs.View.{type_view, struct_view as struct_type_view, member_view, members_view}
use Rattle.wgsl_rules.specs.Layout.{amount, size, align, stride, scalar_kind, leaf, is_from_2_to_4, has_fixed_layout, have_fixed_layouts, is_runtime_array, end_in_runtime_array, has_runtime_layout, has_layout, HasLayout, Tail, tail_of, at_least_one, count_with, count_in, layout_len, length_with, known_stride, Layout, layout, length_in, repeated, member_parts}
use Rattle.wgsl_rules.proofs.lemmas.Views.{struct_view-is}
use Rattle.wgsl_rules.proofs.lemmas.Known.{and-both, some-of}
use Rattle.wgsl_rules.proofs.lemmas.Members.{first, fields-from}
use Rattle.wgsl_rules.specs.declared.ty.StructMemberType.{StructMemberType}
use Rattle.wgsl_rules.specs.declared.ty.StructType.{StructType, out-StructType}
use Rattle.wgsl_values.specs.View.{value_of, vals_view}
use Rattle.wgsl_values.specs.declared.instance.Instance.{Instance}
use Rattle.wgsl_layout.specs.Buffers.{decoded, decoded_parts}
use Rattle.wgsl_layout.specs.Plan.{Plan, components, row, members, Places, no_places, plan_of, places_of, plan_view, places_view}
use Rattle.wgsl_layout.specs.Reading.{IsThere, AreThere, members_at}
use Rattle.wgsl_layout.specs.declared.plan.Place.{«Place» as CodePlace}
use Rattle.wgsl_layout.proofs.Making.{type-is}
use Rattle.wgsl_layout.proofs.Plans.{places-from}
use Rattle.wgsl_layout.proofs.lemmas.Fixed.{first-fixed, fixed-array, fixed-mat, last-runtime}
use Rattle.wgsl_layout.proofs.lemmas.Ranges.{AreTidy, tidy-length}
use Rattle.wgsl_layout.proofs.lemmas.Tidy.{scalar-is, tidy}
use Rattle.wgsl_layout.proofs.lemmas.Follows.{layout-any}
use Rattle.wgsl_layout.proofs.lemmas.Counts.{tail-there}
use Rattle.wgsl_layout.proofs.lemmas.Decoded.{fixed-good, runtime-good}

-- ---- values, one after the other

-- the values, and the others behind them
abbrev pub join : Vals → Vals → Vals
join no_vals ws = ws
join (val v vs) ws = val v (join vs ws)

pub join-none : (vs : Vals) → join vs no_vals ≡ vs
join-none no_vals = refl
join-none (val v vs) = ap (val v) (join-none vs)

-- one more value goes between them
pub join-push : (xs : List Instance) (x : Instance) (ws : Vals) → join (vals_view (xs ++ (x ∷ []))) ws ≡ join (vals_view xs) (val (value_of x) ws)
join-push [] x ws = refl
join-push (y ∷ xs) x ws = ap (val (value_of y)) (join-push xs x ws)

pub row-start : (xs : List Instance) (b : List ℕ) (o far n : ℕ) (l : Layout) → xs ≡ [] → join (vals_view xs) (decoded_parts b o (repeated l far (0 * far) (n - 0))) ≡ decoded_parts b o (repeated l far 0 n)
row-start xs b o far n l none =
    let start : 0 * far ≡ 0 = omega arith in
    let all : n - 0 ≡ n = omega arith in
    ap (λ (ys : List Instance). join (vals_view ys) (decoded_parts b o (repeated l far (0 * far) (n - 0)))) none
    ∙ ap (λ (x : ℕ). decoded_parts b o (repeated l far x (n - 0))) start ∙ ap (λ (x : ℕ). decoded_parts b o (repeated l far 0 x)) all

-- one more of a row
pub row-step : (xs : List Instance) (x : Instance) (b : List ℕ) (o far i n : ℕ) (l : Layout) (all : Vals) → i < n → value_of x ≡ decoded b (o + i * far) l
    → join (vals_view xs) (decoded_parts b o (repeated l far (i * far) (n - i))) ≡ all → join (vals_view (xs ++ (x ∷ []))) (decoded_parts b o (repeated l far ((i + 1) * far) (n - (i + 1)))) ≡ all
row-step xs x b o far i n l all lt is so_far =
    let more : n - i ≡ suc (n - (i + 1)) = omega arith in
    let next : i * far + far ≡ (i + 1) * far = omega arith in
    let k = rw more at so_far in
    let rest = decoded_parts b o (repeated l far ((i + 1) * far) (n - (i + 1))) in
    join-push xs x rest ∙ ap (λ v. join (vals_view xs) (val v rest)) is
    ∙ ap (λ (m : ℕ). join (vals_view xs) (val (decoded b (o + i * far) l) (decoded_parts b o (repeated l far m (n - (i + 1)))))) (sym next) ∙ k

-- past the last
pub row-past : (xs : List Instance) (b : List ℕ) (o far i n : ℕ) (l : Layout) (all : Vals) → n ≤ i → join (vals_view xs) (decoded_parts b o (repeated l far (i * far) (n - i))) ≡ all → vals_view xs ≡ all
row-past xs b o far i n l all le so_far =
    let none : n - i ≡ 0 = omega arith in
    sym (join-none (vals_view xs)) ∙ ap (λ (m : ℕ). join (vals_view xs) (decoded_parts b o (repeated l far (i * far) m))) (sym none) ∙ so_far

-- ---- what stands inside

nth-inside : (n i : ℕ) (l : Layout) (far from low to : ℕ) → AreTidy low (repeated l far from n) to → i < n → from + i * far + length_in l ≤ to
nth-inside zero i l far from low to h lt = absurd (omega arith)
nth-inside (suc n) zero l far from low to h lt = let k = tidy-length (from + length_in l) to (repeated l far (from + far) n) h.2 in omega arith
nth-inside (suc n) (suc i) l far from low to h lt = let k = nth-inside n i l far (from + far) (from + length_in l) to h.2 (omega arith) in omega arith

row-inside : (l : Layout) (far n to o len : ℕ) → AreTidy 0 (repeated l far 0 n) to → o + to ≤ len → (i : ℕ) → i < n → o + i * far + length_in l ≤ len
row-inside l far n to o len h le i lt = let k = nth-inside n i l far 0 0 to h lt in omega arith

-- a fixed layout does not turn on the count
pub fixed-there : (n : ℕ) (t : Ty) (p : Plan) (at len : ℕ) → has_fixed_layout t ≡ true → p ≡ plan_of t → at + length_in (layout n t) ≤ len → IsThere n t p at len
fixed-there n t p at len h planned inside =
    record { laid = rw h refl; counted = λ e. absurd (false≢true (sym e ∙ h)); planned = planned; inside = inside }

-- a value that stands there may be stored
pub there-storable : (n : ℕ) (t : Ty) (p : Plan) (at len : ℕ) (b : List ℕ) → IsThere n t p at len → IsStorable (decoded b at (layout n t))
there-storable n t p at len b h = by (has_fixed_layout t) refl h.laid
  where
    by : (c : Bool) → has_fixed_layout t ≡ c → (c || has_runtime_layout t) ≡ true → IsStorable (decoded b at (layout n t))
    by true f k = (fixed-good t n at b f).0
    by false f k = (runtime-good t n at b k (h.counted f)).0.0

-- what is read there is the value, and may be stored
pub record IsMade (v w : Val) : Type 0 where
  pub is : v ≡ w
  pub storable : IsStorable v

made : (n : ℕ) (t : Ty) (p : Plan) (at len : ℕ) (b : List ℕ) (v : Val) → IsThere n t p at len → v ≡ decoded b at (layout n t) → IsMade v (decoded b at (layout n t))
made n t p at len b v there is = record { is = is; storable = subst IsStorable (sym is) (there-storable n t p at len b there) }

-- ---- scalars and vectors

pub scalar-leaf : (t : Ty) (n : ℕ) → is_some (scalar_kind t) ≡ true → layout n t ≡ leaf t (scalar_kind t)
scalar-leaf types.i32 n h = refl
scalar-leaf types.u32 n h = refl
scalar-leaf types.i64 n h = refl
scalar-leaf types.u64 n h = refl
scalar-leaf t n h = absurd (false≢true h)

pub record IsRowOfScalars (k far : ℕ) (t : Ty) (o len : ℕ) : Type 0 where
  pub scalar : is_some (scalar_kind t) ≡ true
  pub far_is : far ≡ size t
  pub inside : (i : ℕ) → i < k → o + i * far + size t ≤ len

pub vector-there : (n k far : ℕ) (t : Ty) (o len : ℕ) → IsThere n (vec k t) (components far) o len → IsRowOfScalars k far t o len
vector-there n k far t o len h =
    let both = and-both (is_from_2_to_4 k) (is_some (scalar_kind t)) (sym (or-false (has_fixed_layout (vec k t))) ∙ h.laid) in
    let g = some-of (scalar_kind t) both.1 in
    let s = scalar-is t g.0 g.1 in
    let sz : size t ≡ bytes_of g.0 = ap amount s.sized in
    let one : length_in (layout n t) ≡ bytes_of g.0 = ap length_in (s.its_leaf n) in
    let far_is : far ≡ size t = cc (h.planned) in
    record {
      scalar = both.1;
      far_is = far_is;
      inside = λ i lt. subst (λ (x : ℕ). o + i * x + size t ≤ len) (sym far_is) (let le = row-inside (layout n t) (size t) k (size (vec k t)) o len (tidy (vec k t) n h.laid).0 h.inside i lt in omega arith);
    }

-- a vector is read as its row
pub vector-made : (xs : List Instance) (k far i m o len : ℕ) (b : List ℕ) (t : Ty) → IsThere 0 (vec k t) (components far) o len → m ≡ k → m ≤ i
    → join (vals_view xs) (decoded_parts b o (repeated (leaf t (scalar_kind t)) far (i * far) (m - i))) ≡ decoded_parts b o (repeated (leaf t (scalar_kind t)) far 0 m) → IsMade (vector (vals_view xs)) (decoded b o (layout 0 (vec k t)))
vector-made xs k far i m o len b t there count_is le so_far =
    let r = vector-there 0 k far t o len there in
    let all = row-past xs b o far i m (leaf t (scalar_kind t)) (decoded_parts b o (repeated (leaf t (scalar_kind t)) far 0 m)) le so_far in
    made 0 (vec k t) (components far) o len b (vector (vals_view xs)) there
    (ap vector (all ∙ ap (λ (x : ℕ). decoded_parts b o (repeated (leaf t (scalar_kind t)) far 0 x)) count_is ∙ ap (λ (x : ℕ). decoded_parts b o (repeated (leaf t (scalar_kind t)) x 0 k)) r.far_is
    ∙ ap (λ (l : Layout). decoded_parts b o (repeated l (size t) 0 k)) (sym (scalar-leaf t 0 r.scalar))))

-- ---- matrices

pub matrix-there : (n c r far : ℕ) (t : Ty) (p : Plan) (o len : ℕ) → IsThere n (mat c r t) (row far p) o len → (far ≡ align (vec r t)) × ((i : ℕ) → i < c → IsThere 0 (vec r t) p (o + i * far) len)
matrix-there n c r far t p o len h =
    let fixed = sym (or-false (has_fixed_layout (mat c r t))) ∙ h.laid in
    let made = fixed-mat c r t fixed in
    let column : has_fixed_layout (vec r t) ≡ true = rw made.rows made.scalar in
    let far_is : far ≡ align (vec r t) = cc (h.planned) in
    let part : p ≡ components (size t) = cc (h.planned) in
    let same = layout-any (vec r t) n 0 column in (
      far_is,
      λ i lt. fixed-there 0 (vec r t) p (o + i * far) len column part
          (subst (λ (l : Layout). o + i * far + length_in l ≤ len) same
          (subst (λ (x : ℕ). o + i * x + length_in (layout n (vec r t)) ≤ len) (sym far_is)
          (row-inside (layout n (vec r t)) (align (vec r t)) c (size (mat c r t)) o len (tidy (mat c r t) n h.laid).0 h.inside i lt))),
    )

pub matrix-made : (xs : List Instance) (c r far i m o len : ℕ) (b : List ℕ) (t : Ty) (p : Plan) → IsThere 0 (mat c r t) (row far p) o len → m ≡ c → m ≤ i
    → join (vals_view xs) (decoded_parts b o (repeated (layout 0 (vec r t)) far (i * far) (m - i))) ≡ decoded_parts b o (repeated (layout 0 (vec r t)) far 0 m) → IsMade (matrix (vals_view xs)) (decoded b o (layout 0 (mat c r t)))
matrix-made xs c r far i m o len b t p there count_is le so_far =
    let far_is = (matrix-there 0 c r far t p o len there).0 in
    let all = row-past xs b o far i m (layout 0 (vec r t)) (decoded_parts b o (repeated (layout 0 (vec r t)) far 0 m)) le so_far in
    made 0 (mat c r t) (row far p) o len b (matrix (vals_view xs)) there
    (ap matrix (all ∙ ap (λ (x : ℕ). decoded_parts b o (repeated (layout 0 (vec r t)) far 0 x)) count_is ∙ ap (λ (x : ℕ). decoded_parts b o (repeated (layout 0 (vec r t)) x 0 c)) far_is))

-- ---- arrays

element-fixed : (r : Option ℕ) (t : Ty) → HasLayout (array t r) → has_fixed_layout t ≡ true
element-fixed None t h = (and-both (has_fixed_layout t) (is_some (known_stride t)) h).0
element-fixed (Some k) t h = (fixed-array k t (sym (or-false (has_fixed_layout (array t (Some k)))) ∙ h)).element

elements-inside : (r : Option ℕ) (n o len : ℕ) (t : Ty) → HasLayout (array t r) → o + length_in (layout n (array t r)) ≤ len → (i : ℕ) → i < unwrap_or r n → o + i * stride t + length_in (layout n t) ≤ len
elements-inside None n o len t h le i lt = row-inside (layout n t) (stride t) n (length_in (layout n (array t None))) o len (tidy (array t None) n h).0 le i lt
elements-inside (Some k) n o len t h le i lt = row-inside (layout n t) (stride t) k (length_in (layout n (array t (Some k)))) o len (tidy (array t (Some k)) n h).0 le i lt

pub array-there : (r : Option ℕ) (n m far : ℕ) (t : Ty) (p : Plan) (o len : ℕ) → IsThere n (array t r) (row far p) o len → m ≡ unwrap_or r n → (far ≡ stride t) × ((i : ℕ) → i < m → IsThere n t p (o + i * far) len)
array-there r n m far t p o len h count_is =
    let fixed = element-fixed r t h.laid in
    let far_is : far ≡ stride t = cc (h.planned) in
    let part : p ≡ plan_of t = cc (h.planned) in (
      far_is,
      λ i lt. fixed-there n t p (o + i * far) len fixed part
          (subst (λ (x : ℕ). o + i * x + length_in (layout n t) ≤ len) (sym far_is) (elements-inside r n o len t h.laid h.inside i (subst (λ (x : ℕ). i < x) count_is lt))),
    )

array-whole : (r : Option ℕ) (n o : ℕ) (b : List ℕ) (t : Ty) (flag : Bool) → is_some r ≡ not flag → array_of flag (decoded_parts b o (repeated (layout n t) (stride t) 0 (unwrap_or r n))) ≡ decoded b o (layout n (array t r))
array-whole None n o b t true h = refl
array-whole None n o b t false h = absurd (false≢true h)
array-whole (Some k) n o b t false h = refl
array-whole (Some k) n o b t true h = absurd (false≢true (sym h))

pub array-made : (xs : List Instance) (r : Option ℕ) (n far i m o len : ℕ) (b : List ℕ) (t : Ty) (p : Plan) (flag : Bool) → IsThere n (array t r) (row far p) o len → m ≡ unwrap_or r n → is_some r ≡ not flag → m ≤ i
    → join (vals_view xs) (decoded_parts b o (repeated (layout n t) far (i * far) (m - i))) ≡ decoded_parts b o (repeated (layout n t) far 0 m) → IsMade (array_of flag (vals_view xs)) (decoded b o (layout n (array t r)))
array-made xs r n far i m o len b t p flag there count_is flag_is le so_far =
    let far_is = (array-there r n m far t p o len there count_is).0 in
    let all = row-past xs b o far i m (layout n t) (decoded_parts b o (repeated (layout n t) far 0 m)) le so_far in
    made n (array t r) (row far p) o len b (array_of flag (vals_view xs)) there
    (ap (array_of flag) (all ∙ ap (λ (x : ℕ). decoded_parts b o (repeated (layout n t) x 0 m)) far_is ∙ ap (λ (x : ℕ). decoded_parts b o (repeated (layout n t) (stride t) 0 x)) count_is)
    ∙ array-whole r n o b t flag flag_is)

-- ---- structures

-- each member has a layout, and the runtime-sized array that it is has elements
AreLaid : ℕ → Fields → Type 0
AreLaid n no_fields = Unit {0}
AreLaid n (field name t s a fs) = HasLayout t × (has_fixed_layout t ≡ false → 1 ≤ n) × AreLaid n fs

fixed-laid : (fs : Fields) (n : ℕ) → have_fixed_layouts fs ≡ true → AreLaid n fs
unfolding AreLaid
fixed-laid no_fields n h = tt
fixed-laid (field name t s a fs) n h =
    let made = first-fixed t s a (have_fixed_layouts fs) h in
    (rw made.fixed refl, (λ e. absurd (false≢true (sym e ∙ made.fixed))), fixed-laid fs n made.rest)

runtime-laid : (t : Ty) → is_runtime_array t ≡ true → HasLayout t
runtime-laid (array t None) h = h
runtime-laid t h = absurd (false≢true h)

open-laid : (fs : Fields) (n : ℕ) (from : Option ℕ) → end_in_runtime_array from fs ≡ true → 1 ≤ n → AreLaid n fs
unfolding AreLaid
open-laid no_fields n from h one = absurd (false≢true h)
open-laid (field name t s a no_fields) n from h one = (runtime-laid t (last-runtime t s a from h).0, (λ e. one), tt)
open-laid (field name t s a (field m u z b fs)) n from h one =
    let made = first-fixed t s a (end_in_runtime_array (end_after from (extent_in t s a)) (field m u z b fs)) h in
    (rw made.fixed refl, (λ e. one), open-laid (field m u z b fs) n (end_after from (extent_in t s a)) made.rest one)

are-laid : (name : List ℕ) (fs : Fields) (n : ℕ) → HasLayout (struct name fs) → (has_fixed_layout (struct name fs) ≡ false → 1 ≤ n) → AreLaid n fs
are-laid name fs n h counted = by (has_fixed_layout (struct name fs)) refl h
  where
    by : (c : Bool) → has_fixed_layout (struct name fs) ≡ c → (c || end_in_runtime_array (Some 0) fs) ≡ true → AreLaid n fs
    by true e k = fixed-laid fs n (and-both (have_fixed_layouts fs) (is_some (size_of (struct name fs))) e).0
    by false e k = open-laid fs n (Some 0) k (counted e)

there-from : (fs : Fields) (n : ℕ) (from : Option ℕ) (low to o len : ℕ) → AreLaid n fs → AreTidy low (member_parts n from fs) to → o + to ≤ len → AreThere n fs (places_of from fs) o len
unfolding AreLaid
there-from no_fields n from low to o len h tidy le = tt
there-from (field name t s a fs) n from low to o len h tidy le =
    let at = amount (offset_after from (extent_in t s a)) in
    let ends = tidy-length (at + length_in (layout n t)) to (member_parts n (end_after from (extent_in t s a)) fs) tidy.2 in
    (record { laid = h.0; counted = h.1; planned = refl; inside = omega arith }, there-from fs n (end_after from (extent_in t s a)) (at + length_in (layout n t)) to o len h.2 tidy.2 le)

at-parts : (fs : Fields) (n : ℕ) (from : Option ℕ) (o : ℕ) (b : List ℕ) → members_at b o n fs (places_of from fs) ≡ decoded_parts b o (member_parts n from fs)
at-parts no_fields n from o b = refl
at-parts (field name t s a fs) n from o b = ap (val (decoded b (o + amount (offset_after from (extent_in t s a))) (layout n t))) (at-parts fs n (end_after from (extent_in t s a)) o b)

members-there : (name : List ℕ) (fs : Fields) (n : ℕ) (ps : Places) (o len : ℕ) {long : ℕ} → IsThere n (struct name fs) (members long ps) o len → AreThere n fs ps o len
members-there name fs n ps o len {long} h =
    let same : ps ≡ places_of (Some 0) fs = cc (h.planned) in
    subst (λ (x : Places). AreThere n fs x o len) (sym same)
    (there-from fs n (Some 0) 0 (length_in (layout n (struct name fs))) o len (are-laid name fs n h.laid h.counted) (tidy (struct name fs) n h.laid).0 h.inside)

-- a structure's type, by its members
pub struct-of : (s : StructType) (ms : List StructMemberType) → ms ≡ (out-StructType s).members.items → struct_type_view s ≡ struct (string_bytes (out-StructType s).name) (members_view ms)
struct-of s ms e = struct_view-is s ∙ ap (λ (xs : List StructMemberType). struct (string_bytes (out-StructType s).name) (members_view xs)) (sym e)

pub struct-there : (s : StructType) (ms : List StructMemberType) (n : ℕ) (ps : Places) (o len : ℕ) {long : ℕ} → IsThere n (struct_type_view s) (members long ps) o len → ms ≡ (out-StructType s).members.items → AreThere n (members_view ms) ps o len
struct-there s ms n ps o len {long} there e =
    members-there (string_bytes (out-StructType s).name) (members_view ms) n ps o len (subst (λ (t : Ty). IsThere n t (members long ps) o len) (struct-of s ms e) there)

pub struct-made : (s : StructType) (shared : Ty) (ms : List StructMemberType) (n : ℕ) (ps : Places) (o len : ℕ) (b : List ℕ) (xs : Vals) {long : ℕ} → IsThere n (struct_type_view s) (members long ps) o len → ms ≡ (out-StructType s).members.items
    → shared ≡ struct_type_view s → xs ≡ members_at b o n (members_view ms) ps → IsMade (record_of shared xs) (decoded b o (layout n (struct_type_view s)))
struct-made s shared ms n ps o len b xs {long} there e copied is =
    let t = struct-of s ms e in
    let fs = members_view ms in
    let here = subst (λ (u : Ty). IsThere n u (members long ps) o len) t there in
    let same : ps ≡ places_of (Some 0) fs = cc (here.planned) in
    made n (struct_type_view s) (members long ps) o len b (record_of shared xs) there
    (ap (record_of shared) (is ∙ ap (λ (x : Places). members_at b o n fs x) same ∙ at-parts fs n (Some 0) o b)
    ∙ ap (λ (u : Ty). record_of u (decoded_parts b o (member_parts n (Some 0) fs))) (copied ∙ t)
    ∙ ap (λ (u : Ty). decoded b o (layout n u)) (sym t))

-- ---- members, one after the other

pub has-place : (ms : List StructMemberType) (ps : List CodePlace) (i n : ℕ) (m : StructMemberType) (o len : ℕ) → i < length ms → m ≡ get_or ms i m → AreThere n (members_view (drop i ms)) (places_view (drop i ps)) o len → i < length ps
has-place ms [] i n m o len h e there = absurd (subst (λ (x : Fields). AreThere n x no_places o len) (fields-from ms i m h e) (subst (λ (x : List CodePlace). AreThere n (members_view (drop i ms)) (places_view x) o len) (drop-nil i) there))
has-place (w ∷ ms) (p ∷ ps) zero n m o len h e there = omega arith
has-place (w ∷ ms) (p ∷ ps) (suc i) n m o len h e there = let k = has-place ms ps i n m o len (omega arith) e there in omega arith
has-place [] (p ∷ ps) i n m o len h e there = absurd (omega arith)

pub record IsNext (n : ℕ) (m : StructMemberType) (p : CodePlace) (fs : Fields) (ps : Places) (o len : ℕ) : Type 0 where
  pub there : IsThere n (type_view m.ty) (plan_view p.plan) (o + p.offset) len
  pub rest : AreThere n fs ps o len

pub next-member : (ms : List StructMemberType) (ps : List CodePlace) (i n : ℕ) (m : StructMemberType) (p : CodePlace) (o len : ℕ) → i < length ms → m ≡ get_or ms i m → i < length ps → p ≡ get_or ps i p
    → AreThere n (members_view (drop i ms)) (places_view (drop i ps)) o len → IsNext n m p (members_view (drop (i + 1) ms)) (places_view (drop (i + 1) ps)) o len
next-member ms ps i n m p o len h e k d there =
    let both = subst (λ (x : Places). AreThere n (first (member_view m) (members_view (drop (i + 1) ms))) x o len) (places-from ps i p k d)
    (subst (λ (x : Fields). AreThere n x (places_view (drop i ps)) o len) (fields-from ms i m h e) there) in
    record { there = subst (λ (u : Ty). IsThere n u (plan_view p.plan) (o + p.offset) len) (sym (type-is m)) both.0; rest = both.1 }

pub member-step : (ms : List StructMemberType) (ps : List CodePlace) (i n : ℕ) (m : StructMemberType) (p : CodePlace) (xs : List Instance) (x : Instance) (b : List ℕ) (o : ℕ) (all : Vals) → i < length ms → m ≡ get_or ms i m → i < length ps → p ≡ get_or ps i p
    → value_of x ≡ decoded b (o + p.offset) (layout n (type_view m.ty)) → join (vals_view xs) (members_at b o n (members_view (drop i ms)) (places_view (drop i ps))) ≡ all
    → join (vals_view (xs ++ (x ∷ []))) (members_at b o n (members_view (drop (i + 1) ms)) (places_view (drop (i + 1) ps))) ≡ all
member-step ms ps i n m p xs x b o all h e k d is so_far =
    let rest = members_at b o n (members_view (drop (i + 1) ms)) (places_view (drop (i + 1) ps)) in
    join-push xs x rest
    ∙ ap (λ v. join (vals_view xs) (val v rest)) (is ∙ ap (λ (u : Ty). decoded b (o + p.offset) (layout n u)) (type-is m))
    ∙ ap (λ (y : Places). join (vals_view xs) (members_at b o n (first (member_view m) (members_view (drop (i + 1) ms))) y)) (sym (places-from ps i p k d))
    ∙ ap (λ (y : Fields). join (vals_view xs) (members_at b o n y (places_view (drop i ps)))) (sym (fields-from ms i m h e))
    ∙ so_far

pub members-past : (ms : List StructMemberType) (ps : List CodePlace) (i n : ℕ) (xs : List Instance) (b : List ℕ) (o : ℕ) (all : Vals) → length ms ≤ i
    → join (vals_view xs) (members_at b o n (members_view (drop i ms)) (places_view (drop i ps))) ≡ all → vals_view xs ≡ all
members-past ms ps i n xs b o all le so_far =
    let none : drop i ms ≡ [] = drop_of_length-le ms {i = i} le in
    sym (join-none (vals_view xs)) ∙ ap (λ (rest : List StructMemberType). join (vals_view xs) (members_at b o n (members_view rest) (places_view (drop i ps)))) (sym none) ∙ so_far

-- ---- the whole

-- where so many elements find room, their end is inside, and there is one
room : (r : Tail) (len n : ℕ) → count_with len 0 (Some r) ≡ Some n → (r.start + n * stride r.element ≤ len) × (1 ≤ n)
room r len n e = by (nat_le r.start len) ((len - r.start) / stride r.element) refl refl e
  where
    by : (c : Bool) (q : ℕ) → nat_le r.start len ≡ c → (len - r.start) / stride r.element ≡ q → (if c then at_least_one q else None) ≡ Some n → (r.start + n * stride r.element ≤ len) × (1 ≤ n)
    by true zero t d e = absurd (cc)
    by true (suc q) t d e =
        let same : suc q ≡ n = cc in
        let inside : r.start ≤ len = grind (arith, nat_tests) in
        let all = div-mul-le_self (len - r.start) (stride r.element) in
        let product : (len - r.start) / stride r.element * stride r.element ≡ n * stride r.element = ap (λ (x : ℕ). x * stride r.element) (d ∙ same) in
        (omega arith, omega arith)
    by false q t d e = absurd (cc)

-- a value stands in bytes that have room for so many elements
pub counted-there : (t : Ty) (p : Plan) (len n : ℕ) → has_layout t ≡ true → p ≡ plan_of t → count_in len t ≡ Some n → IsThere n t p 0 len
counted-there t p len n h planned e =
    let ends = (tidy t n h).1 in
    let within = by (tail_of t) refl in
    record { laid = h; counted = λ f. within.1 (ends-open f); planned = planned; inside = let le = within.0 in omega arith }
  where
    ends-open : has_fixed_layout t ≡ false → is_some (tail_of t) ≡ true
    ends-open f = tail-there t (ap (λ (c : Bool). c || has_runtime_layout t) (sym f) ∙ h)

    enough : (size : ℕ) → (if nat_le size len then Some 0 else None) ≡ Some n → size ≤ len
    enough size e = over (nat_le size len) refl e
      where
        over : (c : Bool) → nat_le size len ≡ c → (if c then Some 0 else None) ≡ Some n → size ≤ len
        over true test e = grind (arith, nat_tests)
        over false test e = absurd (cc)

    by : (o : Option Tail) → tail_of t ≡ o → (layout_len n t ≤ len) × (is_some (tail_of t) ≡ true → 1 ≤ n)
    by None is =
        let le = enough (size t) (ap (count_with len (size t)) (sym is) ∙ e) in
        (subst (λ (x : ℕ). x ≤ len) (sym (ap (length_with n (size t)) is)) le, λ there. absurd (false≢true (ap (λ (x : Option Tail). is_some x) (sym is) ∙ there)))
    by (Some r) is =
        let fits = room r len n (ap (count_with len (size t)) (sym is) ∙ e) in
        (subst (λ (x : ℕ). x ≤ len) (sym (ap (length_with n (size t)) is)) fits.0, λ there. fits.1)
