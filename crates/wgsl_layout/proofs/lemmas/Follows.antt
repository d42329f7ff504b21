-- A value follows the layout of its type: its parts are those that the layout places.
use Rattle.std.proofs.Common.{◌≡◌, ℕ, zero, suc, ◌+◌, ◌≤◌, ℤ, List, [], ◌∷◌, Option, Some, None, is_some, option_map, option_and_then, Bool, true, false, refl, sym, ap, ◌∙◌, subst, arith}
use Rattle.std.specs.Prelude.{◌&&◌, ◌||◌}
use Rattle.std.proofs.lemmas.Bool.{false≢true}
use Rattle.wgsl_rules.specs.Kinds as kinds
use Rattle.wgsl_rules.specs.Kinds.{Kind, InKind}
use Rattle.wgsl_rules.specs.Types as types
use Rattle.wgsl_rules.specs.Types.{Ty, struct, array, vec, mat, atomic, Fields, no_fields, field}
use Rattle.wgsl_rules.specs.Values as values
use Rattle.wgsl_rules.specs.Values.{Val, truth, number, record_of, array_of, vector, matrix, atomic_of, pointer, reference, deferred, Vals, no_vals, val, count, item, type_of, first_type, matrix_type, AllOfType, HaveTypes, AreVectors, IsStorable, AreStorable}
use Rattle.wgsl_rules.specs.Paths.{parts, value_at}
use Rattle.wgsl_rules.specs.Size.{size_of, end_after, offset_after, extent_in}
use Rattle.wgsl_rules.specs.Layout.{size, align, stride, known_stride, scalar_kind, is_from_2_to_4, has_fixed_layout, have_fixed_layouts, is_runtime_array, end_in_runtime_array, has_runtime_layout, has_layout, amount, layout_len, Layout, scalar, composite, Parts, no_parts, part, repeated, layout, member_parts, layout_of, runtime_count, elements, last_elements}
use Rattle.wgsl_rules.proofs.lemmas.Known.{and-both}
use Rattle.wgsl_layout.specs.Buffers.{made_of_number, made_of_parts}
use Rattle.wgsl_layout.specs.Ranges.{Range, further, part_at, parts_in, range_in}
use Rattle.wgsl_layout.proofs.lemmas.Fixed.{array-runtime, first-fixed, fixed-array, fixed-mat, last-runtime, no-runtime-kind, no-runtime-matrix}
use Rattle.wgsl_layout.proofs.lemmas.Tidy.{fixed-length, length-fixed}

-- ---- the count does not show in a fixed layout

length-any : (t : Ty) (n m : ℕ) → has_fixed_layout t ≡ true → layout_len n t ≡ layout_len m t
length-any t n m h = length-fixed n t (fixed-length t n h) ∙ sym (length-fixed m t (fixed-length t m h))

scalar-any : (t : Ty) (n m : ℕ) → is_some (scalar_kind t) ≡ true → layout n t ≡ layout m t
scalar-any types.i32 n m h = refl
scalar-any types.u32 n m h = refl
scalar-any types.i64 n m h = refl
scalar-any types.u64 n m h = refl
scalar-any t n m h = absurd (false≢true h)

column : (r : ℕ) (t : Ty) → Layout → Layout
column r t l = composite (vec r t) (size (vec r t)) (repeated l (size t) 0 r)

mutual
  pub layout-any : (t : Ty) (n m : ℕ) → has_fixed_layout t ≡ true → layout n t ≡ layout m t
  layout-any (vec k t) n m h = ap (λ (l : Layout). composite (vec k t) (size (vec k t)) (repeated l (size t) 0 k)) (scalar-any t n m (and-both (is_from_2_to_4 k) (is_some (scalar_kind t)) h).1)
  layout-any (mat c r t) n m h =
      let made = fixed-mat c r t h in
      ap (λ (l : Layout). composite (mat c r t) (size (mat c r t)) (repeated (composite (vec r t) (size (vec r t)) (repeated l (size t) 0 r)) (align (vec r t)) 0 c)) (scalar-any t n m made.scalar)
  layout-any (array t (Some k)) n m h =
      let made = fixed-array k t h in
      ap (λ (l : Layout). composite (array t (Some k)) (size (array t (Some k))) (repeated l (stride t) 0 k)) (layout-any t n m made.element)
  layout-any (array t None) n m h = absurd (false≢true h)
  layout-any (struct name fs) n m h =
      let both = and-both (have_fixed_layouts fs) (is_some (size_of (struct name fs))) h in
      ap (λ (len : ℕ). composite (struct name fs) len (member_parts n (Some 0) fs)) (length-any (struct name fs) n m h)
      ∙ ap (λ (ps : Parts). composite (struct name fs) (layout_len m (struct name fs)) ps) (members-any fs n m (Some 0) both.0)
  layout-any t n m h = refl

  members-any : (fs : Fields) (n m : ℕ) (from : Option ℕ) → have_fixed_layouts fs ≡ true → member_parts n from fs ≡ member_parts m from fs
  members-any no_fields n m from h = refl
  members-any (field name t s a fs) n m from h =
      let made = first-fixed t s a (have_fixed_layouts fs) h in
      ap (λ (l : Layout). part (amount (offset_after from (extent_in t s a))) l (member_parts n (end_after from (extent_in t s a)) fs)) (layout-any t n m made.fixed)
      ∙ ap (λ (ps : Parts). part (amount (offset_after from (extent_in t s a))) (layout m t) ps) (members-any fs n m (end_after from (extent_in t s a)) made.rest)

-- ---- values that follow a layout

-- the value's type has a layout, which is this one
abbrev pub IsOwn : Layout → Val → Type 0
IsOwn l v = (l ≡ layout_of v) × (has_layout (type_of v) ≡ true)

abbrev mutual
  pub Follows : Layout → Val → Type 0
  Follows (scalar t k) v = (z : ℤ) × (v ≡ made_of_number t k z) × InKind k z
  Follows (composite t len ps) v = (v ≡ made_of_parts t (parts v)) × FollowAll ps (parts v)

  pub FollowAll : Parts → Vals → Type 0
  FollowAll no_parts no_vals = Unit {0}
  FollowAll no_parts (val v vs) = ⊥
  FollowAll (part o l ps) no_vals = ⊥
  FollowAll (part o l ps) (val v vs) = IsOwn l v × Follows l v × FollowAll ps vs

scalar-fixed : (t : Ty) → is_some (scalar_kind t) ≡ true → has_fixed_layout t ≡ true
scalar-fixed types.i32 h = refl
scalar-fixed types.u32 h = refl
scalar-fixed types.i64 h = refl
scalar-fixed types.u64 h = refl
scalar-fixed t h = absurd (false≢true h)

-- a value of a fixed type has the layout of its type, whatever the count
own-fixed : (n : ℕ) (t : Ty) (v : Val) → has_fixed_layout t ≡ true → type_of v ≡ t → IsOwn (layout n t) v
own-fixed n t v h e =
    (layout-any t n (runtime_count v) h ∙ ap (layout (runtime_count v)) (sym e), ap has_layout e ∙ ap (λ (b : Bool). b || has_runtime_layout t) h)

vectors-first : (vs : Vals) → 2 ≤ count vs → AreVectors vs → (r : ℕ) × (t : Ty) × (first_type vs ≡ vec r t)
vectors-first no_vals le h = absurd (omega arith)
vectors-first (val (vector ws) vs) le h = (count ws, first_type ws, refl)
vectors-first (val v vs) le h = absurd (h.0)

-- a matrix of columns of this type
matrix-follows : (n c : ℕ) (u : Ty) (vs : Vals) (r : ℕ) (t : Ty) → u ≡ vec r t → has_fixed_layout (matrix_type c u) ≡ true
    → (has_fixed_layout u ≡ true → FollowAll (repeated (layout n u) (align u) 0 c) vs) → Follows (layout n (matrix_type c u)) (matrix vs)
matrix-follows n c (vec k s) vs r t e h f =
    let made = fixed-mat c k s h in
    (refl, f (ap (λ (b : Bool). b && is_some (scalar_kind s)) made.rows ∙ made.scalar))
matrix-follows n c u vs r t e h f = absurd (cc)

mutual
  pub follows-fixed : (v : Val) (n : ℕ) → IsStorable v → has_fixed_layout (type_of v) ≡ true → Follows (layout n (type_of v)) v
  follows-fixed (truth b) n s h = absurd (false≢true h)
  follows-fixed (number kinds.abstract_int z) n s h = absurd (false≢true h)
  follows-fixed (number kinds.i32 z) n s h = (z, refl, s)
  follows-fixed (number kinds.u32 z) n s h = (z, refl, s)
  follows-fixed (number kinds.i64 z) n s h = (z, refl, s)
  follows-fixed (number kinds.u64 z) n s h = (z, refl, s)
  follows-fixed (record_of (struct name fs) vs) n s h =
      let both = and-both (have_fixed_layouts fs) (is_some (size_of (struct name fs))) h in
      (refl, follow-members vs fs n (Some 0) s.0 s.1 both.0)
  follows-fixed (record_of t vs) n s h = absurd (s.0)
  follows-fixed (array_of true vs) n s h = absurd (false≢true h)
  follows-fixed (array_of false vs) n s h =
      let made = fixed-array (count vs) (first_type vs) h in
      (refl, follow-all vs (first_type vs) n (stride (first_type vs)) 0 made.element s.1 s.2)
  follows-fixed (vector vs) n s h =
      let both = and-both (is_from_2_to_4 (count vs)) (is_some (scalar_kind (first_type vs))) h in
      (refl, follow-all vs (first_type vs) n (size (first_type vs)) 0 (scalar-fixed (first_type vs) both.1) s.3 s.4)
  follows-fixed (matrix vs) n s h =
      let first = vectors-first vs s.0 s.2 in
      matrix-follows n (count vs) (first_type vs) vs first.0 first.1 first.2 h (λ g. follow-all vs (first_type vs) n (align (first_type vs)) 0 g s.3 s.4)
  follows-fixed (atomic_of (number kinds.i32 z)) n s h = (z, refl, s.1)
  follows-fixed (atomic_of (number kinds.u32 z)) n s h = (z, refl, s.1)
  follows-fixed (atomic_of v) n s h = absurd (s.0)
  follows-fixed (pointer r) n s h = absurd (false≢true h)
  follows-fixed (reference r) n s h = absurd (false≢true h)
  follows-fixed (deferred t) n s h = absurd s

  follow-members : (vs : Vals) (fs : Fields) (n : ℕ) (from : Option ℕ) → HaveTypes fs vs → AreStorable vs → have_fixed_layouts fs ≡ true → FollowAll (member_parts n from fs) vs
  follow-members no_vals no_fields n from e s h = tt
  follow-members no_vals (field name t sz a fs) n from e s h = absurd e
  follow-members (val v vs) no_fields n from e s h = absurd e
  follow-members (val v vs) (field name t sz a fs) n from e s h =
      let made = first-fixed t sz a (have_fixed_layouts fs) h in (
        own-fixed n t v made.fixed e.0,
        subst (λ (u : Ty). Follows (layout n u) v) e.0 (follows-fixed v n s.0 (ap has_fixed_layout e.0 ∙ made.fixed)),
        follow-members vs fs n (end_after from (extent_in t sz a)) e.1 s.1 made.rest,
      )

  pub follow-all : (vs : Vals) (t : Ty) (n stride from : ℕ) → has_fixed_layout t ≡ true → AllOfType t vs → AreStorable vs → FollowAll (repeated (layout n t) stride from (count vs)) vs
  follow-all no_vals t n stride from h e s = tt
  follow-all (val v vs) t n stride from h e s = (
    own-fixed n t v h e.0,
    subst (λ (u : Ty). Follows (layout n u) v) e.0 (follows-fixed v n s.0 (ap has_fixed_layout e.0 ∙ h)),
    follow-all vs t n stride (from + stride) h e.1 s.1,
  )

-- ---- layouts that are or end in a runtime-sized array

array-follows : (n : ℕ) (vs : Vals) → n ≡ count vs → AllOfType (first_type vs) vs → AreStorable vs → is_runtime_array (array (first_type vs) None) ≡ true
    → Follows (layout n (array (first_type vs) None)) (array_of true vs)
array-follows n vs e a s h =
    let both = and-both (has_fixed_layout (first_type vs)) (is_some (known_stride (first_type vs))) h in (
      refl,
      subst (λ (k : ℕ). FollowAll (repeated (layout n (first_type vs)) (stride (first_type vs)) 0 k) vs) (sym e)
          (follow-all vs (first_type vs) n (stride (first_type vs)) 0 both.0 a s),
    )

-- the last member, a runtime-sized array
last-follows : (v : Val) (t : Ty) → IsStorable v → type_of v ≡ t → is_runtime_array t ≡ true → IsOwn (layout (elements v) t) v × Follows (layout (elements v) t) v
last-follows v t s e h = subst (λ (u : Ty). IsOwn (layout (elements v) u) v × Follows (layout (elements v) u) v) e (by v s (ap is_runtime_array e ∙ h))
  where
    by : (v : Val) → IsStorable v → is_runtime_array (type_of v) ≡ true → IsOwn (layout (elements v) (type_of v)) v × Follows (layout (elements v) (type_of v)) v
    by (array_of true vs) s h = ((refl, h), array-follows (count vs) vs refl s.1 s.2 h)
    by (array_of false vs) s h = absurd (false≢true h)
    by (truth b) s h = absurd (false≢true h)
    by (number k z) s h = absurd (no-runtime-kind k (array-runtime (values.type_of_kind k) h))
    by (record_of (struct name fs) vs) s h = absurd (false≢true h)
    by (record_of t vs) s h = absurd (s.0)
    by (vector vs) s h = absurd (false≢true h)
    by (matrix vs) s h = absurd (no-runtime-matrix (count vs) (first_type vs) (array-runtime (matrix_type (count vs) (first_type vs)) h))
    by (atomic_of v) s h = absurd (false≢true h)
    by (pointer r) s h = absurd (false≢true h)
    by (reference r) s h = absurd (false≢true h)
    by (deferred t) s h = absurd s

-- members, the last of them such an array
follow-open : (fs : Fields) (vs : Vals) (n k : ℕ) (from : Option ℕ) → HaveTypes fs vs → AreStorable vs → end_in_runtime_array from fs ≡ true → n ≡ last_elements k vs → FollowAll (member_parts n from fs) vs
follow-open no_fields vs n k from e s h c = absurd (false≢true h)
follow-open (field name t sz a fs) no_vals n k from e s h c = absurd e
follow-open (field name t sz a no_fields) (val v no_vals) n k from e s h c =
    let runtime = (last-runtime t sz a from h).0 in
    let last = last-follows v t s.0 e.0 runtime in
    subst (λ (m : ℕ). IsOwn (layout m t) v × Follows (layout m t) v × Unit {0}) (sym c) (last.0, last.1, tt)
follow-open (field name t sz a no_fields) (val v (val w vs)) n k from e s h c = absurd (e.1)
follow-open (field name t sz a (field m u z b fs)) (val v vs) n k from e s h c =
    let made = first-fixed t sz a (end_in_runtime_array (end_after from (extent_in t sz a)) (field m u z b fs)) h in (
      own-fixed n t v made.fixed e.0,
      subst (λ (q : Ty). Follows (layout n q) v) e.0 (follows-fixed v n s.0 (ap has_fixed_layout e.0 ∙ made.fixed)),
      follow-open (field m u z b fs) vs n (elements v) (end_after from (extent_in t sz a)) e.1 s.1 made.rest c,
    )

follows-runtime : (v : Val) → IsStorable v → has_runtime_layout (type_of v) ≡ true → Follows (layout_of v) v
follows-runtime (truth b) s h = absurd (false≢true h)
follows-runtime (number k z) s h = absurd (no-runtime-kind k h)
follows-runtime (record_of (struct name fs) vs) s h = (refl, follow-open fs vs (last_elements 0 vs) 0 (Some 0) s.0 s.1 h refl)
follows-runtime (record_of t vs) s h = absurd (s.0)
follows-runtime (array_of true vs) s h = array-follows (count vs) vs refl s.1 s.2 h
follows-runtime (array_of false vs) s h = absurd (false≢true h)
follows-runtime (vector vs) s h = absurd (false≢true h)
follows-runtime (matrix vs) s h = absurd (no-runtime-matrix (count vs) (first_type vs) h)
follows-runtime (atomic_of v) s h = absurd (false≢true h)
follows-runtime (pointer r) s h = absurd (false≢true h)
follows-runtime (reference r) s h = absurd (false≢true h)
follows-runtime (deferred t) s h = absurd s

-- a value that may be stored follows its layout
pub follows : (v : Val) → IsStorable v → has_layout (type_of v) ≡ true → Follows (layout_of v) v
follows v s h = by (has_fixed_layout (type_of v)) refl h
  where
    by : (b : Bool) → has_fixed_layout (type_of v) ≡ b → (b || has_runtime_layout (type_of v)) ≡ true → Follows (layout_of v) v
    by true is h = follows-fixed v (runtime_count v) s is
    by false is h = follows-runtime v s h

-- ---- paths

-- the range that a layout has for the part, which follows its own layout there
pub record Leads (p : List ℕ) (l : Layout) (x : Val) : Type 0 where
  pub range_of : Range
  pub there : range_in p l ≡ Some range_of
  pub own : IsOwn range_of.layout x
  pub follow : Follows range_of.layout x

pub record LeadsIn (i : ℕ) (ps : Parts) (x : Val) : Type 0 where
  pub range_of : Range
  pub there : part_at i ps ≡ Some range_of
  pub own : IsOwn range_of.layout x
  pub follow : Follows range_of.layout x

pub part-leads : (i : ℕ) (ps : Parts) (vs : Vals) (x : Val) → FollowAll ps vs → item i vs ≡ Some x → LeadsIn i ps x
part-leads i no_parts no_vals x f e = absurd (cc)
part-leads i no_parts (val v vs) x f e = absurd f
part-leads i (part o l ps) no_vals x f e = absurd f
part-leads zero (part o l ps) (val v vs) x f e =
    let same : v ≡ x = cc in
    record { range_of = record { start = o; layout = l }; there = refl; own = subst (IsOwn l) same f.0; follow = subst (Follows l) same f.1 }
part-leads (suc i) (part o l ps) (val v vs) x f e =
    let rest = part-leads i ps vs x f.2 e in
    record { range_of = rest.range_of; there = rest.there; own = rest.own; follow = rest.follow }

scalar-no-parts : (t : Ty) (k : Kind) (z : ℤ) → parts (made_of_number t k z) ≡ no_vals
scalar-no-parts (atomic t) k z = refl
scalar-no-parts t k z = refl

pub parts-follow : (l : Layout) (v : Val) → Follows l v → FollowAll (parts_in l) (parts v)
parts-follow (scalar t k) v f = subst (λ (vs : Vals). FollowAll no_parts vs) (sym (ap parts f.1 ∙ scalar-no-parts t k f.0)) tt
parts-follow (composite t len ps) v f = f.1

pub path-leads : (p : List ℕ) (l : Layout) (v x : Val) → IsOwn l v → Follows l v → value_at p v ≡ Some x → Leads p l x
path-leads [] l v x own f e =
    let same : v ≡ x = cc in
    record { range_of = record { start = 0; layout = l }; there = refl; own = subst (IsOwn l) same own; follow = subst (Follows l) same f }
path-leads (i ∷ p) l v x own f e = by (item i (parts v)) refl e (λ q y o g d. path-leads p q y x o g d)
  where
    by : (o : Option Val) → item i (parts v) ≡ o → option_and_then (value_at p) o ≡ Some x
        → ((q : Layout) (y : Val) → IsOwn q y → Follows q y → value_at p y ≡ Some x → Leads p q x) → Leads (i ∷ p) l x
    by None is e on = absurd (cc)
    by (Some y) is e on =
        let first = part-leads i (parts_in l) (parts v) y (parts-follow l v f) is in
        let rest = on first.range_of.layout y first.own first.follow e in
        record {
          range_of = further first.range_of.start rest.range_of;
          there = ap (λ (o : Option Range). option_and_then (λ r. option_map (further r.start) (range_in p r.layout)) o) first.there ∙ ap (λ (o : Option Range). option_map (further first.range_of.start) o) rest.there;
          own = rest.own;
          follow = rest.follow;
        }
