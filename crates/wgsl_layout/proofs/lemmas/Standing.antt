-- The walk by the plan of a type puts the leaves of the layout in their places, and a value whose range lies inside
-- stands there.
use Rattle.std.proofs.Common.{◌≡◌, ℕ, suc, ◌+◌, ◌≤◌, ℤ, List, [], ◌∷◌, ◌++◌, map, Option, Some, is_some, option_and_then, true, false, refl, sym, ap, ◌∙◌, subst, arith}
use Rattle.std.specs.Prelude.{◌&&◌}
use Rattle.std.proofs.lemmas.Bool.{false≢true}
use Rattle.std.proofs.Math.Bool.{or-false}
use Rattle.wgsl_rules.specs.Kinds as kinds
use Rattle.wgsl_rules.specs.Kinds.{Kind}
use Rattle.wgsl_rules.specs.Types.{Ty, struct, vec, mat, Fields, no_fields, field}
use Rattle.wgsl_rules.specs.Values.{Val, truth, number, record_of, array_of, vector, matrix, atomic_of, pointer, reference, deferred, Vals, no_vals, val, count, item, type_of, first_type, matrix_type, AllOfType, AreLiterals, HaveTypes, IsStorable, AreStorable}
use Rattle.wgsl_rules.specs.Paths.{value_at}
use Rattle.wgsl_rules.specs.Size.{size_of, offset_after, end_after, extent_in}
use Rattle.wgsl_rules.specs.Layout.{amount, size, align, stride, scalar_kind, is_from_2_to_4, has_fixed_layout, has_layout, Layout, length_in, repeated, layout, member_parts, runtime_count, layout_of, Leaf, under, leaves, part_leaves}
use Rattle.wgsl_rules.proofs.lemmas.Known.{and-both}
use Rattle.wgsl_layout.specs.Buffers.{number_of, number_at}
use Rattle.wgsl_layout.specs.Plan.{Plan, scalar, row, plan_of, places_of}
use Rattle.wgsl_layout.specs.Walk.{written_leaves, put, put_row, put_members, Stands, StandInRow, StandAsMembers}
use Rattle.wgsl_layout.proofs.lemmas.Ranges.{IsTidy, AreTidy, tidy-length}
use Rattle.wgsl_layout.proofs.lemmas.Tidy.{tidy}
use Rattle.wgsl_layout.proofs.lemmas.Follows.{IsOwn, Follows, FollowAll, follows}
use Rattle.wgsl_layout.proofs.lemmas.Leaves.{leaves-append, leaves-under}

-- ---- rows

-- the layout is each value's own
abbrev pub AreOwn : Layout → Vals → Type 0
AreOwn l no_vals = Unit {0}
AreOwn l (val v vs) = IsOwn l v × AreOwn l vs

own-row : (vs : Vals) (l : Layout) (far from : ℕ) → FollowAll (repeated l far from (count vs)) vs → AreOwn l vs
own-row no_vals l far from h = tt
own-row (val v vs) l far from h = (h.0, own-row vs l far (from + far) h.2)

-- a matrix has columns of two rows at least
no-columns : (c : ℕ) (t : Ty) → has_layout (mat c 0 t) ≡ true → ⊥
no-columns c t h = false≢true (and-both (is_from_2_to_4 c) (is_from_2_to_4 0 && (is_some (scalar_kind t) && is_some (size_of (mat c 0 t)))) (sym (or-false (has_fixed_layout (mat c 0 t))) ∙ h)).1

-- of a matrix, its columns
matrix-leaves : (n c : ℕ) (u : Ty) → has_layout (matrix_type c u) ≡ true → leaves (layout n (matrix_type c u)) ≡ part_leaves 0 (repeated (layout n u) (align u) 0 c)
matrix-leaves n c (vec k t) h = refl
matrix-leaves n c u h = absurd (no-columns c u h)

matrix-own : (n c : ℕ) (u : Ty) (vs : Vals) → c ≡ count vs → has_layout (matrix_type c u) ≡ true → Follows (layout n (matrix_type c u)) (matrix vs) → AreOwn (layout n u) vs
matrix-own n c (vec k t) vs e h follow = own-row vs (layout n (vec k t)) (align (vec k t)) 0 (subst (λ (m : ℕ). FollowAll (repeated (layout n (vec k t)) (align (vec k t)) 0 m) vs) e follow.1)
matrix-own n c u vs e h follow = absurd (no-columns c u h)

-- ---- plans

-- the plan is that of each value's type
abbrev pub HavePlan : Plan → Vals → Type 0
HavePlan p no_vals = Unit {0}
HavePlan p (val v vs) = (p ≡ plan_of (type_of v)) × HavePlan p vs

have-plan : (t : Ty) (vs : Vals) → AllOfType t vs → HavePlan (plan_of t) vs
have-plan t no_vals h = tt
have-plan t (val v vs) h = (ap plan_of (sym h.0), have-plan t vs h.1)

literals-plan : (vs : Vals) → AreLiterals vs → HavePlan scalar vs
literals-plan no_vals h = tt
literals-plan (val (truth b) vs) h = (refl, literals-plan vs h.1)
literals-plan (val (number kinds.abstract_int z) vs) h = (refl, literals-plan vs h.1)
literals-plan (val (number kinds.i32 z) vs) h = (refl, literals-plan vs h.1)
literals-plan (val (number kinds.u32 z) vs) h = (refl, literals-plan vs h.1)
literals-plan (val (number kinds.i64 z) vs) h = (refl, literals-plan vs h.1)
literals-plan (val (number kinds.u64 z) vs) h = (refl, literals-plan vs h.1)
literals-plan (val v vs) h = absurd (h.0)

matrix-plan : (c : ℕ) (u : Ty) → has_layout (matrix_type c u) ≡ true → plan_of (matrix_type c u) ≡ row (align u) (plan_of u)
matrix-plan c (vec k t) h = refl
matrix-plan c u h = absurd (no-columns c u h)

-- ---- the leaves

-- one part, and the leaves behind it
one-part : (f : List ℕ → ℤ) (i from : ℕ) (l own : Layout) (ms : List Leaf) (o : ℕ) (b now : List ℕ) → l ≡ own → now ≡ written_leaves (λ p. f (i ∷ p)) (leaves own) (o + from) b
    → written_leaves f ms o now ≡ written_leaves f (map (under i from) (leaves l) ++ ms) o b
one-part f i from l own ms o b now same e =
    ap (written_leaves f ms o) (e ∙ ap (λ (k : Layout). written_leaves (λ p. f (i ∷ p)) (leaves k) (o + from) b) (sym same) ∙ sym (leaves-under f i from (leaves l) o b))
    ∙ sym (leaves-append f (map (under i from) (leaves l)) ms o b)

one-number : (f : List ℕ → ℤ) (k : Kind) (z : ℤ) (o : ℕ) (b : List ℕ) → f [] ≡ z → put (number k z) scalar o b ≡ written_leaves f (record { path = []; offset = 0; kind = k } ∷ []) o b
one-number f k z o b e =
    let o_is : o + 0 ≡ o = omega arith in
    rw (o_is, e) refl

-- the numbers of the parts, of which the first is part i
abbrev NumbersOf : (List ℕ → ℤ) → ℕ → Vals → Type 0
NumbersOf f i vs = (k : ℕ) (p : List ℕ) → f ((i + k) ∷ p) ≡ number_of (option_and_then (value_at p) (item k vs))

numbers-first : (f : List ℕ → ℤ) (i : ℕ) (v : Val) (vs : Vals) → NumbersOf f i (val v vs) → (p : List ℕ) → f (i ∷ p) ≡ number_at v p
numbers-first f i v vs is p = let z : i + 0 ≡ i = omega arith in rw z at (is 0 p)

numbers-rest : (f : List ℕ → ℤ) (i : ℕ) (v : Val) (vs : Vals) → NumbersOf f i (val v vs) → NumbersOf f (suc i) vs
numbers-rest f i v vs is k p = let e : suc i + k ≡ i + suc k = omega arith in rw e (is (suc k) p)

numbers-all : (f : List ℕ → ℤ) (vs : Vals) → ((k : ℕ) (p : List ℕ) → f (k ∷ p) ≡ number_of (option_and_then (value_at p) (item k vs))) → NumbersOf f 0 vs
numbers-all f vs is k p = let e : 0 + k ≡ k = omega arith in rw e (is k p)

at-start : (vs : Vals) (far : ℕ) (q : Plan) (f : List ℕ → ℤ) (o : ℕ) (b : List ℕ) (ls : List Leaf) → put_row vs far q (o + 0) b ≡ written_leaves f ls o b → put_row vs far q o b ≡ written_leaves f ls o b
at-start vs far q f o b ls e = let z : o + 0 ≡ o = omega arith in rw z at e

mutual
  pub put-is : (v : Val) (f : List ℕ → ℤ) (o : ℕ) (b : List ℕ) → IsStorable v → has_layout (type_of v) ≡ true → ((p : List ℕ) → f p ≡ number_at v p) → put v (plan_of (type_of v)) o b ≡ written_leaves f (leaves (layout_of v)) o b
  put-is (truth x) f o b s h is = absurd (false≢true h)
  put-is (number kinds.abstract_int z) f o b s h is = absurd (false≢true h)
  put-is (number kinds.i32 z) f o b s h is = one-number f kinds.i32 z o b (is [])
  put-is (number kinds.u32 z) f o b s h is = one-number f kinds.u32 z o b (is [])
  put-is (number kinds.i64 z) f o b s h is = one-number f kinds.i64 z o b (is [])
  put-is (number kinds.u64 z) f o b s h is = one-number f kinds.u64 z o b (is [])
  put-is (record_of (struct name fs) vs) f o b s h is =
      put-members vs fs (runtime_count (record_of (struct name fs) vs)) (Some 0) 0 f o b s.1 s.0 (follows (record_of (struct name fs) vs) s h).1 (numbers-all f vs (λ k p. is (k ∷ p)))
  put-is (record_of t vs) f o b s h is = absurd (s.0)
  put-is (array_of true vs) f o b s h is =
      let t = first_type vs in
      at-start vs (stride t) (plan_of t) f o b (part_leaves 0 (repeated (layout (count vs) t) (stride t) 0 (count vs)))
      (put-row vs (layout (count vs) t) (plan_of t) (stride t) 0 0 f o b s.2 (have-plan t vs s.1) (own-row vs (layout (count vs) t) (stride t) 0 (follows (array_of true vs) s h).1) (numbers-all f vs (λ k p. is (k ∷ p))))
  put-is (array_of false vs) f o b s h is =
      let t = first_type vs in
      at-start vs (stride t) (plan_of t) f o b (part_leaves 0 (repeated (layout 0 t) (stride t) 0 (count vs)))
      (put-row vs (layout 0 t) (plan_of t) (stride t) 0 0 f o b s.2 (have-plan t vs s.1) (own-row vs (layout 0 t) (stride t) 0 (follows (array_of false vs) s h).1) (numbers-all f vs (λ k p. is (k ∷ p))))
  put-is (vector vs) f o b s h is =
      let t = first_type vs in
      at-start vs (size t) scalar f o b (part_leaves 0 (repeated (layout 0 t) (size t) 0 (count vs)))
      (put-row vs (layout 0 t) scalar (size t) 0 0 f o b s.4 (literals-plan vs s.2) (own-row vs (layout 0 t) (size t) 0 (follows (vector vs) s h).1) (numbers-all f vs (λ k p. is (k ∷ p))))
  put-is (matrix vs) f o b s h is =
      let u = first_type vs in
      let own = matrix-own 0 (count vs) u vs refl h (follows (matrix vs) s h) in
      ap (λ (p : Plan). put (matrix vs) p o b) (matrix-plan (count vs) u h)
      ∙ at-start vs (align u) (plan_of u) f o b (part_leaves 0 (repeated (layout 0 u) (align u) 0 (count vs)))
      (put-row vs (layout 0 u) (plan_of u) (align u) 0 0 f o b s.4 (have-plan u vs s.3) own (numbers-all f vs (λ k p. is (k ∷ p))))
      ∙ ap (λ (ls : List Leaf). written_leaves f ls o b) (sym (matrix-leaves 0 (count vs) u h))
  put-is (atomic_of (number kinds.i32 z)) f o b s h is = one-number f kinds.i32 z o b (is [])
  put-is (atomic_of (number kinds.u32 z)) f o b s h is = one-number f kinds.u32 z o b (is [])
  put-is (atomic_of v) f o b s h is = absurd (s.0)
  put-is (pointer r) f o b s h is = absurd (false≢true h)
  put-is (reference r) f o b s h is = absurd (false≢true h)
  put-is (deferred t) f o b s h is = absurd s

  put-row : (vs : Vals) (l : Layout) (q : Plan) (far from i : ℕ) (f : List ℕ → ℤ) (o : ℕ) (b : List ℕ) → AreStorable vs → HavePlan q vs → AreOwn l vs → NumbersOf f i vs
      → put_row vs far q (o + from) b ≡ written_leaves f (part_leaves i (repeated l far from (count vs))) o b
  put-row no_vals l q far from i f o b s planned own is = refl
  put-row (val v vs) l q far from i f o b s planned own is =
      let next : o + from + far ≡ o + (from + far) = omega arith in
      let now = put v q (o + from) b in
      ap (λ (n : ℕ). put_row vs far q n now) next
      ∙ put-row vs l q far (from + far) (suc i) f o now s.1 planned.1 own.1 (numbers-rest f i v vs is)
      ∙ one-part f i from l (layout_of v) (part_leaves (suc i) (repeated l far (from + far) (count vs))) o b now own.0.0
      (ap (λ (p : Plan). put v p (o + from) b) planned.0 ∙ put-is v (λ p. f (i ∷ p)) (o + from) b s.0 own.0.1 (numbers-first f i v vs is))

  put-members : (vs : Vals) (fs : Fields) (n : ℕ) (from : Option ℕ) (i : ℕ) (f : List ℕ → ℤ) (o : ℕ) (b : List ℕ) → AreStorable vs → HaveTypes fs vs → FollowAll (member_parts n from fs) vs → NumbersOf f i vs
      → put_members vs (places_of from fs) o b ≡ written_leaves f (part_leaves i (member_parts n from fs)) o b
  put-members no_vals no_fields n from i f o b s typed h is = refl
  put-members no_vals (field name t z a fs) n from i f o b s typed h is = absurd h
  put-members (val v vs) no_fields n from i f o b s typed h is = absurd h
  put-members (val v vs) (field name t z a fs) n from i f o b s typed h is =
      let at = amount (offset_after from (extent_in t z a)) in
      let next = end_after from (extent_in t z a) in
      let now = put v (plan_of t) (o + at) b in
      put-members vs fs n next (suc i) f o now s.1 typed.1 h.2 (numbers-rest f i v vs is)
      ∙ one-part f i at (layout n t) (layout_of v) (part_leaves (suc i) (member_parts n next fs)) o b now h.0.0
      (ap (λ (u : Ty). put v (plan_of u) (o + at) b) (sym typed.0) ∙ put-is v (λ p. f (i ∷ p)) (o + at) b s.0 h.0.1 (numbers-first f i v vs is))

-- the walk puts the leaves of the value in their places
pub put-leaves : (v : Val) (o : ℕ) (b : List ℕ) → IsStorable v → has_layout (type_of v) ≡ true → put v (plan_of (type_of v)) o b ≡ written_leaves (number_at v) (leaves (layout_of v)) o b
put-leaves v o b s h = put-is v (number_at v) o b s h (λ p. refl)

-- ---- places

matrix-tidy : (n c : ℕ) (u : Ty) → has_layout (matrix_type c u) ≡ true → IsTidy (layout n (matrix_type c u)) → AreTidy 0 (repeated (layout n u) (align u) 0 c) (length_in (layout n (matrix_type c u)))
matrix-tidy n c (vec k t) h tidy = tidy
matrix-tidy n c u h tidy = absurd (no-columns c u h)

at-zero : (vs : Vals) (far : ℕ) (q : Plan) (o len : ℕ) → StandInRow vs far q (o + 0) len → StandInRow vs far q o len
at-zero vs far q o len h = let z : o + 0 ≡ o = omega arith in rw z at h

mutual
  -- a value whose range lies inside stands there
  pub stands : (v : Val) (o len : ℕ) → IsStorable v → has_layout (type_of v) ≡ true → o + length_in (layout_of v) ≤ len → Stands v (plan_of (type_of v)) o len
  stands (truth x) o len s h le = absurd (false≢true h)
  stands (number kinds.abstract_int z) o len s h le = absurd (false≢true h)
  stands (number kinds.i32 z) o len s h le = le
  stands (number kinds.u32 z) o len s h le = le
  stands (number kinds.i64 z) o len s h le = le
  stands (number kinds.u64 z) o len s h le = le
  stands (record_of (struct name fs) vs) o len s h le =
      let v = record_of (struct name fs) vs in
      stand-members vs fs (runtime_count v) (Some 0) 0 (length_in (layout_of v)) o len s.1 s.0 (follows v s h).1 (tidy (struct name fs) (runtime_count v) h).0 le
  stands (record_of t vs) o len s h le = absurd (s.0)
  stands (array_of true vs) o len s h le =
      let t = first_type vs in
      let l = layout (count vs) t in
      at-zero vs (stride t) (plan_of t) o len (stand-row vs l (plan_of t) (stride t) 0 0 (length_in (layout_of (array_of true vs))) o len s.2 (have-plan t vs s.1) (own-row vs l (stride t) 0 (follows (array_of true vs) s h).1) (tidy (type_of (array_of true vs)) (count vs) h).0 le)
  stands (array_of false vs) o len s h le =
      let t = first_type vs in
      let l = layout 0 t in
      at-zero vs (stride t) (plan_of t) o len (stand-row vs l (plan_of t) (stride t) 0 0 (length_in (layout_of (array_of false vs))) o len s.2 (have-plan t vs s.1) (own-row vs l (stride t) 0 (follows (array_of false vs) s h).1) (tidy (type_of (array_of false vs)) 0 h).0 le)
  stands (vector vs) o len s h le =
      let t = first_type vs in
      let l = layout 0 t in
      at-zero vs (size t) scalar o len (stand-row vs l scalar (size t) 0 0 (length_in (layout_of (vector vs))) o len s.4 (literals-plan vs s.2) (own-row vs l (size t) 0 (follows (vector vs) s h).1) (tidy (vec (count vs) t) 0 h).0 le)
  stands (matrix vs) o len s h le =
      let u = first_type vs in
      let l = layout 0 u in
      subst (λ (p : Plan). Stands (matrix vs) p o len) (sym (matrix-plan (count vs) u h))
      (at-zero vs (align u) (plan_of u) o len (stand-row vs l (plan_of u) (align u) 0 0 (length_in (layout_of (matrix vs))) o len s.4 (have-plan u vs s.3) (matrix-own 0 (count vs) u vs refl h (follows (matrix vs) s h)) (matrix-tidy 0 (count vs) u h (tidy (matrix_type (count vs) u) 0 h).0) le))
  stands (atomic_of (number kinds.i32 z)) o len s h le = le
  stands (atomic_of (number kinds.u32 z)) o len s h le = le
  stands (atomic_of v) o len s h le = absurd (s.0)
  stands (pointer r) o len s h le = absurd (false≢true h)
  stands (reference r) o len s h le = absurd (false≢true h)
  stands (deferred t) o len s h le = absurd s

  stand-row : (vs : Vals) (l : Layout) (q : Plan) (far from low to o len : ℕ) → AreStorable vs → HavePlan q vs → AreOwn l vs → AreTidy low (repeated l far from (count vs)) to → o + to ≤ len → StandInRow vs far q (o + from) len
  stand-row no_vals l q far from low to o len s planned own t le = tt
  stand-row (val v vs) l q far from low to o len s planned own t le =
      let next : o + (from + far) ≡ o + from + far = omega arith in
      let end = tidy-length (from + length_in l) to (repeated l far (from + far) (count vs)) t.2 in
      let same = ap length_in own.0.0 in (
        omega arith,
        subst (λ (p : Plan). Stands v p (o + from) len) (sym planned.0) (stands v (o + from) len s.0 own.0.1 (omega arith)),
        rw next at (stand-row vs l q far (from + far) (from + length_in l) to o len s.1 planned.1 own.1 t.2 le),
      )

  stand-members : (vs : Vals) (fs : Fields) (n : ℕ) (from : Option ℕ) (low to o len : ℕ) → AreStorable vs → HaveTypes fs vs → FollowAll (member_parts n from fs) vs → AreTidy low (member_parts n from fs) to
      → o + to ≤ len → StandAsMembers vs (places_of from fs) o len
  stand-members no_vals no_fields n from low to o len s typed h t le = tt
  stand-members no_vals (field name ty z a fs) n from low to o len s typed h t le = absurd h
  stand-members (val v vs) no_fields n from low to o len s typed h t le = absurd h
  stand-members (val v vs) (field name ty z a fs) n from low to o len s typed h t le =
      let at = amount (offset_after from (extent_in ty z a)) in
      let next = end_after from (extent_in ty z a) in
      let end = tidy-length (at + length_in (layout n ty)) to (member_parts n next fs) t.2 in
      let same = ap length_in h.0.0 in
      (omega arith, subst (λ (u : Ty). Stands v (plan_of u) (o + at) len) typed.0 (stands v (o + at) len s.0 h.0.1 (omega arith)), stand-members vs fs n next (at + length_in (layout n ty)) to o len s.1 typed.1 h.2 t.2 le)
