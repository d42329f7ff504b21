-- Places in what references name: which parts they are of, and the numbers there.
use Rattle.std.proofs.Common.{◌≡◌, ℕ, zero, suc, ◌+◌, ◌-◌, ◌≤◌, ℤ, List, [], ◌∷◌, ◌++◌, length, take, drop, Option, Some, None, is_some, option_map, option_and_then, Ok, Bool, true, false, refl, sym, ap, ◌∙◌, subst, arith}
use Rattle.std.specs.Prelude.{IsSomeAnd, IfSome, ◌||◌, if◌then◌else◌}
use Rattle.std.proofs.lemmas.Bool.{false≢true, le-leb}
use Rattle.std.proofs.lemmas.List.{drop-take, length-take, take-take}
use Rattle.wgsl_rules.specs.Kinds as kinds
use Rattle.wgsl_rules.specs.Kinds.{Kind}
use Rattle.wgsl_rules.specs.Types as types
use Rattle.wgsl_rules.specs.Types.{Ty, struct, array, vec, mat, atomic}
use Rattle.wgsl_rules.specs.Equal.{same-Decides}
use Rattle.wgsl_rules.specs.Values.{Reference, Val, Vals, no_vals, val, item, number, type_of, type_of_kind, IsStorable}
use Rattle.wgsl_rules.specs.Paths.{parts, value_at}
use Rattle.wgsl_rules.specs.Refusals.{Outcome, and_then}
use Rattle.wgsl_rules.specs.Layout.{has_fixed_layout, has_layout, Layout, scalar, composite, Parts, no_parts, part, is_from_2_to_4, length_in, layout, layout_of, runtime_count, scalar_kind, type_in}
use Rattle.wgsl_rules.proofs.lemmas.Known.{and-both}
use Rattle.wgsl_rules.proofs.lemmas.Tests.{or-false}
use Rattle.wgsl_scalar.specs.Literals.{literal_of}
use Rattle.wgsl_scalar.specs.declared.literal.LiteralInstance.{LiteralInstance}
use Rattle.wgsl_scalar.specs.declared.literal.LiteralInstance.TheVariants as literals
use Rattle.wgsl_nodes.specs.Places.{number_kind, numbers_in}
use Rattle.wgsl_layout.specs.Buffers.{buffer, decode, decoded, made_of_number, made_of_parts, read_number}
use Rattle.wgsl_store.specs.Memory.{held, IsKept}
use Rattle.wgsl_store.specs.MemoryLaws.{KeepsLayouts, layout_held}
use Rattle.wgsl_layout.specs.NumbersIn.{IsLikeNumber, IsNumberAt}
use Rattle.wgsl_layout.specs.Plan.{plan_of}
use Rattle.wgsl_layout.specs.Ranges.{Range, bytes_in, further, part_at, parts_in, range_in}
use Rattle.wgsl_layout.proofs.lemmas.Compose.{compose, laid-decodes}
use Rattle.wgsl_layout.proofs.lemmas.Follows.{Follows, FollowAll, follows, parts-follow}
use Rattle.wgsl_store.proofs.lemmas.Held.{kept-is}
use Rattle.wgsl_layout.proofs.lemmas.InRange.{there-decodes}
use Rattle.wgsl_layout.proofs.lemmas.PathRanges.{range_in-append}
use Rattle.wgsl_layout.proofs.lemmas.Roundtrip.{lays-itself}
use Rattle.wgsl_layout.proofs.lemmas.Tidy.{counts}
use Rattle.wgsl_layout.proofs.lemmas.ViewPaths.{layout-type}
use Rattle.wgsl_places.specs.Laws.{number_in}
use Rattle.wgsl_places.specs.Memory.{IsPlaceAt, IsPlaceIn, IsPlaceOf, takes_at}
use Rattle.wgsl_places.specs.Numbers.{width_with}
use Rattle.wgsl_places.specs.Places.{ArePlaces, IsPlace, is_inside, loaded, number_there, takes}
use Rattle.wgsl_places.specs.declared.place.Place.{Place}
use Rattle.wgsl_layout.proofs.NumberPuts.{some-is, led-is}
use Rattle.wgsl_layout.proofs.Outcomes.{answered}
use Rattle.wgsl_values.proofs.lemmas.Replaced.{part-storable}

-- ---- the place of a part of a part

from-first : (r : Range) → further r.start (record { start = 0; layout = r.layout }) ≡ r
from-first r = let e : r.start + 0 ≡ r.start = omega arith in ap (λ (n : ℕ). record { start = n; layout = r.layout }) e

-- it is at a path one longer
pub part-path : (path : List ℕ) (i : ℕ) (l : Layout) (r q : Range) → range_in path l ≡ Some r → part_at i (parts_in r.layout) ≡ Some q → range_in (path ++ i ∷ []) l ≡ Some (further r.start q)
part-path path i l r q e f =
    range_in-append path (i ∷ []) l ∙ ap (option_and_then (λ k. option_map (further k.start) (range_in (i ∷ []) k.layout))) e
    ∙ ap (λ (o : Option Range). option_map (further r.start) (option_and_then (λ k. option_map (further k.start) (range_in [] k.layout)) o)) f
    ∙ ap (λ (k : Range). Some (further r.start k)) (from-first q)

pub part-of : (t : Ty) (cells : List Val) (q : Reference) (p : Place) (i : ℕ) (result : Option Place) → ((r : Range) → IsPlace t r p → ArePlaces t (option_map (further r.start) (part_at i (parts_in r.layout))) result)
    → IsPlaceOf t cells q p → IfSome result (IsPlaceOf t cells q)
part-of t cells q p i None told h = tt
part-of t cells q p i (Some s) told h =
    let a = answered (held cells q) (λ x. IsPlaceIn t x p) h in
    let r = some-is (range_in a.fact.path (layout_of a.answer)) (λ r. IsPlace t r p) a.fact.is in
    led-is (λ x. IsPlaceIn t x s) (held cells q) a.answer a.is (by a.answer a.fact.laid a.fact.path r.0 (part_at i (parts_in r.0.layout)) refl r.1 (told r.0 r.2))
  where
    by : (x : Val) → has_layout (type_of x) ≡ true → (path : List ℕ) (r : Range) (o : Option Range) → part_at i (parts_in r.layout) ≡ o → range_in path (layout_of x) ≡ Some r → ArePlaces t (option_map (further r.start) o) (Some s) → IsPlaceIn t x s
    by x laid path r None e there h = absurd (cc (h))
    by x laid path r (Some k) e there h = record {
      laid = laid;
      path = path ++ i ∷ [];
      is = subst (λ (o : Option Range). IsSomeAnd o (λ r. IsPlace t r s)) (sym (part-path path i (layout_of x) r k there e)) h;
    }

-- ---- what stands at a path in what has a layout

part-item : (i : ℕ) (ps : Parts) (vs : Vals) (q : Range) → FollowAll ps vs → part_at i ps ≡ Some q → (y : Val) × (item i vs ≡ Some y) × Follows q.layout y
part-item i no_parts vs q f e = absurd (cc (e))
part-item i (part from l ps) no_vals q f e = absurd f
part-item zero (part from l ps) (val v vs) q f e = let same : l ≡ q.layout = cc (e) in (v, refl, subst (λ (k : Layout). Follows k v) same f.1)
part-item (suc i) (part from l ps) (val v vs) q f e = part-item i ps vs q f.2 e

pub range-leads : (p : List ℕ) (l : Layout) (v : Val) (r : Range) → Follows l v → range_in p l ≡ Some r → (y : Val) × (value_at p v ≡ Some y) × Follows r.layout y
range-leads [] l v r f e = let same : l ≡ r.layout = cc (e) in (v, refl, subst (λ (k : Layout). Follows k v) same f)
range-leads (i ∷ p) l v r f e = by (part_at i (parts_in l)) refl e (λ k y s g d. range-leads p k y s g d)
  where
    rest : (q : Range) (o : Option Range) (y : Val) → range_in p q.layout ≡ o → option_map (further q.start) o ≡ Some r → item i (parts v) ≡ Some y → Follows q.layout y
        → ((k : Layout) (y : Val) (s : Range) → Follows k y → range_in p k ≡ Some s → (z : Val) × (value_at p y ≡ Some z) × Follows s.layout z) → (z : Val) × (value_at (i ∷ p) v ≡ Some z) × Follows r.layout z
    rest q None y is e there g on = absurd (cc (e))
    rest q (Some s) y is e there g on =
        let same : s.layout ≡ r.layout = cc (e) in
        let z = on q.layout y s g is in
        (z.0, ap (option_and_then (value_at p)) there ∙ z.1, subst (λ (k : Layout). Follows k z.0) same z.2)

    by : (o : Option Range) → part_at i (parts_in l) ≡ o → option_and_then (λ r. option_map (further r.start) (range_in p r.layout)) o ≡ Some r
        → ((k : Layout) (y : Val) (s : Range) → Follows k y → range_in p k ≡ Some s → (z : Val) × (value_at p y ≡ Some z) × Follows s.layout z) → (z : Val) × (value_at (i ∷ p) v ≡ Some z) × Follows r.layout z
    by None is e on = absurd (cc (e))
    by (Some q) is e on =
        let y = part-item i (parts_in l) (parts v) q (parts-follow l v f) is in
        rest q (range_in p q.layout) y.0 refl e y.1 y.2 on

-- ---- the number there

-- only numbers and atomics are laid out as scalars
scalar-fixed : (t s : Ty) (n : ℕ) (k : Kind) → layout n t ≡ scalar s k → has_layout t ≡ true → has_fixed_layout t ≡ true
scalar-fixed (vec m u) s n k e h = absurd (cc (e))
scalar-fixed (mat c r u) s n k e h = absurd (cc (e))
scalar-fixed (array u (Some m)) s n k e h = absurd (cc (e))
scalar-fixed (array u None) s n k e h = absurd (cc (e))
scalar-fixed (struct name fs) s n k e h = absurd (cc (e))
scalar-fixed t s n k e h = own-fixed (has_fixed_layout t) h
  where
    own-fixed : (b : Bool) → (b || false) ≡ true → b ≡ true
    own-fixed true h = refl
    own-fixed false h = h

-- a part has its own layout
pub part-layout : (x y : Val) (path : List ℕ) (r : Range) → IsStorable x → has_layout (type_of x) ≡ true → value_at path x ≡ Some y → range_in path (layout_of x) ≡ Some r → r.layout ≡ layout_of y
part-layout x y path r s h e there =
    let c = compose x y path s h e in
    let one : Some r ≡ Some c.1.range_of = sym there ∙ c.1.there in
    let same : c.1.range_of ≡ r = cc (one) in
    subst (λ (q : Range). q.layout ≡ layout_of y) same c.1.its_layout

pub part-type : (x y : Val) (path : List ℕ) (r : Range) → IsStorable x → has_layout (type_of x) ≡ true → value_at path x ≡ Some y → range_in path (layout_of x) ≡ Some r → type_in r.layout ≡ type_of y
part-type x y path r s h e there = ap type_in (part-layout x y path r s h e there) ∙ layout-type (type_of y) (runtime_count y)

-- its range lies in bytes that begin with those of x
pub range-inside : (x y : Val) (path b : List ℕ) (r : Range) → IsStorable x → has_layout (type_of x) ≡ true → value_at path x ≡ Some y → range_in path (layout_of x) ≡ Some r → take (length (buffer x)) b ≡ buffer x
    → (r.start + length_in r.layout ≤ length (buffer x)) × (length (buffer x) ≤ length b)
range-inside x y path b r s h e there begins =
    let c = compose x y path s h e in
    let one : Some r ≡ Some c.1.range_of = sym there ∙ c.1.there in
    let same : c.1.range_of ≡ r = cc (one) in
    let long : length_in r.layout ≡ length (buffer y) = subst (λ (q : Range). length_in q.layout ≡ length (buffer y)) same c.1.its_length in
    let low : r.start + length (buffer y) ≤ length (buffer x) = subst (λ (q : Range). q.start + length (buffer y) ≤ length (buffer x)) same c.1.inside in
    let cut = ap length begins in
    let few = length-take (length (buffer x)) b in
    (omega (arith, long, low), omega (arith, cut, few))

-- and its bytes are there
bytes-there : (x y : Val) (path b : List ℕ) (r : Range) → IsStorable x → has_layout (type_of x) ≡ true → value_at path x ≡ Some y → range_in path (layout_of x) ≡ Some r → take (length (buffer x)) b ≡ buffer x → bytes_in b r ≡ buffer y
bytes-there x y path b r s h e there begins =
    let c = compose x y path s h e in
    let one : Some r ≡ Some c.1.range_of = sym there ∙ c.1.there in
    let same : c.1.range_of ≡ r = cc (one) in
    let inside = (range-inside x y path b r s h e there begins).0 in
    let n = length_in r.layout in
    let m = length (buffer x) in
    let split : m ≡ r.start + (m - r.start) = omega arith in
    sym (take-take n (m - r.start) (drop r.start b) (omega arith))
    ∙ ap (take n) (sym (drop-take r.start (m - r.start) b) ∙ ap (λ (k : ℕ). drop r.start (take k b)) (sym split) ∙ ap (drop r.start) begins)
    ∙ subst (λ (q : Range). bytes_in (buffer x) q ≡ buffer y) same c.1.its_bytes

-- which lay it out
pub stands-there : (x y : Val) (path b : List ℕ) (r : Range) (n : ℕ) → IsStorable x → has_layout (type_of x) ≡ true → value_at path x ≡ Some y → range_in path (layout_of x) ≡ Some r → r.layout ≡ layout n (type_in r.layout)
    → has_fixed_layout (type_in r.layout) ≡ true → take (length (buffer x)) b ≡ buffer x → decoded b r.start r.layout ≡ y
stands-there x y path b r n s h e there is fixed begins =
    let t = type_in r.layout in
    let typed = part-type x y path r s h e there in
    let laid : has_layout (type_of y) ≡ true = (compose x y path s h e).0 in
    let inside = range-inside x y path b r s h e there begins in
    let same_long = ap length_in is in
    let moved : r ≡ record { start = r.start; layout = layout n t } = ap (λ (l : Layout). record { start = r.start; layout = l }) is in
    let told = there-decodes n t (plan_of t) r.start b (record { laid = ap has_layout typed ∙ laid; counted = λ f. absurd (false≢true (sym f ∙ fixed)); planned = refl; inside = omega (arith, inside.0, inside.1, same_long) }) in
    let own : decode (buffer y) (type_of y) ≡ Some y = laid-decodes (buffer y) (type_of y) y (lays-itself y (part-storable path x y s e) laid) in
    let as_is : decode (bytes_in b (record { start = r.start; layout = layout n t })) t ≡ Some y =
    ap (λ (q : Range). decode (bytes_in b q) t) (sym moved) ∙ ap (λ (c : List ℕ). decode c t) (bytes-there x y path b r s h e there begins) ∙ ap (decode (buffer y)) typed ∙ own in
    let got : Some (decoded b r.start (layout n t)) ≡ Some y = sym told ∙ as_is in
    ap (decoded b r.start) is ∙ cc (got)

scalar-number : (t : Ty) (k : Kind) (z : ℤ) → number_in (made_of_number t k z) ≡ Some (number k z)
scalar-number (atomic t) k z = refl
scalar-number t k z = refl

no-number : (t : Ty) (vs : Vals) → number_in (made_of_parts t vs) ≡ None
no-number (struct name fs) vs = refl
no-number (array t None) vs = refl
no-number (array t (Some n)) vs = refl
no-number (vec n t) vs = refl
no-number (mat c r t) vs = refl
no-number t vs = refl

-- what is loaded of bytes that begin with those of x is the number of the part
pub loaded-is : (t : Ty) (x : Val) (path : List ℕ) (p : Place) (b : List ℕ) (r : Range) → IsStorable x → has_layout (type_of x) ≡ true → range_in path (layout_of x) ≡ Some r → IsPlace t r p
    → take (length (buffer x)) b ≡ buffer x → loaded b r ≡ option_and_then number_in (value_at path x)
loaded-is t x path p b r s h there place begins = by r.layout refl y.2
  where
    y : (y : Val) × (value_at path x ≡ Some y) × Follows r.layout y
    y = range-leads path (layout_of x) x r (follows x s h) there

    -- in either sort of layout
    by : (l : Layout) → r.layout ≡ l → Follows r.layout y.0 → loaded b r ≡ option_and_then number_in (value_at path x)
    by (scalar u k) e f =
        let own : type_in r.layout ≡ u = ap type_in e in
        let inside = range-inside x y.0 path b r s h y.1 there begins in
        let flat : r.layout ≡ scalar (type_in r.layout) k = e ∙ ap (λ (v : Ty). scalar v k) (sym own) in
        let fixed = scalar-fixed (type_in r.layout) (type_in r.layout) p.elements k (sym place.layout_is ∙ flat) place.laid in
        let stands = stands-there x y.0 path b r p.elements s h y.1 there place.layout_is fixed begins in
        let numbers : number_there b r.start r.layout ≡ number_in y.0 =
        ap (number_there b r.start) e ∙ sym (scalar-number u k (read_number b r.start k)) ∙ ap (λ (l : Layout). number_in (decoded b r.start l)) (sym e) ∙ ap number_in stands in
        ap (λ (c : Bool). if c then number_there b r.start r.layout else None) (le-leb (r.start + length_in r.layout) (length b) (omega (arith, inside.0, inside.1))) ∙ numbers
        ∙ ap (option_and_then number_in) (sym y.1)
    by (composite u len ps) e f =
        let g : Follows (composite u len ps) y.0 = subst (λ (l : Layout). Follows l y.0) e f in
        let none : number_in y.0 ≡ None = ap number_in g.0 ∙ no-number u (parts y.0) in
        ap (λ (l : Layout). if is_inside b r then number_there b r.start l else None) e ∙ nothing (is_inside b r) ∙ sym none ∙ ap (option_and_then number_in) (sym y.1)
      where
        nothing : (c : Bool) → ◌≡◌ {A = Option Val} (if c then None else None) None
        nothing true = refl
        nothing false = refl

-- ---- which numbers are held there

pub told-i32 : (l : LiteralInstance) → takes (type_of (literal_of l)) (scalar types.i32 kinds.i32) ≡ is_some (width_with 1 (literal_of l))
told-i32 (literals.I32 z) = refl
told-i32 l = refl

pub told-u32 : (l : LiteralInstance) → takes (type_of (literal_of l)) (scalar types.u32 kinds.u32) ≡ is_some (width_with 2 (literal_of l))
told-u32 (literals.U32 z) = refl
told-u32 l = refl

pub told-i64 : (l : LiteralInstance) → takes (type_of (literal_of l)) (scalar types.i64 kinds.i64) ≡ is_some (width_with 5 (literal_of l))
told-i64 (literals.I64 z) = refl
told-i64 l = refl

pub told-u64 : (l : LiteralInstance) → takes (type_of (literal_of l)) (scalar types.u64 kinds.u64) ≡ is_some (width_with 6 (literal_of l))
told-u64 (literals.U64 z) = refl
told-u64 l = refl

told-atomic-i32 : (l : LiteralInstance) → takes (type_of (literal_of l)) (scalar (atomic types.i32) kinds.i32) ≡ is_some (width_with 257 (literal_of l))
told-atomic-i32 (literals.I32 z) = refl
told-atomic-i32 l = refl

told-atomic-u32 : (l : LiteralInstance) → takes (type_of (literal_of l)) (scalar (atomic types.u32) kinds.u32) ≡ is_some (width_with 258 (literal_of l))
told-atomic-u32 (literals.U32 z) = refl
told-atomic-u32 l = refl

vector-many : (m : ℕ) (u : Ty) → has_layout (vec m u) ≡ true → 2 ≤ m
vector-many m u h = (counts m (and-both (is_from_2_to_4 m) (is_some (scalar_kind u)) (or-false (has_fixed_layout (vec m u)) h)).0).0

many : (n : ℕ) → n ≡ 1 → 2 ≤ n → ⊥
many n e h = omega (arith, e, h)

-- the numbers of the kind that the record of a number says
takes-kind : (t : Ty) (n : ℕ) (l : LiteralInstance) → has_layout t ≡ true → numbers_in t ≡ 1 → takes (type_of (literal_of l)) (layout n t) ≡ is_some (width_with (number_kind t) (literal_of l))
takes-kind types.i32 n l h one = told-i32 l
takes-kind types.u32 n l h one = told-u32 l
takes-kind types.i64 n l h one = told-i64 l
takes-kind types.u64 n l h one = told-u64 l
takes-kind (atomic types.i32) n l h one = told-atomic-i32 l
takes-kind (atomic types.u32) n l h one = told-atomic-u32 l
takes-kind (atomic u) n l h one = absurd (false≢true h)
takes-kind (vec m u) n l h one = absurd (many m one (vector-many m u h))
takes-kind (mat c r u) n l h one = absurd (cc (one))
takes-kind (array u m) n l h one = absurd (cc (one))
takes-kind (struct name fs) n l h one = absurd (cc (one))
takes-kind t n l h one = absurd (false≢true h)

takes-none : (t : Ty) (n : ℕ) (u : Ty) → (numbers_in t ≡ 1 → ⊥) → has_layout t ≡ true → takes u (layout n t) ≡ false
takes-none types.i32 n u other h = absurd (other refl)
takes-none types.u32 n u other h = absurd (other refl)
takes-none types.i64 n u other h = absurd (other refl)
takes-none types.u64 n u other h = absurd (other refl)
takes-none (atomic types.i32) n u other h = absurd (other refl)
takes-none (atomic types.u32) n u other h = absurd (other refl)
takes-none (atomic t) n u other h = absurd (false≢true h)
takes-none (vec m t) n u other h = refl
takes-none (mat c r t) n u other h = refl
takes-none (array t (Some m)) n u other h = refl
takes-none (array t None) n u other h = refl
takes-none (struct name fs) n u other h = refl
takes-none t n u other h = absurd (false≢true h)

-- what a place tells of the numbers that are held there
pub takes-told : (t : Ty) (x : Val) (path : List ℕ) (p : Place) (l : LiteralInstance) → p.at.count ≡ 1 → IsPlaceAt t x path p → takes_at path x (literal_of l) ≡ is_some (width_with p.at.kind (literal_of l))
takes-told t x path p l one h =
    let r = some-is (range_in path (layout_of x)) (λ r. IsPlace t r p) h in
    let u = type_in r.0.layout in
    ap (λ (o : Option Range). elim o [ Some r ↦ takes (type_of (literal_of l)) r.layout | None ↦ false ]) r.1
    ∙ ap (takes (type_of (literal_of l))) r.2.layout_is ∙ takes-kind u p.elements l r.2.laid (sym r.2.at.count ∙ one)
    ∙ ap (λ (k : ℕ). is_some (width_with k (literal_of l))) (sym r.2.at.kind)

pub takes-nothing : (t : Ty) (x : Val) (path : List ℕ) (p : Place) (l : LiteralInstance) → (p.at.count ≡ 1 → ⊥) → IsPlaceAt t x path p → takes_at path x (literal_of l) ≡ false
takes-nothing t x path p l other h =
    let r = some-is (range_in path (layout_of x)) (λ r. IsPlace t r p) h in
    ap (λ (o : Option Range). elim o [ Some r ↦ takes (type_of (literal_of l)) r.layout | None ↦ false ]) r.1
    ∙ ap (takes (type_of (literal_of l))) r.2.layout_is ∙ takes-none (type_in r.0.layout) p.elements (type_of (literal_of l)) (λ e. other (r.2.at.count ∙ e)) r.2.laid

-- ---- a number there

like-number : (w : Val) (t : Ty) (k : Kind) (z : ℤ) → type_of (made_of_number t k z) ≡ t → takes (type_of w) (scalar t k) ≡ true → IsLikeNumber w (made_of_number t k z)
like-number w (atomic u) k z e h = let own : type_of_kind k ≡ u = cc (e) in (same-Decides (type_of w) u).0 h ∙ sym own
like-number w t k z e h = (same-Decides (type_of w) t).0 h ∙ sym e

-- a number that is held in the range of a path stands there
pub number-in-range : (x w : Val) (path : List ℕ) (r : Range) → IsStorable x → has_layout (type_of x) ≡ true → range_in path (layout_of x) ≡ Some r → takes (type_of w) r.layout ≡ true → IsNumberAt x path r.start w
number-in-range x w path r s h there taken =
    let y = range-leads path (layout_of x) x r (follows x s h) there in
    record {
      there = subst (λ (o : Option Val). IsSomeAnd o (IsLikeNumber w)) (sym y.1) (by r.layout refl y.0 y.2 taken (part-type x y.0 path r s h y.1 there));
      begins = subst (λ (o : Option Range). IsSomeAnd o (λ q. q.start ≡ r.start)) (sym there) refl;
    }
  where
    by : (l : Layout) {m : Layout} → m ≡ l → (y : Val) → Follows m y → takes (type_of w) m ≡ true → type_in m ≡ type_of y → IsLikeNumber w y
    by (scalar u k) e y f h own =
        let g : Follows (scalar u k) y = subst (λ (l : Layout). Follows l y) e f in
        let typed : type_of y ≡ u = sym own ∙ ap type_in e in
        subst (IsLikeNumber w) (sym g.1) (like-number w u k g.0 (ap type_of (sym g.1) ∙ typed) (ap (takes (type_of w)) (sym e) ∙ h))
    by (composite u len ps) e y f h own = absurd (false≢true (ap (takes (type_of w)) (sym e) ∙ h))

-- and so does one that is held at a place
pub number-there-is : (t : Ty) (x w : Val) (path : List ℕ) (p : Place) → IsStorable x → has_layout (type_of x) ≡ true → IsPlaceAt t x path p → takes_at path x w ≡ true → IsNumberAt x path p.at.offset w
number-there-is t x w path p s h place taken =
    let r = some-is (range_in path (layout_of x)) (λ r. IsPlace t r p) place in
    let told : takes (type_of w) r.0.layout ≡ true = ap (λ (o : Option Range). elim o [ Some r ↦ takes (type_of w) r.layout | None ↦ false ]) (sym r.1) ∙ taken in
    subst (λ (at : ℕ). IsNumberAt x path at w) (sym r.2.at.offset_is) (number-in-range x w path r.0 s h r.1 told)

-- ---- places stay

-- where what a reference names keeps its layout, each place of a part of it is one still
pub places-stay : (cells after : List Val) → KeepsLayouts cells after → ((r : Reference) → IsKept cells r → IsKept after r) → (t : Ty) (r : Reference) (p : Place) → IsKept cells r → IsPlaceOf t cells r p → IsPlaceOf t after r p
places-stay cells after keeps stay t r p k h =
    let a = answered (held cells r) (λ x. IsPlaceIn t x p) h in
    let b = kept-is after r (stay r k) in
    let was : layout_held cells r ≡ Ok (layout_of a.answer) = ap (λ (o : Outcome Val). and_then o (λ v. Ok (layout_of v))) a.is in
    let now : layout_held after r ≡ Ok (layout_of b.held_value) = ap (λ (o : Outcome Val). and_then o (λ v. Ok (layout_of v))) b.holds in
    let same : Ok (layout_of b.held_value) ≡ Ok (layout_of a.answer) = sym now ∙ keeps r k ∙ was in
    let c = kept-is cells r k in
    let one : Ok c.held_value ≡ Ok a.answer = sym c.holds ∙ a.is in
    let same_value : c.held_value ≡ a.answer = same-answer c.held_value a.answer one in
    let typed : type_of a.answer ≡ type_of b.held_value = ap type_of (sym same_value) ∙ c.typed ∙ sym b.typed in
    led-is (λ x. IsPlaceIn t x p) (held after r) b.held_value b.holds
    (record { laid = ap has_layout (sym typed) ∙ a.fact.laid; path = a.fact.path; is = subst (λ (l : Layout). IsSomeAnd (range_in a.fact.path l) (λ r. IsPlace t r p)) (sym (same-ok (layout_of b.held_value) (layout_of a.answer) same)) a.fact.is })
  where
    same-ok : (l m : Layout) → ◌≡◌ {A = Outcome Layout} (Ok l) (Ok m) → l ≡ m
    same-ok l m e = cc (e)

    same-answer : (x y : Val) → ◌≡◌ {A = Outcome Val} (Ok x) (Ok y) → x ≡ y
    same-answer x y e = cc (e)
