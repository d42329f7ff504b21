-- Vectors at places in what references name.
use Rattle.std.proofs.Common.{◌≡◌, ℕ, zero, suc, ◌+◌, ◌*◌, ◌<◌, ◌^◌, List, [], ◌∷◌, ◌++◌, length, map, slice_get, Option, Some, None, is_some, option_map, option_and_then, Bool, true, false, refl, sym, ap, ◌∙◌, subst, arith, take}
use Rattle.std.specs.Prelude.{IsOkAnd, IfSome, ◌==◌, ◌&&◌, if◌then◌else◌}
use Rattle.std.specs.Bool.{OnTrue}
use Rattle.std.specs.List.{list_all}
use Rattle.std.proofs.lemmas.Bool.{false≢true, le-leb, eqb-true}
use Rattle.std.proofs.lemmas.List.{length-map}
use Rattle.std.proofs.lemmas.Option.{slice_get_within}
use Rattle.wgsl_rules.specs.Kinds.{bytes_of}
use Rattle.wgsl_rules.specs.Layout.{has_fixed_layout, has_layout, is_from_2_to_4, Layout, scalar, length_in, layout, layout_of, repeated, scalar_kind, size, type_in}
use Rattle.wgsl_rules.specs.Paths.{parts, put_tree, value_at}
use Rattle.wgsl_rules.specs.Same.{same}
use Rattle.wgsl_rules.specs.Types as types
use Rattle.wgsl_rules.specs.Types.{Ty, vec}
use Rattle.wgsl_rules.specs.Values.{Reference, Val, vector, Vals, no_vals, val, count, type_of, IsStorable}
use Rattle.wgsl_rules.proofs.lemmas.Known.{and-both}
use Rattle.wgsl_rules.proofs.lemmas.Tests.{or-false}
use Rattle.wgsl_scalar.specs.Literals.{literal_of}
use Rattle.wgsl_scalar.specs.declared.literal.LiteralInstance.{LiteralInstance}
use Rattle.wgsl_nodes.specs.HostTypes.{is_number, kind_of}
use Rattle.wgsl_nodes.specs.Places.{number_kind, numbers_in}
use Rattle.wgsl_values.specs.View.{vals_of}
use Rattle.wgsl_values.proofs.Listed.{length-listed}
use Rattle.wgsl_layout.specs.Buffers.{buffer}
use Rattle.wgsl_store.specs.Memory.{held, IsSound, put_cells}
use Rattle.wgsl_layout.specs.NumbersIn.{IsNumberAt}
use Rattle.wgsl_layout.specs.Ranges.{Range, further, part_at, parts_in, range_in}
use Rattle.wgsl_layout.proofs.lemmas.Follows.{Follows, FollowAll, follows}
use Rattle.wgsl_store.proofs.lemmas.Held.{held-value}
use Rattle.wgsl_layout.proofs.lemmas.Tidy.{counts}
use Rattle.wgsl_places.specs.Laws.{components_in}
use Rattle.wgsl_places.specs.Memory.{IsPlaceAt, IsPlaceIn, IsPlaceOf, is_vector_of, takes_vec_at}
use Rattle.wgsl_places.specs.Numbers.{is_of_kind, row_width, width_of}
use Rattle.wgsl_places.specs.Places.{IsPlace, number_type}
use Rattle.wgsl_places.specs.Rows.{HasRow, IsRow}
use Rattle.wgsl_places.specs.Vectors.{is_vector, loaded_parts, loaded_vec}
use Rattle.wgsl_places.specs.declared.place.Place.{Place}
use Rattle.wgsl_places.proofs.MemoryCalls.{fact-of}
use Rattle.wgsl_places.proofs.MemoryPlaces.{number-in-range, part-path, part-type, range-inside, range-leads, stands-there, told-i32, told-i64, told-u32, told-u64}
use Rattle.wgsl_layout.proofs.Outcomes.{answered}
use Rattle.wgsl_layout.proofs.NumberPuts.{led-is}
use Rattle.wgsl_layout.proofs.NumberPuts.{some-is}
use Rattle.wgsl_places.proofs.VectorValues.{vector-loads-are-reads}
use Rattle.wgsl_places.proofs.Vectors.{IsVector, one-or-none, vector-is}

-- ---- what is loaded

vector-fixed : (u : Ty) → is_vector u ≡ true → has_layout u ≡ true → has_fixed_layout u ≡ true
vector-fixed (vec n t) v h = or-false (has_fixed_layout (vec n t)) h
vector-fixed u v h = absurd (false≢true v)

no-components : (y : Val) → is_vector (type_of y) ≡ false → None ≡ components_in y
no-components (vector vs) h = absurd (false≢true (sym h))
no-components y h = refl

-- of bytes that begin with those of x, the components of the part
pub loaded-vec-is : (t : Ty) (x : Val) (path : List ℕ) (p : Place) (b : List ℕ) (r : Range) → IsStorable x → has_layout (type_of x) ≡ true → range_in path (layout_of x) ≡ Some r → IsPlace t r p → take (length (buffer x)) b ≡ buffer x
    → loaded_vec b r ≡ option_and_then components_in (value_at path x)
loaded-vec-is t x path p b r s h there place begins = by (is_vector (type_in r.layout)) refl
  where
    y : (y : Val) × (value_at path x ≡ Some y) × Follows r.layout y
    y = range-leads path (layout_of x) x r (follows x s h) there

    by : (c : Bool) → is_vector (type_in r.layout) ≡ c → loaded_vec b r ≡ option_and_then components_in (value_at path x)
    by true is =
        let inside = range-inside x y.0 path b r s h y.1 there begins in
        let stands = stands-there x y.0 path b r p.elements s h y.1 there place.layout_is (vector-fixed (type_in r.layout) is place.laid) begins in
        vector-loads-are-reads b r p.elements place.laid place.layout_is (le-leb (r.start + length_in r.layout) (length b) (omega (arith, inside.0, inside.1)))
        ∙ ap components_in stands ∙ ap (option_and_then components_in) (sym y.1)
    by false is =
        let typed : is_vector (type_of y.0) ≡ false = ap is_vector (sym (part-type x y.0 path r s h y.1 there)) ∙ is in
        ap (λ (c : Bool). if c then loaded_parts b r.start (parts_in r.layout) else None) is ∙ no-components y.0 typed ∙ ap (option_and_then components_in) (sym y.1)

-- ---- which numbers are held there

scalar-told : (t : Ty) (l : LiteralInstance) → is_some (scalar_kind t) ≡ true → same (type_of (literal_of l)) t ≡ is_of_kind (kind_of t) (literal_of l)
scalar-told types.i32 l h = told-i32 l
scalar-told types.u32 l h = told-u32 l
scalar-told types.i64 l h = told-i64 l
scalar-told types.u64 l h = told-u64 l
scalar-told t l h = absurd (false≢true h)

scalar-own : (t : Ty) → is_some (scalar_kind t) ≡ true → number_type t ≡ t
scalar-own types.i32 h = refl
scalar-own types.u32 h = refl
scalar-own types.i64 h = refl
scalar-own types.u64 h = refl
scalar-own t h = absurd (false≢true h)

all-told : (t : Ty) (ls : List LiteralInstance) → is_some (scalar_kind t) ≡ true → list_all (λ w. same (type_of w) t) (map literal_of ls) ≡ list_all (λ l. is_of_kind (kind_of t) (literal_of l)) ls
all-told t [] h = refl
all-told t (l ∷ ls) h =
    ap (λ (b : Bool). b && list_all (λ w. same (type_of w) t) (map literal_of ls)) (scalar-told t l h)
    ∙ ap (λ (b : Bool). is_of_kind (kind_of t) (literal_of l) && b) (all-told t ls h)

vector-scalar : (n : ℕ) (t : Ty) → has_layout (vec n t) ≡ true → is_some (scalar_kind t) ≡ true
vector-scalar n t h = (and-both (is_from_2_to_4 n) (is_some (scalar_kind t)) (or-false (has_fixed_layout (vec n t)) h)).1

-- vectors take as many numbers of the kind
vector-told : (n : ℕ) (t : Ty) (ls : List LiteralInstance) → has_layout (vec n t) ≡ true → is_vector_of (map literal_of ls) (vec n t) ≡ is_some (row_width (kind_of t) n ls)
vector-told n t ls h =
    let v = vector-is n t h in
    ap (λ (m : ℕ). (m == n) && list_all (λ w. same (type_of w) t) (map literal_of ls)) (length-map ls literal_of)
    ∙ ap (λ (b : Bool). (length ls == n) && b) (all-told t ls (vector-scalar n t h))
    ∙ sym (ap (λ (b : Bool). is_some (if b && tests then width_of (kind_of t) else None)) v.count ∙ width tests (width_of (kind_of t)) (bytes_of v.kind) (ap (option_map bytes_of) v.component.named))
  where
    tests : Bool
    tests = (length ls == n) && list_all (λ l. is_of_kind (kind_of t) (literal_of l)) ls

    width : (c : Bool) (o : Option ℕ) (far : ℕ) → o ≡ Some far → is_some (if c then o else None) ≡ c
    width true o far e = ap (λ (o : Option ℕ). is_some o) e
    width false o far e = refl

no-width : (u : Ty) (ls : List LiteralInstance) → is_from_2_to_4 (numbers_in u) ≡ false → row_width (number_kind u) (numbers_in u) ls ≡ None
no-width u ls h = ap (λ (b : Bool). if b && ((length ls == numbers_in u) && list_all (λ l. is_of_kind (number_kind u) (literal_of l)) ls) then width_of (number_kind u) else None) h

type-told : (u : Ty) (ls : List LiteralInstance) → has_layout u ≡ true → is_vector_of (map literal_of ls) u ≡ is_some (row_width (number_kind u) (numbers_in u) ls)
type-told (vec n t) ls h = vector-told n t ls h
type-told u ls h = sym (ap (λ (o : Option ℕ). is_some o) (no-width u ls (one-or-none (is_number u))))

row-at : (u : Ty) (p : Place) (ls : List LiteralInstance) → p.at.kind ≡ number_kind u → p.at.count ≡ numbers_in u → row_width p.at.kind p.at.count ls ≡ row_width (number_kind u) (numbers_in u) ls
row-at u p ls k n = ap (λ (j : ℕ). row_width j p.at.count ls) k ∙ ap (λ (m : ℕ). row_width (number_kind u) m ls) n

-- what a place tells of them
pub takes-vec-told : (t : Ty) (x : Val) (path : List ℕ) (p : Place) (ls : List LiteralInstance) → IsPlaceAt t x path p → takes_vec_at path x (map literal_of ls) ≡ is_some (row_width p.at.kind p.at.count ls)
takes-vec-told t x path p ls h =
    let r = some-is (range_in path (layout_of x)) (λ r. IsPlace t r p) h in
    let u = type_in r.0.layout in
    ap (λ (o : Option Range). elim o [ Some r ↦ is_vector_of (map literal_of ls) (type_in r.layout) | None ↦ false ]) r.1
    ∙ type-told u ls r.2.laid
    ∙ ap (λ (o : Option ℕ). is_some o) (sym (row-at u p ls r.2.at.kind r.2.at.count))

-- ---- numbers side by side

part-repeated : (l : Layout) (far from n i : ℕ) → i < n → part_at i (repeated l far from n) ≡ Some (record { start = from + i * far; layout = l })
part-repeated l far from zero i lt = absurd (omega arith)
part-repeated l far from (suc n) zero lt = let at : from ≡ from + 0 * far = omega arith in ap (λ (k : ℕ). Some (record { start = k; layout = l })) at
part-repeated l far from (suc n) (suc i) lt =
    let at : from + far + i * far ≡ from + suc i * far = omega arith in
    part-repeated l far (from + far) n i (omega arith) ∙ ap (λ (k : ℕ). Some (record { start = k; layout = l })) at

follow-count : (l : Layout) (far from n : ℕ) (vs : Vals) → FollowAll (repeated l far from n) vs → count vs ≡ n
follow-count l far from zero no_vals f = refl
follow-count l far from zero (val v vs) f = absurd f
follow-count l far from (suc n) no_vals f = absurd f
follow-count l far from (suc n) (val v vs) f = ap (λ (m : ℕ). suc m) (follow-count l far (from + far) n vs f.2)

each-passes : {A : Type 0} (f : A → Bool) (xs : List A) (i : ℕ) (x : A) → list_all f xs ≡ true → slice_get xs i ≡ Some x → f x ≡ true
each-passes f [] i x h e = absurd (cc (e))
each-passes f (y ∷ ys) zero x h e = let same_item : y ≡ x = cc (e) in ap f (sym same_item) ∙ (and-both (f y) (list_all f ys) h).0
each-passes f (y ∷ ys) (suc i) x h e = each-passes f ys i x (and-both (f y) (list_all f ys) h).1 e

passed : (c : Bool) (o : Option ℕ) (far : ℕ) → Some far ≡ (if c then o else None) → (c ≡ true) × (Some far ≡ o)
passed true o far e = (refl, e)
passed false o far e = absurd (cc (e))

-- what the width of a row tells of the vector that stands there
record IsPlacedRow (x : Val) (path : List ℕ) (r : Range) (far : ℕ) (ls : List LiteralInstance) : Type 0 where
  row : IsRow x path r.start far (map literal_of ls)
  long : length ls * far ≡ length_in r.layout

vector-row : (x : Val) (path : List ℕ) (r : Range) (m n far : ℕ) (t : Ty) (ls : List LiteralInstance) → IsStorable x → has_layout (type_of x) ≡ true → range_in path (layout_of x) ≡ Some r → r.layout ≡ layout m (vec n t)
    → has_layout (vec n t) ≡ true → Some far ≡ row_width (kind_of t) n ls → IsPlacedRow x path r far ls
vector-row x path r m n far t ls s h there is laid e = record { row = record { many = many; each = λ i. each i (slice_get (map literal_of ls) i) refl }; long = long }
  where
    v : IsVector n t
    v = vector-is n t laid

    tests : (is_from_2_to_4 n && ((length ls == n) && list_all (λ l. is_of_kind (kind_of t) (literal_of l)) ls) ≡ true) × (Some far ≡ width_of (kind_of t))
    tests = passed (is_from_2_to_4 n && ((length ls == n) && list_all (λ l. is_of_kind (kind_of t) (literal_of l)) ls)) (width_of (kind_of t)) far e

    both : ((length ls == n) ≡ true) × (list_all (λ l. is_of_kind (kind_of t) (literal_of l)) ls ≡ true)
    both = and-both (length ls == n) (list_all (λ l. is_of_kind (kind_of t) (literal_of l)) ls) (and-both (is_from_2_to_4 n) ((length ls == n) && list_all (λ l. is_of_kind (kind_of t) (literal_of l)) ls) tests.0).1

    as_many : length ls ≡ n
    as_many = eqb-true (length ls) n both.0

    far_is : far ≡ bytes_of v.kind
    far_is = let known : Some far ≡ Some (bytes_of v.kind) = tests.1 ∙ ap (option_map bytes_of) v.component.named in cc (known)

    long : length ls * far ≡ length_in r.layout
    long =
        ap (λ (k : ℕ). k * far) as_many ∙ ap (λ (k : ℕ). n * k) far_is ∙ sym (v.component.wide n (counts n v.count).1) ∙ ap length_in (sym is)

    y : (y : Val) × (value_at path x ≡ Some y) × Follows r.layout y
    y = range-leads path (layout_of x) x r (follows x s h) there

    many : option_map length (option_and_then components_in (value_at path x)) ≡ Some (length (map literal_of ls))
    many =
        let f : Follows (layout m (vec n t)) y.0 = subst (λ (l : Layout). Follows l y.0) is y.2 in
        ap (λ (o : Option Val). option_map length (option_and_then components_in o)) y.1
        ∙ ap (λ (z : Val). option_map length (components_in z)) f.0
        ∙ ap (λ (k : ℕ). Some k) (length-listed (parts y.0) ∙ follow-count (layout m t) (size t) 0 n (parts y.0) f.1 ∙ sym as_many ∙ sym (length-map ls literal_of))

    each : (i : ℕ) (o : Option Val) → slice_get (map literal_of ls) i ≡ o → IfSome o (IsNumberAt x (path ++ i ∷ []) (r.start + i * far))
    each i None e = tt
    each i (Some w) e =
        let below = slice_get_within (map literal_of ls) i w e in
        let long_list = length-map ls literal_of in
        let told : list_all (λ w. same (type_of w) t) (map literal_of ls) ≡ true = all-told t ls (vector-scalar n t laid) ∙ both.1 in
        let its_type : same (type_of w) t ≡ true = each-passes (λ w. same (type_of w) t) (map literal_of ls) i w told e in
        let its_own : same (type_of w) (number_type t) ≡ true = ap (same (type_of w)) (scalar-own t (vector-scalar n t laid)) ∙ its_type in
        let at : 0 + i * bytes_of v.kind ≡ i * far = omega (arith, ap (λ (k : ℕ). i * k) far_is) in
        let q = part-path path i (layout_of x) r (record { start = 0 + i * bytes_of v.kind; layout = scalar t v.kind }) there
        (ap (λ (l : Layout). part_at i (parts_in l)) is ∙ ap (part_at i) (v.parts m) ∙ part-repeated (scalar t v.kind) (bytes_of v.kind) 0 n i (omega (arith, below, long_list, as_many))) in
        subst (λ (k : ℕ). IsNumberAt x (path ++ i ∷ []) (r.start + k) w) at
        (number-in-range x w (path ++ i ∷ []) (further r.start (record { start = 0 + i * bytes_of v.kind; layout = scalar t v.kind })) s h q its_own)

type-row : (x : Val) (path : List ℕ) (r : Range) (m far : ℕ) (u : Ty) (ls : List LiteralInstance) → IsStorable x → has_layout (type_of x) ≡ true → range_in path (layout_of x) ≡ Some r → r.layout ≡ layout m u → has_layout u ≡ true
    → Some far ≡ row_width (number_kind u) (numbers_in u) ls → IsPlacedRow x path r far ls
type-row x path r m far (vec n t) ls s h there is laid e = vector-row x path r m n far t ls s h there is laid e
type-row x path r m far u ls s h there is laid e = let none : Some far ≡ None = e ∙ no-width u ls (one-or-none (is_number u)) in absurd (cc (none))

-- where numbers are taken at a place, as many stand there side by side
pub record IsRowAt (x : Val) (path : List ℕ) (p : Place) (far : ℕ) (ls : List LiteralInstance) : Type 0 where
  pub row : IsRow x path p.at.offset far (map literal_of ls)
  pub below : p.at.offset + length ls * far < 2 ^ 64

pub row-is : (t : Ty) (x : Val) (path : List ℕ) (p : Place) (far : ℕ) (ls : List LiteralInstance) → IsStorable x → has_layout (type_of x) ≡ true → IsPlaceAt t x path p → Some far ≡ row_width p.at.kind p.at.count ls → IsRowAt x path p far ls
row-is t x path p far ls s h place e =
    let r = some-is (range_in path (layout_of x)) (λ r. IsPlace t r p) place in
    let u = type_in r.0.layout in
    let k = type-row x path r.0 p.elements far u ls s h r.1 r.2.layout_is r.2.laid (e ∙ row-at u p ls r.2.at.kind r.2.at.count) in
    let offset = r.2.at.offset_is in
    let below = r.2.below in
    let long = k.long in
    record { row = subst (λ (at : ℕ). IsRow x path at far (map literal_of ls)) (sym offset) k.row; below = omega (arith, offset, below, long) }

-- ---- calls

pub row-there : (t : Ty) (cells : List Val) (r : Reference) (p : Place) (far : ℕ) (ls : List LiteralInstance) → IsSound cells → IsPlaceOf t cells r p → Some far ≡ row_width p.at.kind p.at.count ls
    → IsOkAnd (held cells r) (λ x. HasRow x p.at.offset far (map literal_of ls))
row-there t cells r p far ls s h e =
    let a = answered (held cells r) (λ x. IsPlaceIn t x p) h in
    led-is (λ x. HasRow x p.at.offset far (map literal_of ls)) (held cells r) a.answer a.is
    (record { path = a.fact.path; is = (row-is t a.answer a.fact.path p far ls (held-value cells r a.answer s a.is).0 a.fact.laid a.fact.is e).row })

pub row-below : (t : Ty) (cells : List Val) (r : Reference) (p : Place) (far : ℕ) (ls : List LiteralInstance) → IsSound cells → IsPlaceOf t cells r p → Some far ≡ row_width p.at.kind p.at.count ls → p.at.offset + length ls * far < 2 ^ 64
row-below t cells r p far ls s h e =
    let a = answered (held cells r) (λ x. IsPlaceIn t x p) h in
    (row-is t a.answer a.fact.path p far ls (held-value cells r a.answer s a.is).0 a.fact.laid a.fact.is e).below

-- the vector is put there
pub row-stored : (t : Ty) (cells after : List Val) (r : Reference) (p : Place) (far : ℕ) (ls : List LiteralInstance) (done : Bool) → IsSound cells → IsPlaceOf t cells r p → Some far ≡ row_width p.at.kind p.at.count ls
    → OnTrue done ((path : List ℕ) → IsOkAnd (held cells r) (λ x. IsRow x path p.at.offset far (map literal_of ls) → after ≡ put_cells cells r (put_tree path (vector (vals_of (map literal_of ls))) x)))
    → OnTrue done ((path : List ℕ) → IsOkAnd (held cells r) (λ x. IsPlaceAt t x path p → after ≡ put_cells cells r (put_tree path (vector (vals_of (map literal_of ls))) x)))
row-stored t cells after r p far ls false s h e put = tt
row-stored t cells after r p far ls true s h e put = at
  where
    at : (path : List ℕ) → IsOkAnd (held cells r) (λ x. IsPlaceAt t x path p → after ≡ put_cells cells r (put_tree path (vector (vals_of (map literal_of ls))) x))
    at path =
        let a = answered (held cells r) (λ x. IsPlaceIn t x p) h in
        let told = fact-of (λ x. IsRow x path p.at.offset far (map literal_of ls) → after ≡ put_cells cells r (put_tree path (vector (vals_of (map literal_of ls))) x)) (held cells r) a.answer a.is (put path) in
        led-is (λ x. IsPlaceAt t x path p → after ≡ put_cells cells r (put_tree path (vector (vals_of (map literal_of ls))) x)) (held cells r) a.answer a.is
        (λ place. told ((row-is t a.answer path p far ls (held-value cells r a.answer s a.is).0 a.fact.laid place e).row))
