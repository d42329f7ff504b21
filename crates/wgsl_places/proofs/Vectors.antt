-- Vectors at places: rows of numbers.
use Rattle.std.proofs.Common.{◌≡◌, ℕ, zero, suc, ◌+◌, List, [], ◌∷◌, length, map, Option, Some, None, option_map, option_and_then, is_some, Bool, true, false, ◌⊎◌, inl, inr, refl, sym, ap, ◌∙◌, arith}
use Rattle.std.specs.Prelude.{if◌then◌else◌}
use Rattle.std.proofs.lemmas.Bool.{false≢true}
use Rattle.std.proofs.lemmas.List.{length-map}
use Rattle.wgsl_rules.specs.InCommon.{prepended}
use Rattle.wgsl_rules.specs.Kinds.{Kind, bytes_of}
use Rattle.wgsl_rules.specs.Types.{Ty, vec}
use Rattle.wgsl_rules.specs.Values.{Val}
use Rattle.wgsl_rules.specs.Layout.{size, scalar_kind, is_from_2_to_4, has_layout, has_fixed_layout, Layout, scalar, Parts, layout, repeated, type_in}
use Rattle.wgsl_rules.proofs.lemmas.Known.{and-both}
use Rattle.wgsl_rules.proofs.lemmas.Tests.{or-false as left}
use Rattle.wgsl_scalar.specs.Literals.{literal_of}
use Rattle.wgsl_scalar.specs.declared.literal.LiteralInstance.{LiteralInstance}
use Rattle.wgsl_nodes.specs.HostTypes.{is_number, kind_of}
use Rattle.wgsl_nodes.specs.Places.{number_kind, numbers_in}
use Rattle.wgsl_layout.specs.Ranges.{Range, parts_in}
use Rattle.wgsl_places.specs.Numbers.{kind_named, loaded_as, loaded_far, loaded_row, stored_far, stored_row}
use Rattle.wgsl_places.specs.Places.{IsPlace, loaded, stored}
use Rattle.wgsl_places.specs.Vectors.{is_vector, loaded_parts, loaded_vec, stored_parts, stored_vec}
use Rattle.wgsl_places.specs.declared.place.Place.{Place}
use Rattle.wgsl_places.proofs.ComponentTypes.{IsComponent, component, range_at}

-- ---- rows are parts

far-loaded : (b : List ℕ) (o from kind far n : ℕ) (t : Ty) (k : Kind) → kind_named kind ≡ Some k → loaded_far b (o + from) kind far n ≡ loaded_parts b o (repeated (scalar t k) far from n)
far-loaded b o from kind far zero t k e = refl
far-loaded b o from kind far (suc n) t k e =
    let next : o + from + far ≡ o + (from + far) = omega arith in
    ap (λ (x : Option Val). prepended x (loaded_far b (o + from + far) kind far n)) (ap (option_and_then (loaded_as b (o + from))) e)
    ∙ ap (prepended (loaded b (range_at (o + from) (scalar t k)))) (ap (λ (m : ℕ). loaded_far b m kind far n) next ∙ far-loaded b o (from + far) kind far n t k e)

far-stored : (b : List ℕ) (o from far n : ℕ) (t : Ty) (k : Kind) (ls : List LiteralInstance) → IsComponent t k → length ls ≡ n
    → stored_far b (o + from) (kind_of t) far (map literal_of ls) ≡ stored_parts b o (repeated (scalar t k) far from n) (map literal_of ls)
far-stored b o from far zero t k [] is len = refl
far-stored b o from far zero t k (l ∷ ls) is len = absurd (cc (len))
far-stored b o from far (suc n) t k [] is len = absurd (cc (len))
far-stored b o from far (suc n) t k (l ∷ ls) is len =
    ap (option_and_then (λ (c : List ℕ). stored_far c (o + from + far) (kind_of t) far (map literal_of ls))) (sym (is.stored_is b (o + from) l))
    ∙ behind (stored b (range_at (o + from) (scalar t k)) (literal_of l)) (λ c. far-stored c o (from + far) far n t k ls is (omega arith))
  where
    next : o + from + far ≡ o + (from + far)
    next = omega arith

    behind : (x : Option (List ℕ))
        → ((c : List ℕ) → stored_far c (o + (from + far)) (kind_of t) far (map literal_of ls) ≡ stored_parts c o (repeated (scalar t k) far (from + far) n) (map literal_of ls))
        → option_and_then (λ (c : List ℕ). stored_far c (o + from + far) (kind_of t) far (map literal_of ls)) x
        ≡ option_and_then (λ (c : List ℕ). stored_parts c o (repeated (scalar t k) far (from + far) n) (map literal_of ls)) x
    behind None rest = refl
    behind (Some c) rest = ap (λ (m : ℕ). stored_far c m (kind_of t) far (map literal_of ls)) next ∙ rest c

-- more or fewer numbers than parts
others-stored : (b : List ℕ) (o from far n : ℕ) (l : Layout) (ws : List Val) → (length ws ≡ n → ⊥) → None ≡ stored_parts b o (repeated l far from n) ws
others-stored b o from far zero l [] differ = absurd (differ refl)
others-stored b o from far zero l (w ∷ ws) differ = refl
others-stored b o from far (suc n) l [] differ = refl
others-stored b o from far (suc n) l (w ∷ ws) differ = behind (stored b (range_at (o + from) l) w) (λ c. others-stored c o (from + far) far n l ws (λ e. differ (ap (λ (m : ℕ). suc m) e)))
  where
    behind : (x : Option (List ℕ)) → ((c : List ℕ) → None ≡ stored_parts c o (repeated l far (from + far) n) ws) → None ≡ option_and_then (λ (c : List ℕ). stored_parts c o (repeated l far (from + far) n) ws) x
    behind None rest = refl
    behind (Some c) rest = rest c

-- ---- the parts of a vector

-- how many components a vector with a layout has, and what they are
pub record IsVector (n : ℕ) (t : Ty) : Type 0 where
  pub count : is_from_2_to_4 n ≡ true
  pub kind : Kind
  pub component : IsComponent t kind
  pub parts : (m : ℕ) → parts_in (layout m (vec n t)) ≡ repeated (scalar t kind) (bytes_of kind) 0 n

pub vector-is : (n : ℕ) (t : Ty) → has_layout (vec n t) ≡ true → IsVector n t
vector-is n t h =
    let both = and-both (is_from_2_to_4 n) (is_some (scalar_kind t)) (left (has_fixed_layout (vec n t)) h) in
    let k = component t both.1 in
    record {
      count = both.0;
      kind = k.0;
      component = k.1;
      parts = λ m. ap (λ (l : Layout). repeated l (size t) 0 n) (k.1.laid_out m) ∙ ap (λ (far : ℕ). repeated (scalar t k.0) far 0 n) k.1.far;
    }

pub one-or-none : (c : Bool) → is_from_2_to_4 (if c then 1 else 0) ≡ false
one-or-none true = refl
one-or-none false = refl

-- as many numbers stand side by side in vectors alone
counted : (u : Ty) → has_layout u ≡ true → is_from_2_to_4 (numbers_in u) ≡ is_vector u
counted (vec n t) h = (vector-is n t h).count
counted u h = one-or-none (is_number u)

-- ---- what is loaded

vector-loaded : (b : List ℕ) (o m n : ℕ) (t : Ty) → has_layout (vec n t) ≡ true → loaded_row b o (kind_of t) n ≡ loaded_parts b o (parts_in (layout m (vec n t)))
vector-loaded b o m n t h =
    let v = vector-is n t h in
    let start : o ≡ o + 0 = omega arith in
    ap (λ (k : Option Kind). option_and_then (λ (far : ℕ). loaded_far b o (kind_of t) far n) (option_map bytes_of k)) v.component.named
    ∙ ap (λ (k : ℕ). loaded_far b k (kind_of t) (bytes_of v.kind) n) start
    ∙ far-loaded b o 0 (kind_of t) (bytes_of v.kind) n t v.kind v.component.named
    ∙ ap (loaded_parts b o) (sym (v.parts m))

type-loaded : (b : List ℕ) (o m : ℕ) (u : Ty) → has_layout u ≡ true → is_from_2_to_4 (numbers_in u) ≡ true
    → loaded_row b o (number_kind u) (numbers_in u) ≡ (if is_vector u then loaded_parts b o (parts_in (layout m u)) else None)
type-loaded b o m (vec n t) h few = vector-loaded b o m n t h
type-loaded b o m u h few = absurd (false≢true (sym (one-or-none (is_number u)) ∙ few))

-- at a place of so many numbers
pub place-loaded : (t : Ty) (r : Range) (p : Place) (b : List ℕ) → IsPlace t r p → is_from_2_to_4 p.at.count ≡ true → loaded_row b p.at.offset p.at.kind p.at.count ≡ loaded_vec b r
place-loaded t r p b is few =
    let u = type_in r.layout in
    ap (λ (o : ℕ). loaded_row b o p.at.kind p.at.count) is.at.offset_is
    ∙ ap (λ (k : ℕ). loaded_row b r.start k p.at.count) is.at.kind
    ∙ ap (λ (n : ℕ). loaded_row b r.start (number_kind u) n) is.at.count
    ∙ type-loaded b r.start p.elements u is.laid (ap is_from_2_to_4 (sym is.at.count) ∙ few)
    ∙ ap (λ (l : Layout). if is_vector u then loaded_parts b r.start (parts_in l) else None) (sym is.layout_is)

no-vector : (t : Ty) (r : Range) (p : Place) → IsPlace t r p → is_from_2_to_4 p.at.count ≡ false → is_vector (type_in r.layout) ≡ false
no-vector t r p is none = sym (counted (type_in r.layout) is.laid) ∙ ap is_from_2_to_4 (sym is.at.count) ∙ none

-- at another
pub place-not-loaded : (t : Ty) (r : Range) (p : Place) (b : List ℕ) → IsPlace t r p → is_from_2_to_4 p.at.count ≡ false → None ≡ loaded_vec b r
place-not-loaded t r p b is none = sym (ap (λ (c : Bool). if c then loaded_parts b r.start (parts_in r.layout) else None) (no-vector t r p is none))

-- ---- what is stored

vector-stored : (b : List ℕ) (o m n : ℕ) (t : Ty) (ls : List LiteralInstance) → has_layout (vec n t) ≡ true → length ls ≡ n
    → stored_row b o (kind_of t) (map literal_of ls) ≡ stored_parts b o (parts_in (layout m (vec n t))) (map literal_of ls)
vector-stored b o m n t ls h len =
    let v = vector-is n t h in
    let start : o ≡ o + 0 = omega arith in
    ap (λ (k : Option Kind). option_and_then (λ (far : ℕ). stored_far b o (kind_of t) far (map literal_of ls)) (option_map bytes_of k)) v.component.named
    ∙ ap (λ (k : ℕ). stored_far b k (kind_of t) (bytes_of v.kind) (map literal_of ls)) start
    ∙ far-stored b o 0 (bytes_of v.kind) n t v.kind ls v.component len
    ∙ ap (λ (ps : Parts). stored_parts b o ps (map literal_of ls)) (sym (v.parts m))

type-stored : (b : List ℕ) (o m : ℕ) (u : Ty) (ls : List LiteralInstance) → has_layout u ≡ true → is_from_2_to_4 (numbers_in u) ≡ true → length ls ≡ numbers_in u
    → stored_row b o (number_kind u) (map literal_of ls) ≡ (if is_vector u then stored_parts b o (parts_in (layout m u)) (map literal_of ls) else None)
type-stored b o m (vec n t) ls h few len = vector-stored b o m n t ls h len
type-stored b o m u ls h few len = absurd (false≢true (sym (one-or-none (is_number u)) ∙ few))

-- as many numbers as there are at a place
pub place-stored : (t : Ty) (r : Range) (p : Place) (b : List ℕ) (ls : List LiteralInstance) → IsPlace t r p → is_from_2_to_4 p.at.count ≡ true → length ls ≡ p.at.count
    → stored_row b p.at.offset p.at.kind (map literal_of ls) ≡ stored_vec b r (map literal_of ls)
place-stored t r p b ls is few len =
    let u = type_in r.layout in
    ap (λ (o : ℕ). stored_row b o p.at.kind (map literal_of ls)) is.at.offset_is
    ∙ ap (λ (k : ℕ). stored_row b r.start k (map literal_of ls)) is.at.kind
    ∙ type-stored b r.start p.elements u ls is.laid (ap is_from_2_to_4 (sym is.at.count) ∙ few) (len ∙ is.at.count)
    ∙ ap (λ (l : Layout). if is_vector u then stored_parts b r.start (parts_in l) (map literal_of ls) else None) (sym is.layout_is)

-- at a place of none
place-not-stored : (t : Ty) (r : Range) (p : Place) (b : List ℕ) (ws : List Val) → IsPlace t r p → is_from_2_to_4 p.at.count ≡ false → None ≡ stored_vec b r ws
place-not-stored t r p b ws is none = sym (ap (λ (c : Bool). if c then stored_parts b r.start (parts_in r.layout) ws else None) (no-vector t r p is none))

others-not-stored : (b : List ℕ) (o m : ℕ) (u : Ty) (ws : List Val) → has_layout u ≡ true → (length ws ≡ numbers_in u → ⊥) → None ≡ (if is_vector u then stored_parts b o (parts_in (layout m u)) ws else None)
others-not-stored b o m (vec n t) ws h differ =
    let v = vector-is n t h in
    others-stored b o 0 (bytes_of v.kind) n (scalar t v.kind) ws differ ∙ ap (λ (ps : Parts). stored_parts b o ps ws) (sym (v.parts m))
others-not-stored b o m u ws h differ = refl

-- more or fewer numbers
place-others-not-stored : (t : Ty) (r : Range) (p : Place) (b : List ℕ) (ws : List Val) → IsPlace t r p → (length ws ≡ p.at.count → ⊥) → None ≡ stored_vec b r ws
place-others-not-stored t r p b ws is differ =
    let u = type_in r.layout in
    others-not-stored b r.start p.elements u ws is.laid (λ e. differ (e ∙ sym is.at.count))
    ∙ ap (λ (l : Layout). if is_vector u then stored_parts b r.start (parts_in l) ws else None) (sym is.layout_is)

-- no vector, or another number of numbers
pub place-refused : (t : Ty) (r : Range) (p : Place) (b : List ℕ) (ls : List LiteralInstance) → IsPlace t r p → (is_from_2_to_4 p.at.count ≡ false) ⊎ (length ls ≡ p.at.count → ⊥) → None ≡ stored_vec b r (map literal_of ls)
place-refused t r p b ls is (inl none) = place-not-stored t r p b (map literal_of ls) is none
place-refused t r p b ls is (inr differ) = place-others-not-stored t r p b (map literal_of ls) is (λ e. differ (sym (length-map ls literal_of) ∙ e))
