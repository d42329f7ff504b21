-- Numbers of vectors at places are those of parts.
use Rattle.std.proofs.Common.{◌≡◌, ℕ, zero, suc, ◌+◌, ◌*◌, ◌≤◌, ℤ, List, [], ◌∷◌, ◌++◌, length, map, take, drop, Option, Some, None, Ok, option_and_then, Bool, true, false, refl, sym, ap, ◌∙◌, arith, length-append, append_assoc}
use Rattle.std.specs.Prelude.{if◌then◌else◌}
use Rattle.std.proofs.lemmas.Bool.{false≢true, le-leb, leb-true}
use Rattle.std.proofs.lemmas.List.{drop-drop, length-take-le, take-append-drop}
use Rattle.std.proofs.lemmas.List.FromFn.{length-map-range_with_len}
use Rattle.std.proofs.Math.Seq.{drop-append-add, take-append_seam}
use Rattle.wgsl_rules.specs.InCommon.{prepended}
use Rattle.wgsl_rules.specs.Kinds.{Kind, bytes_of}
use Rattle.wgsl_rules.specs.Types.{Ty, struct, array, vec, mat, atomic}
use Rattle.wgsl_rules.specs.Values.{Val, Vals, number, vector, AreLiterals}
use Rattle.wgsl_rules.specs.Layout.{has_layout, Layout, scalar, composite, Parts, layout, length_in, type_in, repeated}
use Rattle.wgsl_values.specs.Iterators.{listed}
use Rattle.wgsl_values.specs.View.{vals_of}
use Rattle.wgsl_layout.specs.Buffers.{byte_of, decoded, decoded_parts, made_of_number, made_of_parts, read_number}
use Rattle.wgsl_layout.specs.Layouts.{written_in}
use Rattle.wgsl_layout.specs.Ranges.{overwritten, parts_in}
use Rattle.wgsl_layout.specs.Walk.{number_bytes}
use Rattle.wgsl_layout.proofs.lemmas.Tidy.{counts}
use Rattle.wgsl_places.specs.Laws.{components_in, VectorLoadsAreReads, VectorStoresAreWrites}
use Rattle.wgsl_places.specs.Places.{stored}
use Rattle.wgsl_places.specs.Vectors.{is_vector, loaded_parts, stored_parts}
use Rattle.wgsl_places.proofs.ComponentTypes.{IsComponent, IsHeld, Writes, range_at, row_bytes}
use Rattle.wgsl_places.proofs.Vectors.{vector-is}

-- ---- what is loaded

parts-read : (b : List ℕ) (o from n : ℕ) (t : Ty) (k : Kind) → IsComponent t k → o + from + n * bytes_of k ≤ length b
    → loaded_parts b o (repeated (scalar t k) (bytes_of k) from n) ≡ Some (listed (decoded_parts b o (repeated (scalar t k) (bytes_of k) from n)))
parts-read b o from zero t k is le = refl
parts-read b o from (suc n) t k is le =
    let here : o + from + bytes_of k ≤ length b = omega arith in
    let z = read_number b (o + from) k in
    ap (λ (c : Bool). prepended (if c then Some (number k z) else None) (loaded_parts b o (repeated (scalar t k) (bytes_of k) (from + bytes_of k) n))) (le-leb (o + from + bytes_of k) (length b) here)
    ∙ ap (prepended (Some (number k z))) (parts-read b o (from + bytes_of k) n t k is (omega arith))
    ∙ ap (λ (v : Val). Some (v ∷ listed (decoded_parts b o (repeated (scalar t k) (bytes_of k) (from + bytes_of k) n)))) (sym (is.made z))

vector-read : (b : List ℕ) (o m n : ℕ) (t : Ty) → has_layout (vec n t) ≡ true → o + length_in (layout m (vec n t)) ≤ length b
    → loaded_parts b o (parts_in (layout m (vec n t))) ≡ components_in (decoded b o (layout m (vec n t)))
vector-read b o m n t h le =
    let v = vector-is n t h in
    let few = counts n v.count in
    let wide = v.component.wide n few.1 in
    ap (loaded_parts b o) (v.parts m)
    ∙ parts-read b o 0 n t v.kind v.component (omega (arith, wide))
    ∙ ap (λ (ps : Parts). Some (listed (decoded_parts b o ps))) (sym (v.parts m))

no-components : (t : Ty) (vs : Vals) → is_vector t ≡ false → None ≡ components_in (made_of_parts t vs)
no-components (struct name fs) vs h = refl
no-components (array t None) vs h = refl
no-components (array t (Some n)) vs h = refl
no-components (vec n t) vs h = absurd (false≢true (sym h))
no-components (mat c r t) vs h = refl
no-components t vs h = refl

no-number : (t : Ty) (k : Kind) (z : ℤ) → None ≡ components_in (made_of_number t k z)
no-number (atomic t) k z = refl
no-number t k z = refl

other-read : (b : List ℕ) (o : ℕ) (l : Layout) → is_vector (type_in l) ≡ false → None ≡ components_in (decoded b o l)
other-read b o (scalar t k) h = no-number t k (read_number b o k)
other-read b o (composite t len ps) h = no-components t (decoded_parts b o ps) h

abbrev loaded_there : List ℕ → ℕ → Bool → Layout → Option (List Val)
loaded_there b o c l = if c then loaded_parts b o (parts_in l) else None

type-read : (b : List ℕ) (o m : ℕ) (u : Ty) → has_layout u ≡ true → o + length_in (layout m u) ≤ length b → is_vector (type_in (layout m u)) ≡ is_vector u → loaded_there b o (is_vector u) (layout m u) ≡ components_in (decoded b o (layout m u))
type-read b o m (vec n t) h le same = vector-read b o m n t h le
type-read b o m u h le same = other-read b o (layout m u) same

pub vector-loads-are-reads : VectorLoadsAreReads
vector-loads-are-reads b r m h is inside =
    let u = type_in r.layout in
    let le = leb-true (r.start + length_in r.layout) (length b) inside in
    let long : length_in r.layout ≡ length_in (layout m u) = ap length_in is in
    ap (loaded_there b r.start (is_vector u)) is
    ∙ type-read b r.start m u h (omega (arith, long)) (ap (λ (l : Layout). is_vector (type_in l)) (sym is))
    ∙ ap (λ (l : Layout). components_in (decoded b r.start l)) (sym is)

-- ---- what is stored

-- one behind the other is both at once
over-both : (b x y : List ℕ) (o : ℕ) → o + length x ≤ length b → overwritten (overwritten b o x) (o + length x) y ≡ overwritten b o (x ++ y)
over-both b x y o le =
    ap (λ (c : List ℕ). take (o + length x) c ++ (y ++ drop (o + length x + length y) c)) split
    ∙ ap (λ (c : List ℕ). c ++ (y ++ drop (o + length x + length y) (front ++ behind))) taken
    ∙ ap (λ (c : List ℕ). front ++ (y ++ c)) dropped
    ∙ append_assoc (take o b) x (y ++ drop (o + length x + length y) b)
    ∙ ap (λ (c : List ℕ). take o b ++ c) (sym (append_assoc x y (drop (o + length x + length y) b)))
    ∙ ap (λ (k : ℕ). take o b ++ ((x ++ y) ++ drop k b)) last
  where
    front : List ℕ
    front = take o b ++ x

    behind : List ℕ
    behind = drop (o + length x) b

    last : o + length x + length y ≡ o + length (x ++ y)
    last = omega (arith, length-append x y)

    many : length front ≡ o + length x
    many = let t = length-take-le o b (omega arith) in let a = length-append (take o b) x in omega (arith, t, a)

    split : overwritten b o x ≡ front ++ behind
    split = sym (append_assoc (take o b) x behind)

    taken : take (o + length x) (front ++ behind) ≡ front
    taken = ap (λ (k : ℕ). take k (front ++ behind)) (sym many) ∙ take-append_seam front behind

    dropped : drop (o + length x + length y) (front ++ behind) ≡ drop (o + length x + length y) b
    dropped = ap (λ (k : ℕ). drop (k + length y) (front ++ behind)) (sym many) ∙ drop-append-add front behind (length y) ∙ drop-drop (length y) (o + length x) b

nothing-over : (b : List ℕ) (o : ℕ) → b ≡ overwritten b o []
nothing-over b o = let same : o ≡ o + 0 = omega arith in sym (take-append-drop o b) ∙ ap (λ (k : ℕ). take o b ++ drop k b) same

-- numbers that are stored side by side
record AreStored (b c : List ℕ) (o : ℕ) (k : Kind) (n : ℕ) (ws : List Val) : Type 0 where
  numbers : List ℤ
  are : ws ≡ map (number k) numbers
  many : length numbers ≡ n
  bytes : c ≡ overwritten b o (row_bytes k numbers)

one-more : (b d c : List ℕ) (o next : ℕ) (k : Kind) (n : ℕ) (w : Val) (ws : List Val) → next ≡ o + bytes_of k → IsHeld b d o k w → AreStored d c next k n ws → AreStored b c o k (suc n) (w ∷ ws)
one-more b d c o next k n w ws at one rest = record {
  numbers = one.value ∷ rest.numbers;
  are = ap (λ (v : Val). v ∷ ws) one.is ∙ ap (λ (vs : List Val). number k one.value ∷ vs) rest.are;
  many = ap (λ (m : ℕ). suc m) rest.many;
  bytes = rest.bytes
      ∙ ap (λ (x : List ℕ). overwritten x next (row_bytes k rest.numbers)) one.bytes
      ∙ ap (λ (j : ℕ). overwritten (overwritten b o (number_bytes k one.value)) j (row_bytes k rest.numbers)) (omega (arith, at, wide))
      ∙ over-both b (number_bytes k one.value) (row_bytes k rest.numbers) o (let inside = one.inside in omega (arith, wide));
}
  where
    wide : length (number_bytes k one.value) ≡ bytes_of k
    wide = length-map-range_with_len (byte_of one.value) 0 (bytes_of k)

parts-stored : (b c : List ℕ) (o from n : ℕ) (t : Ty) (k : Kind) (ws : List Val) → IsComponent t k → AreLiterals (vals_of ws) → stored_parts b o (repeated (scalar t k) (bytes_of k) from n) ws ≡ Some c
    → AreStored b c (o + from) k n ws
parts-stored b c o from zero t k [] is lit e = record { numbers = []; are = refl; many = refl; bytes = (let same : b ≡ c = cc (e) in sym same ∙ nothing-over b (o + from)) }
parts-stored b c o from zero t k (w ∷ ws) is lit e = absurd (cc (e))
parts-stored b c o from (suc n) t k [] is lit e = absurd (cc (e))
parts-stored b c o from (suc n) t k (w ∷ ws) is lit e =
    by (stored b (range_at (o + from) (scalar t k)) w) refl (λ d rest. parts-stored d c o (from + bytes_of k) n t k ws is lit.1 rest) e
  where
    by : (x : Option (List ℕ)) → stored b (range_at (o + from) (scalar t k)) w ≡ x
        → ((d : List ℕ) → stored_parts d o (repeated (scalar t k) (bytes_of k) (from + bytes_of k) n) ws ≡ Some c → AreStored d c (o + (from + bytes_of k)) k n ws)
        → option_and_then (λ (d : List ℕ). stored_parts d o (repeated (scalar t k) (bytes_of k) (from + bytes_of k) n) ws) x ≡ Some c → AreStored b c (o + from) k (suc n) (w ∷ ws)
    by None is_one rest e = absurd (cc (e))
    by (Some d) is_one rest e = one-more b d c (o + from) (o + (from + bytes_of k)) k n w ws (omega arith) (is.held b d (o + from) w lit.0 is_one) (rest d e)

writes : (b : List ℕ) (o m : ℕ) (t : Ty) (k : Kind) (zs : List ℤ) → IsComponent t k → 2 ≤ length zs → length zs ≤ 4 → Writes b o m t k zs
writes b o m t k [] is ge le = absurd (omega arith)
writes b o m t k (x ∷ []) is ge le = absurd (omega arith)
writes b o m t k (x ∷ y ∷ []) is ge le = is.two b o m x y
writes b o m t k (x ∷ y ∷ z ∷ []) is ge le = is.three b o m x y z
writes b o m t k (x ∷ y ∷ z ∷ w ∷ []) is ge le = is.four b o m x y z w
writes b o m t k (x ∷ y ∷ z ∷ w ∷ v ∷ zs) is ge le = absurd (omega arith)

vector-written : (b c : List ℕ) (o m n : ℕ) (t : Ty) (ws : List Val) → has_layout (vec n t) ≡ true → AreLiterals (vals_of ws) → stored_parts b o (parts_in (layout m (vec n t))) ws ≡ Some c
    → written_in b (vector (vals_of ws)) (range_at o (layout m (vec n t))) ≡ Ok c
vector-written b c o m n t ws h lit e =
    let v = vector-is n t h in
    let few = counts n v.count in
    let start : o + 0 ≡ o = omega arith in
    let s = parts-stored b c o 0 n t v.kind ws v.component lit (ap (λ (ps : Parts). stored_parts b o ps ws) (sym (v.parts m)) ∙ e) in
    let many : length s.numbers ≡ n = s.many in
    ap (λ (vs : List Val). written_in b (vector (vals_of vs)) (range_at o (layout m (vec n t)))) s.are
    ∙ ap (λ (j : ℕ). written_in b (vector (vals_of (map (number v.kind) s.numbers))) (range_at o (layout m (vec j t)))) (sym many)
    ∙ writes b o m t v.kind s.numbers v.component (omega (arith, few.0)) (omega (arith, few.1))
    ∙ ap (λ (x : List ℕ). Ok x) (ap (λ (j : ℕ). overwritten b j (row_bytes v.kind s.numbers)) (sym start) ∙ sym s.bytes)

abbrev stored_there : List ℕ → ℕ → Bool → Layout → List Val → Option (List ℕ)
stored_there b o c l ws = if c then stored_parts b o (parts_in l) ws else None

type-written : (b c : List ℕ) (o m : ℕ) (u : Ty) (ws : List Val) → has_layout u ≡ true → AreLiterals (vals_of ws) → stored_there b o (is_vector u) (layout m u) ws ≡ Some c
    → written_in b (vector (vals_of ws)) (range_at o (layout m u)) ≡ Ok c
type-written b c o m (vec n t) ws h lit e = vector-written b c o m n t ws h lit e
type-written b c o m u ws h lit e = absurd (cc (e))

pub vector-stores-are-writes : VectorStoresAreWrites
vector-stores-are-writes b after r m ws h is lit e =
    let u = type_in r.layout in
    ap (λ (l : Layout). written_in b (vector (vals_of ws)) (range_at r.start l)) is
    ∙ type-written b after r.start m u ws h lit (ap (λ (l : Layout). stored_there b r.start (is_vector u) l ws) (sym is) ∙ e)
