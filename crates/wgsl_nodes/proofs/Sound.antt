-- A record that says what is so of a type that has a table agrees with its kind and with the records of its parts.
use Rattle.std.proofs.Common.{◌≡◌, ℕ, zero, suc, ◌+◌, ◌*◌, ◌%◌, ◌<◌, ◌≤◌, max, List, [], ◌∷◌, take, drop, length, slice_get, Option, Some, None, is_some, Bool, true, false, refl, sym, ap, ◌∙◌, subst, arith, add-one}
use Rattle.std.specs.Prelude.{◌&&◌, ◌||◌, nat_eq, nat_lt, ◌==◌, if◌then◌else◌}
use Rattle.std.specs.Int.{IsPowerOfTwo, next_multiple_of}
use Rattle.std.proofs.lemmas.Bool.{false≢true, eq-eqb, ne_eqb, lt-ltb, le-leb}
use Rattle.std.proofs.lemmas.Bool.Decides.{nat_tests}
use Rattle.std.proofs.lemmas.Option.{same_Some, slice_get_within}
use Rattle.wgsl_rules.specs.Types as types
use Rattle.wgsl_rules.specs.Types.{Ty, struct, array, vec, mat, atomic, Fields, no_fields, field}
use Rattle.wgsl_rules.specs.Size.{size_of, align_of, round_up, with_both, vec3_align, times, greatest_align, struct_align, extents, extent_in, offset_after, end_after, end_of_members}
use Rattle.wgsl_rules.specs.Layout.{amount, size, align, stride, known_stride, is_from_2_to_4, are_attributes_valid, Tail, tail_at, tail_of, last_tail}
use Rattle.wgsl_rules.proofs.lemmas.Known.{and-both, some-of, both-known, times-known, rounded-known, end-known, ends-known}
use Rattle.wgsl_rules.proofs.lemmas.Tests.{both, or-false}
use Rattle.wgsl_nodes.specs.HostTypes.{kind_of, is_scalar, has_nodes, has_fixed_nodes, have_fixed_nodes, is_runtime_array, end_in_runtime_array}
use Rattle.wgsl_nodes.specs.Nodes as nodes
use Rattle.wgsl_nodes.specs.Nodes.{Says, Stands, LeadsTo, MembersStand, Describes, sort_of, members_in, count_of, part_stride, start_of, bytes_before}
use Rattle.wgsl_nodes.specs.Numbers.{is_width, width_of}
use Rattle.wgsl_nodes.specs.Tables.{no_tail, is_number_sound, vector_align, is_vector_sound, is_matrix_sound, is_array_sound, is_part_sound, is_row_sound, is_member_sound, are_members_sound, is_structure_sound, is_sound}
use Rattle.wgsl_nodes.specs.declared.nodes.Node.{Node}
use Rattle.wgsl_nodes.proofs.Fixed.{scalar-is, vector-is, vector-size, matrix-is, array-is, fixed-sized, fixed-tail, first-is, member-size, by-attribute, last-runtime, runtime-stride}
use Rattle.wgsl_nodes.proofs.Arrays.{fixed-part}
use Rattle.wgsl_nodes.proofs.Members.{runtime-none}
use Rattle.wgsl_nodes.proofs.Powers.{power-positive, power-divides, multiple-through, rounded-multiple, IsAlignedMember, AreAligned, placed-by, align-next, greatest-later, greatest-known, struct-power, fields-aligned, ended-aligned}

-- ---- tests

has-no-tail : (r : Node) → r.tail_start ≡ 0 → r.tail_stride ≡ 0 → no_tail r ≡ true
has-no-tail r s t = both (r.tail_start == 0) (r.tail_stride == 0) (eq-eqb r.tail_start 0 s) (eq-eqb r.tail_stride 0 t)

-- ---- numbers

number-sound : (r : Node) (w : ℕ) → width_of r.kind ≡ w → is_width w ≡ true → r.size ≡ w → r.align ≡ w → r.count ≡ 0 → r.stride ≡ 0 → r.child ≡ 0 → r.tail_start ≡ 0 → r.tail_stride ≡ 0 → is_number_sound r ≡ true
number-sound r w is wide s a c d child t k =
    both _ _ (both _ _ (ap is_width is ∙ wide) (both _ _ (eq-eqb r.size (width_of r.kind) (s ∙ sym is)) (eq-eqb r.align (width_of r.kind) (a ∙ sym is))))
    (both _ _ (both _ _ (eq-eqb r.count 0 c) (both _ _ (eq-eqb r.stride 0 d) (eq-eqb r.child 0 child))) (has-no-tail r t k))

-- of a type of one number
of-number : (table : List Node) (number : ℕ) (r : Node) (t : Ty) (w : ℕ) → Says r t → r.child ≡ 0 → sort_of t ≡ 0 → width_of (kind_of t) ≡ w → is_width w ≡ true → bytes_before (tail_of t) (size t) ≡ w → align t ≡ w
    → count_of t ≡ 0 → part_stride t ≡ 0 → start_of (tail_of t) ≡ 0 → nodes.stride_of (tail_of t) ≡ 0 → is_sound table number r ≡ true
of-number table number r t w says child sort width wide bytes aligned count far start tail =
    let zero : r.sort ≡ 0 = says.sort ∙ sort in
    pick (nat_eq r.sort 0) _ (eq-eqb r.sort 0 zero)
    (number-sound r w (ap width_of says.kind ∙ width) wide (says.size ∙ bytes) (says.align ∙ aligned) (says.count ∙ count) (says.stride ∙ far) child (says.tail_start ∙ start) (says.tail_stride ∙ tail))
  where
    pick : (b c : Bool) → b ≡ true → is_number_sound r ≡ true → (if b then is_number_sound r else c) ≡ true
    pick b c e h = rw e h

-- ---- parts alike

sort-else : (b c number rest members row : Bool) → b ≡ false → c ≡ false → rest ≡ true → row ≡ true → (if b then number else (rest && (if c then members else row))) ≡ true
sort-else b c number rest members row p q h k = rw (p, q, h, k) refl

of-row : (table : List Node) (number s : ℕ) (r part : Node) → r.sort ≡ s → nat_eq s 0 ≡ false → nat_eq s 4 ≡ false → r.kind ≡ 0 → number < r.child → slice_get table r.child ≡ Some part → is_part_sound r part ≡ true
    → is_sound table number r ≡ true
of-row table number s r part sort some few kind behind there h =
    sort-else (nat_eq r.sort 0) (nat_eq r.sort 4) (is_number_sound r) _ (is_structure_sound table r) (is_row_sound r (slice_get table r.child)) (ap (λ (k : ℕ). nat_eq k 0) sort ∙ some) (ap (λ (k : ℕ). nat_eq k 4) sort ∙ few)
    (both (r.kind == 0) (nat_lt number r.child) (eq-eqb r.kind 0 kind) (lt-ltb number r.child behind)) (ap (is_row_sound r) there ∙ h)

-- ---- vectors

pub scalar-sort : (t : Ty) → is_scalar t ≡ true → (sort_of t ≡ 0) × (kind_of t < 256)
scalar-sort types.i32 h = (refl, omega arith)
scalar-sort types.u32 h = (refl, omega arith)
scalar-sort types.f32 h = (refl, omega arith)
scalar-sort types.f16 h = (refl, omega arith)
scalar-sort types.i64 h = (refl, omega arith)
scalar-sort types.u64 h = (refl, omega arith)
scalar-sort types.f64 h = (refl, omega arith)
scalar-sort t h = absurd (false≢true h)

vec3-is : (t : Ty) (s a : ℕ) → is_scalar t ≡ true → size_of t ≡ Some s → vec3_align t ≡ Some a → a ≡ 4 * s
vec3-is types.i32 s a h e f = let p = same_Some 4 s e in let q = same_Some 16 a f in omega arith
vec3-is types.u32 s a h e f = let p = same_Some 4 s e in let q = same_Some 16 a f in omega arith
vec3-is types.f32 s a h e f = let p = same_Some 4 s e in let q = same_Some 16 a f in omega arith
vec3-is types.f16 s a h e f = let p = same_Some 2 s e in let q = same_Some 8 a f in omega arith
vec3-is types.i64 s a h e f = let p = same_Some 8 s e in let q = same_Some 32 a f in omega arith
vec3-is types.u64 s a h e f = let p = same_Some 8 s e in let q = same_Some 32 a f in omega arith
vec3-is t s a h e f = absurd (cc)

vector-align : (n : ℕ) (t : Ty) (s a : ℕ) → is_scalar t ≡ true → size_of t ≡ Some s → align_of (vec n t) ≡ Some a → a ≡ vector_align n s
vector-align n t s a h e f = by (n == 3) f
  where
    by : (b : Bool) → (if b then vec3_align t else times n (size_of t)) ≡ Some a → a ≡ (if b then 4 * s else n * s)
    by true f = vec3-is t s a h e f
    by false f =
        let k = times-known n (size_of t) a f in
        let own = same_Some k.0 s (sym k.1 ∙ e) in
        k.2 ∙ ap (λ (m : ℕ). n * m) own

vector-sound : (table : List Node) (low number : ℕ) (r : Node) (n : ℕ) (t : Ty) → has_fixed_nodes (vec n t) ≡ true → Says r (vec n t) → LeadsTo table low r.child (vec n t) → number < low → is_sound table number r ≡ true
vector-sound table low number r n t fixed says leads lt =
    let behind = leads.0 in
    let st = leads.1 in
    let part = st.node in
    let v = vector-is n t fixed in
    let k = scalar-is t v.scalar in
    let a = some-of (align_of (vec n t)) v.aligned in
    let sorts = scalar-sort t v.scalar in
    let own_kind = st.says.kind in
    let own : part.size ≡ k.size = st.says.size ∙ ap (λ (o : Option Tail). bytes_before o (size t)) k.no_tail ∙ ap amount k.size_is in
    let whole : size (vec n t) ≡ n * k.size = ap amount (vector-size n t v.count v.scalar) in
    let far : r.stride ≡ part.size = says.stride ∙ ap amount k.size_is ∙ sym own in
    let bytes : r.size ≡ r.count * part.size = says.size ∙ whole ∙ ap (λ (m : ℕ). n * m) (sym own) ∙ ap (λ (m : ℕ). m * part.size) (sym says.count) in
    let aligned : r.align ≡ vector_align r.count part.size =
    says.align ∙ ap amount a.1 ∙ vector-align n t k.size a.0 v.scalar k.size_is a.1 ∙ ap (λ (m : ℕ). vector_align n m) (sym own) ∙ ap (λ (m : ℕ). vector_align m part.size) (sym says.count) in
    let few : part.kind < 256 = let below = sorts.1 in omega arith in
    let sound : is_vector_sound r part ≡ true =
    both _ _ (both _ _ (both _ _ (eq-eqb part.sort 0 (st.says.sort ∙ sorts.0)) (lt-ltb part.kind 256 few)) (ap is_from_2_to_4 says.count ∙ v.count))
    (both _ _ (both _ _ (eq-eqb r.stride part.size far) (eq-eqb r.size (r.count * part.size) bytes)) (both _ _ (eq-eqb r.align (vector_align r.count part.size) aligned) (has-no-tail r says.tail_start says.tail_stride))) in
    of-row table number 1 r part says.sort refl refl says.kind (omega arith) st.there (both (part.offset == 0) _ (eq-eqb part.offset 0 st.offset_is) (rw says.sort sound))

-- ---- matrices

matrix-sound : (table : List Node) (low number : ℕ) (r : Node) (c k : ℕ) (t : Ty) → has_fixed_nodes (mat c k t) ≡ true → Says r (mat c k t) → LeadsTo table low r.child (mat c k t) → number < low → is_sound table number r ≡ true
matrix-sound table low number r c k t fixed says leads lt =
    let behind = leads.0 in
    let st = leads.1 in
    let part = st.node in
    let m = matrix-is c k t fixed in
    let s = some-of (size_of (mat c k t)) m.sized in
    let a = times-known c (align_of (vec k t)) s.0 s.1 in
    let own : part.align ≡ a.0 = st.says.align ∙ ap amount a.1 in
    let far : r.stride ≡ part.align = says.stride ∙ sym st.says.align in
    let bytes : r.size ≡ r.count * part.align = says.size ∙ ap amount s.1 ∙ a.2 ∙ ap (λ (n : ℕ). c * n) (sym own) ∙ ap (λ (n : ℕ). n * part.align) (sym says.count) in
    let aligned : r.align ≡ part.align = says.align ∙ sym st.says.align in
    let sound : is_matrix_sound r part ≡ true =
    both _ _ (both _ _ (eq-eqb part.sort 1 st.says.sort) (ap is_from_2_to_4 says.count ∙ m.columns))
    (both _ _ (both _ _ (eq-eqb r.stride part.align far) (eq-eqb r.size (r.count * part.align) bytes)) (both _ _ (eq-eqb r.align part.align aligned) (has-no-tail r says.tail_start says.tail_stride))) in
    of-row table number 2 r part says.sort refl refl says.kind (omega arith) st.there (both (part.offset == 0) _ (eq-eqb part.offset 0 st.offset_is) (rw says.sort sound))

-- ---- arrays

record IsElement (t : Ty) (part : Node) (far : ℕ) : Type 0 where
  pub whole : part.tail_stride ≡ 0
  pub aligned : 0 < part.align
  pub align_is : align t ≡ part.align
  pub far_is : far ≡ next_multiple_of part.size part.align
  pub some : 0 < far

element-is : (t : Ty) (part : Node) (far : ℕ) → has_fixed_nodes t ≡ true → Says part t → known_stride t ≡ Some far → IsElement t part far
element-is t part far fixed says known =
    let host : has_nodes t ≡ true = rw fixed refl in
    let whole : part.tail_stride ≡ 0 = says.tail_stride ∙ ap nodes.stride_of (fixed-tail t fixed) in
    let p = fixed-part t part host says whole in
    let own : known_stride t ≡ round_up part.align part.size = rw (p.align_is, p.size_is) refl in
    let k = rounded-known part.align part.size far (sym own ∙ known) in
    let later = k.later in
    let some = p.some in
    record { whole = whole; aligned = k.positive; align_is = sym says.align; far_is = k.is; some = omega arith }

array-sound : (table : List Node) (low number : ℕ) (r : Node) (t : Ty) (n : Option ℕ) (far : ℕ) → has_fixed_nodes t ≡ true → known_stride t ≡ Some far → Says r (array t n) → LeadsTo table low r.child (array t n) → number < low
    → ((part : Node) → IsElement t part far → (if r.count == 0 then (r.size == 0 && nat_lt 0 r.stride) && (r.tail_start == 0 && r.tail_stride == r.stride) else r.size == r.count * r.stride && no_tail r) ≡ true)
    → is_sound table number r ≡ true
array-sound table low number r t n far fixed known says leads lt rest =
    let behind = leads.0 in
    let st = leads.1 in
    let part = st.node in
    let e = element-is t part far fixed st.says known in
    let aligned : r.align ≡ part.align = says.align ∙ e.align_is in
    let stride_is : r.stride ≡ next_multiple_of part.size part.align = says.stride ∙ ap amount known ∙ e.far_is in
    let sound : is_array_sound r part ≡ true =
    both _ _ (both _ _ (both _ _ (eq-eqb part.tail_stride 0 e.whole) (lt-ltb 0 part.align e.aligned)) (both _ _ (eq-eqb r.align part.align aligned) (eq-eqb r.stride (next_multiple_of part.size part.align) stride_is))) (rest part e) in
    of-row table number 3 r part says.sort refl refl says.kind (omega arith) st.there (both (part.offset == 0) _ (eq-eqb part.offset 0 st.offset_is) (rw says.sort sound))

sized-array-sound : (table : List Node) (low number : ℕ) (r : Node) (t : Ty) (n : ℕ) → has_fixed_nodes (array t (Some n)) ≡ true → Says r (array t (Some n)) → LeadsTo table low r.child (array t (Some n)) → number < low → is_sound table number r ≡ true
sized-array-sound table low number r t n fixed says leads lt =
    let a = array-is n t fixed in
    let s = some-of (size_of (array t (Some n))) a.sized in
    let k = times-known n (known_stride t) s.0 s.1 in
    let far : r.stride ≡ k.0 = says.stride ∙ ap amount k.1 in
    let bytes : r.size ≡ r.count * r.stride = says.size ∙ ap amount s.1 ∙ k.2 ∙ ap (λ (m : ℕ). n * m) (sym far) ∙ ap (λ (m : ℕ). m * r.stride) (sym says.count) in
    let count : 1 ≤ n = let f = a.count in grind (arith, nat_tests) in
    let counted : r.count ≡ n = says.count in
    let some = ne_eqb r.count 0 (λ e. omega arith) in
    array-sound table low number r t (Some n) k.0 a.element k.1 says leads lt (λ part e. rw some (both _ _ (eq-eqb r.size (r.count * r.stride) bytes) (has-no-tail r says.tail_start says.tail_stride)))

open-array-sound : (table : List Node) (low number : ℕ) (r : Node) (t : Ty) → is_runtime_array (array t None) ≡ true → Says r (array t None) → LeadsTo table low r.child (array t None) → number < low → is_sound table number r ≡ true
open-array-sound table low number r t runtime says leads lt =
    let h = and-both (has_fixed_nodes t) (is_some (known_stride t)) runtime in
    let k = some-of (known_stride t) h.1 in
    let far : r.stride ≡ k.0 = says.stride ∙ ap amount k.1 in
    let tail : r.tail_stride ≡ r.stride = says.tail_stride ∙ sym says.stride in
    let none = eq-eqb r.count 0 says.count in
    array-sound table low number r t None k.0 h.0 k.1 says leads lt
    (λ part e. let some = e.some in rw none (both _ _ (both _ _ (eq-eqb r.size 0 says.size) (lt-ltb 0 r.stride (omega arith))) (both _ _ (eq-eqb r.tail_start 0 says.tail_start) (eq-eqb r.tail_stride r.stride tail))))

-- ---- members

-- the records from one on begin with that
taken : {X : Type 0} (xs : List X) (k n : ℕ) (x : X) → slice_get xs k ≡ Some x → take (suc n) (drop k xs) ≡ x ∷ take n (drop (suc k) xs)
taken [] k n x h = absurd (cc)
taken {X = X} (y ∷ xs) zero n x h = ap (λ (z : X). z ∷ take n xs) (same_Some y x h)
taken (y ∷ xs) (suc k) n x h = taken xs k n x h

members-taken : (table : List Node) (k n : ℕ) (x : Node) → slice_get table k ≡ Some x → take (suc n) (drop k table) ≡ x ∷ take n (drop (k + 1) table)
members-taken table k n x h = rw add-one (taken table k n x h)

members-within : (table : List Node) (low number : ℕ) (from : Option ℕ) (n : List ℕ) (t : Ty) (s a : Option ℕ) (fs : Fields) → MembersStand table low number from (field n t s a fs) → number + suc (members_in fs) ≤ length table
members-within table low number from n t s a no_fields h = let lt = slice_get_within table number h.0.node h.0.there in omega arith
members-within table low number from n t s a (field m u z k fs) h =
    let rest = members-within table low (number + 1) (end_after from (extent_in t s a)) m u z k fs h.1 in
    omega arith

member-sound : (r m : Node) (t : Ty) (s a : Option ℕ) (fs : Fields) (from end far o : ℕ) → IsAlignedMember t a → AreAligned fs → Says m t → m.offset ≡ o → offset_after (Some from) (extent_in t s a) ≡ Some o → end ≤ from
    → greatest_align (Some far) (extents (field [] t s a fs)) ≡ Some r.align → IsPowerOfTwo r.align → is_member_sound r end m ≡ true
member-sound r m t s a fs from end far o aligned rest says at offset le greatest power =
    let p = placed-by t a aligned in
    let own : m.align ≡ aligned.own.align = says.align ∙ ap amount aligned.own.align_is in
    let k = rounded-known p.far from o (ap (λ (x : Option ℕ). with_both round_up x (Some from)) (sym p.far_is) ∙ offset) in
    let later = k.later in
    let most = greatest-later fs (max far p.far) r.align rest (sym (align-next t s a fs far p.far p.far_is) ∙ greatest) in
    let placed : o % p.far ≡ 0 = ap (λ (n : ℕ). n % p.far) k.is ∙ rounded-multiple from p.far k.positive in
    let offset_is : m.offset % m.align ≡ 0 = ap (λ (n : ℕ). n % m.align) at ∙ ap (λ (n : ℕ). o % n) own ∙ multiple-through aligned.own.align p.far o p.multiple placed in
    let align_is : r.align % m.align ≡ 0 = ap (λ (n : ℕ). r.align % n) own ∙ multiple-through aligned.own.align p.far r.align p.multiple (power-divides p.far r.align p.power power (omega arith)) in
    let some = power-positive aligned.own.align aligned.own.power in
    both _ _ (both _ _ (both _ _ (lt-ltb 0 m.align (omega arith)) (lt-ltb 0 r.align (power-positive r.align power))) (both _ _ (eq-eqb (m.offset % m.align) 0 offset_is) (eq-eqb (r.align % m.align) 0 align_is)))
    (le-leb end m.offset (omega arith))

-- a member of a fixed size, and where the next one stands at the least
record IsFixedMember (m : Node) (t : Ty) (s a : Option ℕ) (from next : ℕ) : Type 0 where
  pub offset : ℕ
  pub offset_is : offset_after (Some from) (extent_in t s a) ≡ Some offset
  pub at : m.offset ≡ offset
  pub whole : m.tail_stride ≡ 0
  pub behind : m.offset + m.size ≤ next

fixed-member : (m : Node) (t : Ty) (s a : Option ℕ) (from next : ℕ) (follows : Bool) → ((has_fixed_nodes t && are_attributes_valid t s a) && follows) ≡ true → Says m t → m.offset ≡ amount (offset_after (Some from) (extent_in t s a)) → end_after (Some from) (extent_in t s a) ≡ Some next
    → IsFixedMember m t s a from next
fixed-member m t s a from next follows h says at e =
    let f = first-is t s a follows h in
    let k = end-known from (extent_in t s a) next e in
    let own = fixed-sized t f.fixed in
    let no_tail_of = fixed-tail t f.fixed in
    let bytes : m.size ≡ own.size = says.size ∙ ap (λ (o : Option Tail). bytes_before o (size t)) no_tail_of ∙ ap amount own.size_is in
    let le = member-size s (size_of t) own.size k.1 own.size_is f.size_valid (extent_in t s a).size k.3 (by-attribute s (size_of t)) in
    let at_is : m.offset ≡ k.0 = at ∙ ap amount k.2 in
    let end = k.5 in
    record { offset = k.0; offset_is = k.2; at = at_is; whole = says.tail_stride ∙ ap nodes.stride_of no_tail_of; behind = omega arith }

-- the members behind one of a fixed size are those that are left
step : (r m : Node) (end n number : ℕ) (table : List Node) → slice_get table number ≡ Some m → is_member_sound r end m ≡ true → m.tail_stride ≡ 0 → are_members_sound r (m.offset + m.size) (take n (drop (number + 1) table)) ≡ true
    → are_members_sound r end (take (suc n) (drop number table)) ≡ true
step r m end n number table there sound whole rest =
    rw (members-taken table number n m there) (both _ _ sound (pick (m.tail_stride == 0) _ _ (eq-eqb m.tail_stride 0 whole) rest))
  where
    pick : (b c d : Bool) → b ≡ true → c ≡ true → (if b then c else d) ≡ true
    pick b c d e h = rw (e, h) refl

fixed-members-sound : (table : List Node) (r : Node) (low number from end far last : ℕ) (fs : Fields) → MembersStand table low number (Some from) fs → have_fixed_nodes fs ≡ true → AreAligned fs → end ≤ from
    → greatest_align (Some far) (extents fs) ≡ Some r.align → IsPowerOfTwo r.align → end_of_members (Some from) (extents fs) ≡ Some last → last ≤ r.size → r.size % r.align ≡ 0 → no_tail r ≡ true
    → are_members_sound r end (take (members_in fs) (drop number table)) ≡ true
fixed-members-sound table r low number from end far last no_fields stand fixed aligned le greatest power ends less_is multiple whole =
    let same_end = same_Some from last ends in
    both _ _ (both _ _ (lt-ltb 0 r.align (power-positive r.align power)) (both _ _ (le-leb end r.size (omega arith)) (eq-eqb (r.size % r.align) 0 multiple))) whole
fixed-members-sound table r low number from end far last (field n t s a fs) stand fixed aligned le greatest power ends less_is multiple whole =
    let st = stand.0 in
    let e = ends-known (end_after (Some from) (extent_in t s a)) (extents fs) last ends in
    let m = fixed-member st.node t s a from e.0 (have_fixed_nodes fs) fixed st.says st.offset_is e.1 in
    let p = placed-by t a aligned.0 in
    let f = first-is t s a (have_fixed_nodes fs) fixed in
    let sound = member-sound r st.node t s a fs from end far m.offset aligned.0 aligned.1 st.says m.at m.offset_is le greatest power in
    let next : MembersStand table low (number + 1) (Some e.0) fs = subst (λ (x : Option ℕ). MembersStand table low (number + 1) x fs) e.1 stand.1 in
    let rest = fixed-members-sound table r low (number + 1) e.0 (st.node.offset + st.node.size) (max far p.far) last fs next f.rest aligned.1 m.behind (sym (align-next t s a fs far p.far p.far_is) ∙ greatest) power
    (ap (λ (x : Option ℕ). end_of_members x (extents fs)) (sym e.1) ∙ ends) less_is multiple whole in
    step r st.node end (members_in fs) number table st.there sound m.whole rest

-- a record says this of a runtime-sized array that a structure ends in
record HasTail (r : Node) (whole : ℕ) (tail : Option Tail) : Type 0 where
  pub size : r.size ≡ bytes_before tail whole
  pub start : r.tail_start ≡ start_of tail
  pub stride : r.tail_stride ≡ nodes.stride_of tail

-- the last member, a runtime-sized array
last-sound : (r m : Node) (t : Ty) (o whole end : ℕ) → is_runtime_array t ≡ true → Says m t → m.offset ≡ o → HasTail r whole (tail_at o t) → is_member_sound r end m ≡ true → are_members_sound r end (m ∷ []) ≡ true
last-sound r m (array u None) o whole end runtime says at tail sound =
    let far = runtime-stride (array u None) 0 runtime in
    let some : m.tail_stride ≡ stride u = says.tail_stride in
    both _ _ sound (pick (m.tail_stride == 0) _ _ (ne_eqb m.tail_stride 0 (λ e. omega arith))
    (both _ _ (both _ _ (eq-eqb m.sort 3 says.sort) (eq-eqb r.size m.offset (tail.size ∙ sym at))) (both _ _ (eq-eqb r.tail_start m.offset (tail.start ∙ sym at)) (eq-eqb r.tail_stride m.tail_stride (tail.stride ∙ sym says.tail_stride)))))
  where
    pick : (b c d : Bool) → b ≡ false → d ≡ true → (if b then c else d) ≡ true
    pick b c d e h = rw (e, h) refl
last-sound r m t o whole end runtime says at tail sound = absurd (false≢true runtime)

pub known-from : (o : Option ℕ) (fs : Fields) → end_in_runtime_array o fs ≡ true → (e : ℕ) × (o ≡ Some e)
known-from None fs h = absurd (false≢true (sym (runtime-none fs) ∙ h))
known-from (Some e) fs h = (e, refl)

ended-members-sound : (table : List Node) (r : Node) (low number from end far whole : ℕ) (found : Option Tail) (fs : Fields) → MembersStand table low number (Some from) fs → end_in_runtime_array (Some from) fs ≡ true → AreAligned fs → end ≤ from
    → greatest_align (Some far) (extents fs) ≡ Some r.align → IsPowerOfTwo r.align → HasTail r whole (last_tail found (Some from) fs)
    → are_members_sound r end (take (members_in fs) (drop number table)) ≡ true
ended-members-sound table r low number from end far whole found no_fields stand ended aligned le greatest power tail = absurd (false≢true ended)
ended-members-sound table r low number from end far whole found (field n t s a no_fields) stand ended aligned le greatest power tail =
    let st = stand.0 in
    let l = last-runtime t s a (Some from) ended in
    let o = some-of (offset_after (Some from) (extent_in t s a)) l.placed in
    let at : st.node.offset ≡ o.0 = st.offset_is ∙ ap amount o.1 in
    let sound = member-sound r st.node t s a no_fields from end far o.0 aligned.0 tt st.says at o.1 le greatest power in
    let here : HasTail r whole (tail_at o.0 t) = subst (λ (x : ℕ). HasTail r whole (tail_at x t)) (ap amount o.1) tail in
    rw (members-taken table number 0 st.node st.there) (last-sound r st.node t o.0 whole end l.runtime st.says at here sound)
ended-members-sound table r low number from end far whole found (field n t s a (field m u z k gs)) stand ended aligned le greatest power tail =
    let fs = field m u z k gs in
    let st = stand.0 in
    let f = first-is t s a (end_in_runtime_array (end_after (Some from) (extent_in t s a)) fs) ended in
    let e = known-from (end_after (Some from) (extent_in t s a)) fs f.rest in
    let placed = fixed-member st.node t s a from e.0 (end_in_runtime_array (end_after (Some from) (extent_in t s a)) fs) ended st.says st.offset_is e.1 in
    let p = placed-by t a aligned.0 in
    let sound = member-sound r st.node t s a fs from end far placed.offset aligned.0 aligned.1 st.says placed.at placed.offset_is le greatest power in
    let next : MembersStand table low (number + 1) (Some e.0) fs = subst (λ (x : Option ℕ). MembersStand table low (number + 1) x fs) e.1 stand.1 in
    let found_here = tail_at (amount (offset_after (Some from) (extent_in t s a))) t in
    let behind : HasTail r whole (last_tail found_here (Some e.0) fs) = subst (λ (x : Option ℕ). HasTail r whole (last_tail found_here x fs)) e.1 tail in
    let rest = ended-members-sound table r low (number + 1) e.0 (st.node.offset + st.node.size) (max far p.far) whole found_here (field m u z k gs) next (ap (λ (x : Option ℕ). end_in_runtime_array x fs) (sym e.1) ∙ f.rest) aligned.1 placed.behind
    (sym (align-next t s a fs far p.far p.far_is) ∙ greatest) power behind in
    step r st.node end (members_in fs) number table st.there sound placed.whole rest

-- ---- structures

structure-sound : (table : List Node) (low number : ℕ) (r : Node) (name : List ℕ) (fs : Fields) → Says r (struct name fs) → LeadsTo table low r.child (struct name fs) → number < low → 0 < members_in fs → r.child + members_in fs ≤ length table
    → are_members_sound r 0 (take (members_in fs) (drop r.child table)) ≡ true → is_sound table number r ≡ true
structure-sound table low number r name fs says leads lt some within sound =
    let behind = leads.0 in
    let count : r.count ≡ members_in fs = says.count in
    let members : are_members_sound r 0 (take r.count (drop r.child table)) ≡ true = ap (λ (n : ℕ). are_members_sound r 0 (take n (drop r.child table))) count ∙ sound in
    pick (nat_eq r.sort 0) (nat_eq r.sort 4) _ _ _ _ (ap (λ (k : ℕ). nat_eq k 0) says.sort) (ap (λ (k : ℕ). nat_eq k 4) says.sort)
    (both (r.kind == 0) (nat_lt number r.child) (eq-eqb r.kind 0 says.kind) (lt-ltb number r.child (omega arith)))
    (both _ _ (both _ _ (both _ _ (lt-ltb 0 r.count (omega arith)) (eq-eqb r.stride 0 says.stride)) (le-leb (r.child + r.count) (length table) (omega arith))) members)
  where
    pick : (b c number rest members row : Bool) → b ≡ false → c ≡ true → rest ≡ true → members ≡ true → (if b then number else (rest && (if c then members else row))) ≡ true
    pick b c number rest members row p q h k = rw (p, q, h, k) refl

fixed-structure-sound : (table : List Node) (low number : ℕ) (r : Node) (name : List ℕ) (fs : Fields) → has_fixed_nodes (struct name fs) ≡ true → Says r (struct name fs) → LeadsTo table low r.child (struct name fs) → number < low
    → are_members_sound r 0 (take (members_in fs) (drop r.child table)) ≡ true
fixed-structure-sound table low number r name fs fixed says leads lt =
    let own = fixed-sized (struct name fs) fixed in
    let h = and-both (have_fixed_nodes fs) (is_some (size_of (struct name fs))) fixed in
    let aligned = fields-aligned fs h.0 in
    let b = both-known round_up (struct_align (extents fs)) (end_of_members (Some 0) (extents fs)) own.size own.size_is in
    let k = rounded-known b.0 b.1 own.size b.4 in
    let none = fixed-tail (struct name fs) fixed in
    let align_is : r.align ≡ own.align = says.align ∙ ap amount own.align_is in
    let align_too : r.align ≡ b.0 = says.align ∙ ap amount b.2 in
    let bytes : r.size ≡ own.size = says.size ∙ ap (λ (o : Option Tail). bytes_before o (size (struct name fs))) none ∙ ap amount own.size_is in
    let greatest : greatest_align (Some 0) (extents fs) ≡ Some r.align = own.align_is ∙ ap (λ (n : ℕ). Some n) (sym align_is) in
    let positive = own.aligned in
    let later = k.later in
    let multiple : r.size % r.align ≡ 0 = ap (λ (n : ℕ). n % r.align) (bytes ∙ k.is) ∙ ap (λ (n : ℕ). next_multiple_of b.1 b.0 % n) align_too ∙ rounded-multiple b.1 b.0 k.positive in
    fixed-members-sound table r (r.child + members_in fs) r.child 0 0 0 b.1 fs leads.1 h.0 aligned (omega arith) greatest (struct-power fs r.align aligned greatest (omega arith)) b.3 (omega arith) multiple
    (has-no-tail r (says.tail_start ∙ ap start_of none) (says.tail_stride ∙ ap nodes.stride_of none))

ended-structure-sound : (table : List Node) (low number : ℕ) (r : Node) (name : List ℕ) (fs : Fields) → end_in_runtime_array (Some 0) fs ≡ true → Says r (struct name fs) → LeadsTo table low r.child (struct name fs) → number < low
    → are_members_sound r 0 (take (members_in fs) (drop r.child table)) ≡ true
ended-structure-sound table low number r name fs ended says leads lt =
    let aligned = ended-aligned fs (Some 0) ended in
    let g = greatest-known fs 0 aligned in
    let align_is : r.align ≡ g.0 = says.align ∙ ap amount g.1 in
    let greatest : greatest_align (Some 0) (extents fs) ≡ Some r.align = g.1 ∙ ap (λ (n : ℕ). Some n) (sym align_is) in
    let positive = some-align fs g.0 (ended-some fs (Some 0) ended) aligned g.1 in
    ended-members-sound table r (r.child + members_in fs) r.child 0 0 0 (size (struct name fs)) None fs leads.1 ended aligned (omega arith) greatest (struct-power fs r.align aligned greatest (omega arith))
    (record { size = says.size; start = says.tail_start; stride = says.tail_stride })
  where
    ended-some : (fs : Fields) (from : Option ℕ) → end_in_runtime_array from fs ≡ true → 0 < members_in fs
    ended-some no_fields from h = absurd (false≢true h)
    ended-some (field n t s a fs) from h = omega arith

    some-align : (fs : Fields) (g : ℕ) → 0 < members_in fs → AreAligned fs → greatest_align (Some 0) (extents fs) ≡ Some g → 0 < g
    some-align no_fields g h all e = absurd (omega arith)
    some-align (field n t s a fs) g h all e =
        let p = placed-by t a all.0 in
        let later = greatest-later fs (max 0 p.far) g all.1 (sym (align-next t s a fs 0 p.far p.far_is) ∙ e) in
        let some = power-positive p.far p.power in
        omega arith

-- ---- any type

no-members : (name : List ℕ) → has_nodes (struct name no_fields) ≡ false
no-members name = refl

pub described-sound : (table : List Node) (low number : ℕ) (r : Node) (t : Ty) → has_nodes t ≡ true → Describes table low r t → number < low → is_sound table number r ≡ true
described-sound table low number r types.i32 host d lt = of-number table number r types.i32 4 d.says d.leads refl refl refl refl refl refl refl refl refl
described-sound table low number r types.u32 host d lt = of-number table number r types.u32 4 d.says d.leads refl refl refl refl refl refl refl refl refl
described-sound table low number r types.f32 host d lt = of-number table number r types.f32 4 d.says d.leads refl refl refl refl refl refl refl refl refl
described-sound table low number r types.f16 host d lt = of-number table number r types.f16 2 d.says d.leads refl refl refl refl refl refl refl refl refl
described-sound table low number r types.i64 host d lt = of-number table number r types.i64 8 d.says d.leads refl refl refl refl refl refl refl refl refl
described-sound table low number r types.u64 host d lt = of-number table number r types.u64 8 d.says d.leads refl refl refl refl refl refl refl refl refl
described-sound table low number r types.f64 host d lt = of-number table number r types.f64 8 d.says d.leads refl refl refl refl refl refl refl refl refl
described-sound table low number r (atomic types.i32) host d lt = of-number table number r (atomic types.i32) 4 d.says d.leads refl refl refl refl refl refl refl refl refl
described-sound table low number r (atomic types.u32) host d lt = of-number table number r (atomic types.u32) 4 d.says d.leads refl refl refl refl refl refl refl refl refl
described-sound table low number r (vec n t) host d lt = vector-sound table low number r n t (or-false (has_fixed_nodes (vec n t)) host) d.says d.leads lt
described-sound table low number r (mat c k t) host d lt = matrix-sound table low number r c k t (or-false (has_fixed_nodes (mat c k t)) host) d.says d.leads lt
described-sound table low number r (array t (Some n)) host d lt = sized-array-sound table low number r t n (or-false (has_fixed_nodes (array t (Some n))) host) d.says d.leads lt
described-sound table low number r (array t None) host d lt = open-array-sound table low number r t host d.says d.leads lt
described-sound table low number r (struct name no_fields) host d lt = absurd (false≢true (sym (no-members name) ∙ host))
described-sound table low number r (struct name (field n t s a fs)) host d lt =
    let all = field n t s a fs in
    let within = members-within table (r.child + members_in all) r.child (Some 0) n t s a fs d.leads.1 in
    structure-sound table low number r name all d.says d.leads lt (omega arith) (omega arith) (by (has_fixed_nodes (struct name all)) refl host)
  where
    by : (b : Bool) → has_fixed_nodes (struct name (field n t s a fs)) ≡ b → (b || end_in_runtime_array (Some 0) (field n t s a fs)) ≡ true
        → are_members_sound r 0 (take (suc (members_in fs)) (drop r.child table)) ≡ true
    by true e h = fixed-structure-sound table low number r name (field n t s a fs) e d.says d.leads lt
    by false e h = ended-structure-sound table low number r name (field n t s a fs) h d.says d.leads lt
described-sound table low number r t host d lt = absurd (false≢true host)
