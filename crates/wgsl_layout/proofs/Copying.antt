-- One step of the walk that copies the numbers of a value from bytes to bytes.
use Rattle.std.proofs.Common.{◌≡◌, ℕ, suc, ◌+◌, ◌-◌, ◌*◌, ◌<◌, ◌≤◌, List, length, get_or, drop, refl, sym, ap, ◌∙◌, arith}
use Rattle.wgsl_rules.specs.Types.{Ty, vec, mat, Fields}
use Rattle.wgsl_rules.specs.Values.{Val}
use Rattle.wgsl_rules.specs.View.{type_view, struct_view as struct_type_view, member_view, members_view}
use Rattle.wgsl_rules.specs.Layout.{size, scalar_kind, leaf, Layout, layout, repeated}
use Rattle.wgsl_rules.specs.declared.ty.StructMemberType.{StructMemberType}
use Rattle.wgsl_rules.specs.declared.ty.StructType.{StructType, out-StructType}
use Rattle.wgsl_rules.proofs.lemmas.Members.{first, fields-from}
use Rattle.wgsl_layout.specs.Buffers.{decoded, decoded_parts}
use Rattle.wgsl_layout.specs.Plan.{Plan, scalar, components, row, members, Places, plan_view, places_view}
use Rattle.wgsl_layout.specs.Reading.{IsThere, members_at}
use Rattle.wgsl_layout.specs.Walk.{put, put_row, put_members}
use Rattle.wgsl_layout.specs.declared.plan.Place.{«Place» as CodePlace}
use Rattle.wgsl_layout.proofs.Making.{type-is}
use Rattle.wgsl_layout.proofs.Plans.{places-from}
use Rattle.wgsl_layout.proofs.Reading.{scalar-leaf, vector-there, matrix-there, struct-made}

-- ---- rows

-- what a row of n parts alike, the first at `at` in b, makes of bytes where its first i parts stand from `base` on
abbrev pub rest_of_row : List ℕ → ℕ → ℕ → ℕ → Layout → Plan → ℕ → ℕ → List ℕ → List ℕ
rest_of_row b at far n l p i base out = put_row (decoded_parts b at (repeated l far (i * far) (n - i))) far p (base + i * far) out

abbrev pub whole_row : List ℕ → ℕ → ℕ → ℕ → Layout → Plan → ℕ → List ℕ → List ℕ
whole_row b at far n l p base out = put_row (decoded_parts b at (repeated l far 0 n)) far p base out

pub row-start : (b : List ℕ) (at far n : ℕ) (l : Layout) (p : Plan) (base : ℕ) (out : List ℕ) → rest_of_row b at far n l p 0 base out ≡ whole_row b at far n l p base out
row-start b at far n l p base out =
    let start : 0 * far ≡ 0 = omega arith in
    let all : n - 0 ≡ n = omega arith in
    let here : base + 0 * far ≡ base = omega arith in
    ap (λ (x : ℕ). put_row (decoded_parts b at (repeated l far x (n - 0))) far p (base + 0 * far) out) start
    ∙ ap (λ (x : ℕ). put_row (decoded_parts b at (repeated l far 0 x)) far p (base + 0 * far) out) all
    ∙ ap (λ (x : ℕ). put_row (decoded_parts b at (repeated l far 0 n)) far p x out) here

-- one more of a row
pub row-next : (b : List ℕ) (at far n : ℕ) (l : Layout) (p : Plan) (i base : ℕ) (out new all : List ℕ) → i < n → new ≡ put (decoded b (at + i * far) l) p (base + i * far) out
    → rest_of_row b at far n l p i base out ≡ all → rest_of_row b at far n l p (i + 1) base new ≡ all
row-next b at far n l p i base out new all lt is so_far =
    let more : n - i ≡ suc (n - (i + 1)) = omega arith in
    let next : i * far + far ≡ (i + 1) * far = omega arith in
    let along : base + i * far + far ≡ base + (i + 1) * far = omega arith in
    let now = put (decoded b (at + i * far) l) p (base + i * far) out in
    ap (λ (c : List ℕ). rest_of_row b at far n l p (i + 1) base c) is
    ∙ ap (λ (x : ℕ). put_row (decoded_parts b at (repeated l far ((i + 1) * far) (n - (i + 1)))) far p x now) (sym along)
    ∙ ap (λ (x : ℕ). put_row (decoded_parts b at (repeated l far x (n - (i + 1)))) far p (base + i * far + far) now) (sym next)
    ∙ ap (λ (x : ℕ). put_row (decoded_parts b at (repeated l far (i * far) x)) far p (base + i * far) out) (sym more)
    ∙ so_far

-- past the last
row-past : (b : List ℕ) (at far n : ℕ) (l : Layout) (p : Plan) (i base : ℕ) (out all : List ℕ) → n ≤ i → rest_of_row b at far n l p i base out ≡ all → out ≡ all
row-past b at far n l p i base out all le so_far =
    let none : n - i ≡ 0 = omega arith in
    ap (λ (x : ℕ). put_row (decoded_parts b at (repeated l far (i * far) x)) far p (base + i * far) out) (sym none) ∙ so_far

pub vector-copied : (k far : ℕ) (t : Ty) (b : List ℕ) (at len i m base : ℕ) (old out : List ℕ) → IsThere 0 (vec k t) (components far) at len → m ≡ k → m ≤ i
    → rest_of_row b at far m (leaf t (scalar_kind t)) scalar i base out ≡ whole_row b at far m (leaf t (scalar_kind t)) scalar base old → out ≡ put (decoded b at (layout 0 (vec k t))) (components far) base old
vector-copied k far t b at len i m base old out there count_is le so_far =
    let r = vector-there 0 k far t at len there in
    let l = leaf t (scalar_kind t) in
    row-past b at far m l scalar i base out (whole_row b at far m l scalar base old) le so_far
    ∙ ap (λ (x : ℕ). put_row (decoded_parts b at (repeated l far 0 x)) far scalar base old) count_is
    ∙ ap (λ (x : ℕ). put_row (decoded_parts b at (repeated l x 0 k)) far scalar base old) r.far_is
    ∙ ap (λ (x : Layout). put_row (decoded_parts b at (repeated x (size t) 0 k)) far scalar base old) (sym (scalar-leaf t 0 r.scalar))

pub matrix-copied : (c r far : ℕ) (t : Ty) (p : Plan) (b : List ℕ) (at len i m base : ℕ) (old out : List ℕ) → IsThere 0 (mat c r t) (row far p) at len → m ≡ c → m ≤ i
    → rest_of_row b at far m (layout 0 (vec r t)) p i base out ≡ whole_row b at far m (layout 0 (vec r t)) p base old → out ≡ put (decoded b at (layout 0 (mat c r t))) (row far p) base old
matrix-copied c r far t p b at len i m base old out there count_is le so_far =
    let far_is = (matrix-there 0 c r far t p at len there).0 in
    let l = layout 0 (vec r t) in
    row-past b at far m l p i base out (whole_row b at far m l p base old) le so_far
    ∙ ap (λ (x : ℕ). put_row (decoded_parts b at (repeated l far 0 x)) far p base old) count_is
    ∙ ap (λ (x : ℕ). put_row (decoded_parts b at (repeated l x 0 c)) far p base old) far_is

-- ---- members, one after the other

-- what the members at their places, of a structure at `at` in b, make of bytes where the structure begins at `base`
abbrev pub put_at_places : List ℕ → ℕ → ℕ → Fields → Places → ℕ → List ℕ → List ℕ
put_at_places b at n fs ps base out = put_members (members_at b at n fs ps) ps base out

-- one more member
pub member-next : (ms : List StructMemberType) (ps : List CodePlace) (i n : ℕ) (m : StructMemberType) (p : CodePlace) (b : List ℕ) (at base : ℕ) (out new all : List ℕ) → i < length ms → m ≡ get_or ms i m → i < length ps → p ≡ get_or ps i p
    → new ≡ put (decoded b (at + p.offset) (layout n (type_view m.ty))) (plan_view p.plan) (base + p.offset) out → put_at_places b at n (members_view (drop i ms)) (places_view (drop i ps)) base out ≡ all
    → put_at_places b at n (members_view (drop (i + 1) ms)) (places_view (drop (i + 1) ps)) base new ≡ all
member-next ms ps i n m p b at base out new all h e k d is so_far =
    let others = members_view (drop (i + 1) ms) in
    ap (put_at_places b at n others (places_view (drop (i + 1) ps)) base) (is ∙ ap (λ (u : Ty). put (decoded b (at + p.offset) (layout n u)) (plan_view p.plan) (base + p.offset) out) (type-is m))
    ∙ ap (λ (y : Places). put_at_places b at n (first (member_view m) others) y base out) (sym (places-from ps i p k d))
    ∙ ap (λ (y : Fields). put_at_places b at n y (places_view (drop i ps)) base out) (sym (fields-from ms i m h e))
    ∙ so_far

-- a structure is copied as its members
pub struct-copied : (s : StructType) (ms : List StructMemberType) (n : ℕ) (ps : Places) (b : List ℕ) (at len base : ℕ) (old : List ℕ) {long : ℕ} → IsThere n (struct_type_view s) (members long ps) at len → ms ≡ (out-StructType s).members.items
    → put_at_places b at n (members_view ms) ps base old ≡ put (decoded b at (layout n (struct_type_view s))) (members long ps) base old
struct-copied s ms n ps b at len base old {long} there e =
    ap (λ (v : Val). put v (members long ps) base old) (struct-made s (struct_type_view s) ms n ps at len b (members_at b at n (members_view ms) ps) there e refl refl).is
