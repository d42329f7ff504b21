-- The parts of what stands in a table of a type.
use Rattle.std.proofs.Common.{◌≡◌, ℕ, zero, suc, ◌+◌, ◌*◌, ◌/◌, ◌-◌, ◌^◌, ◌<◌, ◌≤◌, List, length, slice_get, Option, Some, None, Bool, true, false, refl, sym, ap, ◌∙◌, subst, arith}
use Rattle.std.specs.Prelude.{◌&&◌, nat_lt, if◌then◌else◌, MatchOption, option_and_then, option_map, IsSomeAnd}
use Rattle.std.proofs.lemmas.Bool.Decides.{nat_tests}
use Rattle.std.proofs.lemmas.Bool.{lt-ltb, ltb-false}
use Rattle.std.proofs.lemmas.Option.{slice_get_within}
use Rattle.wgsl_rules.specs.Types.{Ty, struct, array, vec, mat, Fields, no_fields, field}
use Rattle.wgsl_rules.specs.Size.{extent_in, offset_after, end_after}
use Rattle.wgsl_rules.specs.Layout.{amount, size, align, stride}
use Rattle.wgsl_nodes.specs.HostTypes.{kind_of}
use Rattle.wgsl_nodes.specs.Nodes.{Says, Stands, LeadsTo, MembersStand, Describes, IsNodeOf, members_in}
use Rattle.wgsl_nodes.specs.Places.{Part, part_in, member_in, part_if, number_kind, numbers_in, IsPlaceOf, IsPartAt, kind_at, count_at, placed, place_in, member_place, part_of_node, part_of, part_where, part_with, part_of_with, has_part_with}
use Rattle.wgsl_nodes.specs.declared.nodes.Node.{Node}
use Rattle.wgsl_nodes.specs.declared.places.Place.{Place}
use Rattle.wgsl_nodes.proofs.Growing.{leads-lower}

-- ---- the place of a record

component-kind : (nodes : List Node) (r c : Node) (n : ℕ) (t : Ty) → Says r (vec n t) → slice_get nodes r.child ≡ Some c → Says c t → kind_at nodes r ≡ kind_of t
component-kind nodes r c n t says there own = rw (says.sort, there) own.kind

kind-is : (nodes : List Node) (r : Node) (t : Ty) → Describes nodes 0 r t → kind_at nodes r ≡ number_kind t
kind-is nodes r (vec n t) d = let s = d.leads.1 in component-kind nodes r s.node n t d.says s.there s.says
kind-is nodes r (mat c k t) d = rw d.says.sort d.says.kind
kind-is nodes r (array t n) d = rw d.says.sort d.says.kind
kind-is nodes r (struct name fs) d = rw d.says.sort d.says.kind
kind-is nodes r t d = rw d.says.sort d.says.kind

count-is : (r : Node) (t : Ty) → Says r t → count_at r ≡ numbers_in t
count-is r (vec n t) says = rw says.sort says.count
count-is r (mat c k t) says = rw (says.sort, says.kind) refl
count-is r (array t n) says = rw (says.sort, says.kind) refl
count-is r (struct name fs) says = rw (says.sort, says.kind) refl
count-is r t says = rw (says.sort, says.kind) refl

pub place-is : (nodes : List Node) (offset number : ℕ) (t : Ty) → length nodes < 2 ^ 32 → IsNodeOf nodes number t → MatchOption (place_in nodes offset number) (2 ^ 64 ≤ offset) (IsPlaceOf nodes offset t)
place-is nodes offset number t few is = by (nat_lt offset (2 ^ 64)) refl
  where
    number-fits : nat_lt number (2 ^ 32) ≡ true
    number-fits = let lt = slice_get_within nodes number is.node is.there in lt-ltb number (2 ^ 32) (omega arith)

    at : IsPlaceOf nodes offset t (placed nodes offset number is.node)
    at = record {
      offset_is = refl;
      node = is;
      kind = kind-is nodes is.node t (record { says = is.describes.says; leads = leads-lower nodes (number + 1) 0 is.node.child t (omega arith) is.describes.leads });
      count = count-is is.node t is.describes.says;
    }

    by : (b : Bool) → nat_lt offset (2 ^ 64) ≡ b → MatchOption (if b && nat_lt number (2 ^ 32) then option_map (placed nodes offset number) (slice_get nodes number) else None) (2 ^ 64 ≤ offset) (IsPlaceOf nodes offset t)
    by true e = rw (number-fits, is.there) at
    by false e = ltb-false offset (2 ^ 64) e

pub root-place : (nodes : List Node) (t : Ty) (is : IsNodeOf nodes 0 t) → IsPlaceOf nodes 0 t (placed nodes 0 0 is.node)
root-place nodes t is = record {
  offset_is = refl;
  node = is;
  kind = kind-is nodes is.node t (record { says = is.describes.says; leads = leads-lower nodes 1 0 is.node.child t (omega arith) is.describes.leads });
  count = count-is is.node t is.describes.says;
}

pub whole-is : (nodes : List Node) (t : Ty) → IsNodeOf nodes 0 t → IsSomeAnd (place_in nodes 0 0) (IsPlaceOf nodes 0 t)
whole-is nodes t is = rw is.there (root-place nodes t is)

-- ---- a part

stands-node : (nodes : List Node) (number offset : ℕ) (t : Ty) → Stands nodes number offset t (λ c. LeadsTo nodes (number + 1) c t) → IsNodeOf nodes number t
stands-node nodes number offset t s = record { node = s.node; there = s.there; describes = record { says = s.says; leads = s.leads } }

-- what is said of the part at so far from the offset, where it is there
row-part : (nodes : List Node) (offset child start far i : ℕ) (there : Bool) (t : Ty) → length nodes < 2 ^ 32 → IsNodeOf nodes child t → start ≡ i * far
    → IsPartAt nodes offset (part_if there start t) (if there then place_in nodes (offset + i * far) child else None)
row-part nodes offset child start far i false t few is e = refl
row-part nodes offset child start far i true t few is e =
    subst (λ (k : ℕ). MatchOption (place_in nodes (offset + i * far) child) (2 ^ 64 ≤ offset + k) (IsPlaceOf nodes (offset + k) t)) (sym e) (place-is nodes (offset + i * far) child t few is)

-- ---- members

pub record IsMemberAt (nodes : List Node) (low number i count : ℕ) (q : Part) : Type 0 where
  pub stands : Stands nodes (number + i) q.start q.ty (λ c. LeadsTo nodes low c q.ty)
  pub counted : i < count

member-at : (nodes : List Node) (low number : ℕ) (from : Option ℕ) (i : ℕ) (fs : Fields) → MembersStand nodes low number from fs
    → MatchOption (member_in from i fs) (members_in fs ≤ i) (IsMemberAt nodes low number i (members_in fs))
member-at nodes low number from i no_fields h = omega arith
member-at nodes low number from zero (field name t s a fs) h = record {
  stands = subst (λ (k : ℕ). Stands nodes k (amount (offset_after from (extent_in t s a))) t (λ c. LeadsTo nodes low c t)) (omega arith) h.0;
  counted = omega arith;
}
member-at nodes low number from (suc i) (field name t s a fs) h = later (member_in (end_after from (extent_in t s a)) i fs) (member-at nodes low (number + 1) (end_after from (extent_in t s a)) i fs h.1)
  where
    later : (o : Option Part) → MatchOption o (members_in fs ≤ i) (IsMemberAt nodes low (number + 1) i (members_in fs)) → MatchOption o (suc (members_in fs) ≤ suc i) (IsMemberAt nodes low number (suc i) (suc (members_in fs)))
    later None k = omega arith
    later (Some q) k = let lt = k.counted in record {
      stands = subst (λ (m : ℕ). Stands nodes m q.start q.ty (λ c. LeadsTo nodes low c q.ty)) (omega arith) k.stands;
      counted = omega arith;
    }

member-part : (nodes : List Node) (offset child i count : ℕ) (part : Option Part) → length nodes < 2 ^ 32 → MatchOption part (count ≤ i) (IsMemberAt nodes (child + count) child i count)
    → IsPartAt nodes offset part (if nat_lt i count then member_place nodes offset (child + i) else None)
member-part nodes offset child i count None few le = rw (by (nat_lt i count) refl) refl
  where
    by : (b : Bool) → nat_lt i count ≡ b → nat_lt i count ≡ false
    by true e = let lt : i < count = grind (arith, nat_tests) in absurd (omega arith)
    by false e = e
member-part nodes offset child i count (Some q) few is =
    let s = is.stands in
    let lt = is.counted in
    let node : IsNodeOf nodes (child + i) q.ty =
    record { node = s.node; there = s.there; describes = record { says = s.says; leads = leads-lower nodes (child + count) ((child + i) + 1) s.node.child q.ty (omega arith) s.leads } } in
    let placed_is : member_place nodes offset (child + i) ≡ place_in nodes (offset + q.start) (child + i) =
    ap (option_and_then (λ r. place_in nodes (offset + r.offset) (child + i))) s.there ∙ ap (λ (k : ℕ). place_in nodes (offset + k) (child + i)) s.offset_is in
    rw (lt-ltb i count lt) (subst (λ (o : Option Place). MatchOption o (2 ^ 64 ≤ offset + q.start) (IsPlaceOf nodes (offset + q.start) q.ty)) (sym placed_is) (place-is nodes (offset + q.start) (child + i) q.ty few node))

-- ---- any part

never : (i : ℕ) → nat_lt i 0 ≡ false
never i = by (nat_lt i 0) refl
  where
    by : (b : Bool) → nat_lt i 0 ≡ b → b ≡ false
    by true e = let lt : i < 0 = grind (arith, nat_tests) in absurd (omega arith)
    by false e = refl

open-test : (b c : Bool) (i : ℕ) → (if b then c else nat_lt i 0) ≡ (b && c)
open-test true c i = refl
open-test false c i = never i

node-part : (nodes : List Node) (offset room i number : ℕ) (r : Node) (t : Ty) → length nodes < 2 ^ 32 → Says r t → LeadsTo nodes (number + 1) r.child t
    → IsPartAt nodes offset (part_in room i t) (part_of_node nodes offset room i r)
node-part nodes offset room i number r (vec n t) few says leads =
    rw (says.sort, says.count) (row-part nodes offset r.child (i * size t) r.stride i (nat_lt i n) t few (stands-node nodes r.child 0 t leads.1) (ap (λ (k : ℕ). i * k) (sym says.stride)))
node-part nodes offset room i number r (mat c k t) few says leads =
    rw (says.sort, says.count) (row-part nodes offset r.child (i * align (vec k t)) r.stride i (nat_lt i c) (vec k t) few (stands-node nodes r.child 0 (vec k t) leads.1) (ap (λ (m : ℕ). i * m) (sym says.stride)))
node-part nodes offset room i number r (array t (Some n)) few says leads =
    rw (says.sort, says.tail_stride, says.count) (row-part nodes offset r.child (i * stride t) r.stride i (nat_lt i n) t few (stands-node nodes r.child 0 t leads.1) (ap (λ (k : ℕ). i * k) (sym says.stride)))
node-part nodes offset room i number r (array t None) few says leads =
    rw (says.sort, says.tail_stride, says.count) (rw (open-test (nat_lt 0 (stride t)) (nat_lt i (room / stride t)) i)
    (row-part nodes offset r.child (i * stride t) r.stride i (nat_lt 0 (stride t) && nat_lt i (room / stride t)) t few (stands-node nodes r.child 0 t leads.1) (ap (λ (k : ℕ). i * k) (sym says.stride))))
node-part nodes offset room i number r (struct name fs) few says leads =
    rw (says.sort, says.count) (member-part nodes offset r.child i (members_in fs) (member_in (Some 0) i fs) few (member-at nodes (r.child + members_in fs) r.child (Some 0) i fs leads.1))
node-part nodes offset room i number r t few says leads = rw says.sort refl

pub part-is : (nodes : List Node) (p : Place) (i len : ℕ) (t : Ty) → length nodes < 2 ^ 32 → IsNodeOf nodes p.node t → IsPartAt nodes p.offset (part_in (len - p.offset) i t) (part_of nodes p i len)
part-is nodes p i len t few is = rw is.there (node-part nodes p.offset (len - p.offset) i p.node is.node t few is.describes.says is.describes.leads)

-- ---- with so many elements

node-part-with : (nodes : List Node) (offset n i number : ℕ) (r : Node) (t : Ty) → length nodes < 2 ^ 32 → Says r t → LeadsTo nodes (number + 1) r.child t
    → IsPartAt nodes offset (part_with n i t) (part_where nodes offset i r (has_part_with r i n))
node-part-with nodes offset n i number r (vec k t) few says leads =
    rw (says.sort, says.count) (row-part nodes offset r.child (i * size t) r.stride i (nat_lt i k) t few (stands-node nodes r.child 0 t leads.1) (ap (λ (k : ℕ). i * k) (sym says.stride)))
node-part-with nodes offset n i number r (mat c k t) few says leads =
    rw (says.sort, says.count) (row-part nodes offset r.child (i * align (vec k t)) r.stride i (nat_lt i c) (vec k t) few (stands-node nodes r.child 0 (vec k t) leads.1) (ap (λ (m : ℕ). i * m) (sym says.stride)))
node-part-with nodes offset n i number r (array t (Some k)) few says leads =
    rw (says.sort, says.tail_stride, says.count) (row-part nodes offset r.child (i * stride t) r.stride i (nat_lt i k) t few (stands-node nodes r.child 0 t leads.1) (ap (λ (k : ℕ). i * k) (sym says.stride)))
node-part-with nodes offset n i number r (array t None) few says leads =
    rw (says.sort, says.tail_stride, says.count) (rw (open-test (nat_lt 0 (stride t)) (nat_lt i n) i)
    (row-part nodes offset r.child (i * stride t) r.stride i (nat_lt 0 (stride t) && nat_lt i n) t few (stands-node nodes r.child 0 t leads.1) (ap (λ (k : ℕ). i * k) (sym says.stride))))
node-part-with nodes offset n i number r (struct name fs) few says leads =
    rw (says.sort, says.count) (member-part nodes offset r.child i (members_in fs) (member_in (Some 0) i fs) few (member-at nodes (r.child + members_in fs) r.child (Some 0) i fs leads.1))
node-part-with nodes offset n i number r t few says leads = rw says.sort refl

pub part-with-is : (nodes : List Node) (p : Place) (i n : ℕ) (t : Ty) → length nodes < 2 ^ 32 → IsNodeOf nodes p.node t → IsPartAt nodes p.offset (part_with n i t) (part_of_with nodes p i n)
part-with-is nodes p i n t few is = rw is.there (node-part-with nodes p.offset n i p.node is.node t few is.describes.says is.describes.leads)
