-- Where steps lead in the table of a type.
use Rattle.std.proofs.Common.{◌≡◌, ℕ, zero, suc, ◌+◌, ◌-◌, ◌^◌, ◌<◌, ◌≤◌, List, [], ◌∷◌, length, take, drop, slice_get, Option, Some, None, Bool, true, false, refl, ap, ◌∙◌, subst, arith}
use Rattle.std.specs.Prelude.{◌&&◌, ◌==◌, nat_lt, if◌then◌else◌, IfSome, option_and_then, position}
use Rattle.std.specs.List.{position_or_len}
use Rattle.std.proofs.lemmas.Bool.Decides.{nat_tests}
use Rattle.std.proofs.lemmas.Bool.{lt-ltb}
use Rattle.wgsl_rules.specs.Types.{Ty}
use Rattle.wgsl_rules.specs.Values.{Step, member, index}
use Rattle.wgsl_nodes.specs.Paths.{component_of, has_name, indexed_part, IsLed, led, members_of, named_part, stepped}
use Rattle.wgsl_nodes.specs.Places.{Part, part_in, IsPlaceOf, IsPartAt, has_row, member_place, part_along, part_of, IsPartAlong}
use Rattle.wgsl_nodes.specs.declared.nodes.Node.{Node}
use Rattle.wgsl_nodes.specs.declared.places.Place.{Place}
use Rattle.wgsl_nodes.proofs.Parts.{part-is}

-- ---- positions

-- what stands at a position is there
position-below : {X : Type 0} (p : X → Bool) (xs : List X) (i : ℕ) → position p xs ≡ Some i → i < length xs
position-below p xs i e = by (nat_lt (position_or_len p xs) (length xs)) refl e
  where
    by : (b : Bool) → nat_lt (position_or_len p xs) (length xs) ≡ b → (if b then Some (position_or_len p xs) else None) ≡ Some i → i < length xs
    by true is h =
        let same : position_or_len p xs ≡ i = cc (h) in
        let lt : position_or_len p xs < length xs = grind (arith, nat_tests) in
        omega arith
    by false is h = absurd (cc (h))

taken-length : {X : Type 0} (n : ℕ) (xs : List X) → length (take n xs) ≤ n
taken-length zero [] = omega arith
taken-length zero (x ∷ xs) = omega arith
taken-length (suc n) [] = omega arith
taken-length (suc n) (x ∷ xs) = let h = taken-length n xs in omega arith

-- ---- a step leads to a part of some position

pub record IsAtPosition (nodes : List Node) (len : ℕ) (p q : Place) : Type 0 where
  pub position_is : ℕ
  pub leads : part_of nodes p position_is len ≡ Some q

member-position : (nodes : List Node) (len : ℕ) (p q : Place) (r : Node) (i : ℕ) → slice_get nodes p.node ≡ Some r → (r.sort == 4) ≡ true → i < r.count → member_place nodes p.offset (r.child + i) ≡ Some q
    → part_of nodes p i len ≡ Some q
member-position nodes len p q r i there sort lt is = rw there (rw (sort, lt-ltb i r.count lt) is)

named-position : (nodes : List Node) (names : List ℕ) (len : ℕ) (p q : Place) (n : List ℕ) (r : Node) → slice_get nodes p.node ≡ Some r → named_part nodes names len p n r ≡ Some q → IsAtPosition nodes len p q
named-position nodes names len p q n r there is = by (r.sort == 4) (r.sort == 1) refl is
  where
    at_member : (o : Option ℕ) → position (has_name names n) (members_of nodes r) ≡ o → (r.sort == 4) ≡ true → option_and_then (λ i. member_place nodes p.offset (r.child + i)) o ≡ Some q → IsAtPosition nodes len p q
    at_member None e sort h = absurd (cc (h))
    at_member (Some i) e sort h =
        let lt = position-below (has_name names n) (members_of nodes r) i e in
        let few = taken-length r.count (drop r.child nodes) in
        record { position_is = i; leads = member-position nodes len p q r i there sort (omega arith) h }

    at_component : (o : Option ℕ) → option_and_then (λ i. part_of nodes p i len) o ≡ Some q → IsAtPosition nodes len p q
    at_component None h = absurd (cc (h))
    at_component (Some i) h = record { position_is = i; leads = h }

    by : (b c : Bool) → (r.sort == 4) ≡ b
        → (if b then option_and_then (λ i. member_place nodes p.offset (r.child + i)) (position (has_name names n) (members_of nodes r)) else (if c then option_and_then (λ i. part_of nodes p i len) (component_of n) else None)) ≡ Some q
        → IsAtPosition nodes len p q
    by true c sort h = at_member (position (has_name names n) (members_of nodes r)) refl sort h
    by false true sort h = at_component (component_of n) h
    by false false sort h = absurd (cc (h))

indexed-position : (nodes : List Node) (len : ℕ) (p q : Place) (i : ℕ) (b : Bool) → (if b then part_of nodes p i len else None) ≡ Some q → IsAtPosition nodes len p q
indexed-position nodes len p q i true h = record { position_is = i; leads = h }
indexed-position nodes len p q i false h = absurd (cc (h))

stepped-position : (nodes : List Node) (names : List ℕ) (len : ℕ) (p q : Place) (s : Step) → stepped nodes names len p s ≡ Some q → IsAtPosition nodes len p q
stepped-position nodes names len p q (member n) is = by (slice_get nodes p.node) refl is
  where
    by : (o : Option Node) → slice_get nodes p.node ≡ o → option_and_then (named_part nodes names len p n) o ≡ Some q → IsAtPosition nodes len p q
    by None e h = absurd (cc (h))
    by (Some r) e h = named-position nodes names len p q n r e h
stepped-position nodes names len p q (index i) is = by (slice_get nodes p.node) is
  where
    by : (o : Option Node) → option_and_then (indexed_part nodes len p i) o ≡ Some q → IsAtPosition nodes len p q
    by None h = absurd (cc (h))
    by (Some r) h = indexed-position nodes len p q i (has_row r && nat_lt i (2 ^ 64)) h

-- ---- and so to a part of the type

pub record IsPartHere (nodes : List Node) (len offset : ℕ) (t : Ty) (q : Place) : Type 0 where
  pub position_is : ℕ
  pub part : Part
  pub is : part_in (len - offset) position_is t ≡ Some part
  pub place : IsPlaceOf nodes (offset + part.start) part.ty q

part-here : (nodes : List Node) (len : ℕ) (p q : Place) (t : Ty) (i : ℕ) (o : Option Part) → part_in (len - p.offset) i t ≡ o → IsPartAt nodes p.offset o (Some q) → IsPartHere nodes len p.offset t q
part-here nodes len p q t i None e at = absurd (cc (at))
part-here nodes len p q t i (Some x) e at = record { position_is = i; part = x; is = e; place = at }

step-here : (nodes : List Node) (names : List ℕ) (len offset : ℕ) (p q : Place) (s : Step) (t : Ty) → length nodes < 2 ^ 32 → IsPlaceOf nodes offset t p → stepped nodes names len p s ≡ Some q → IsPartHere nodes len offset t q
step-here nodes names len offset p q s t few at is =
    let i = stepped-position nodes names len p q s is in
    let part = part-is nodes p i.position_is len t few at.node in
    let there = subst (λ (o : Option Place). IsPartAt nodes p.offset (part_in (len - p.offset) i.position_is t) o) i.leads part in
    subst (λ (k : ℕ). IsPartHere nodes len k t q) at.offset_is (part-here nodes len p q t i.position_is (part_in (len - p.offset) i.position_is t) refl there)

pub led-along : (nodes : List Node) (names : List ℕ) (len offset : ℕ) (p q : Place) (steps : List Step) (t : Ty) → length nodes < 2 ^ 32 → IsPlaceOf nodes offset t p → led nodes names len p steps ≡ Some q
    → IsPartAlong nodes len offset t q
led-along nodes names len offset p q [] t few at is =
    let same : p ≡ q = cc (is) in
    record { path = []; part = record { start = offset; ty = t }; leads = refl; place = subst (λ (x : Place). IsPlaceOf nodes offset t x) same at }
led-along nodes names len offset p q (s ∷ steps) t few at is =
    by (λ k x u here h. led-along nodes names len k x q steps u few here h) (stepped nodes names len p s) refl is
  where
    by : ((k : ℕ) (x : Place) (u : Ty) → IsPlaceOf nodes k u x → led nodes names len x steps ≡ Some q → IsPartAlong nodes len k u q)
        → (o : Option Place) → stepped nodes names len p s ≡ o → option_and_then (λ x. led nodes names len x steps) o ≡ Some q → IsPartAlong nodes len offset t q
    by on None e h = absurd (cc (h))
    by on (Some x) e h =
        let here = step-here nodes names len offset p x s t few at e in
        let rest = on (offset + here.part.start) x here.part.ty here.place h in
        record {
          path = here.position_is ∷ rest.path;
          part = rest.part;
          leads = ap (option_and_then (λ y. part_along len rest.path (offset + y.start) y.ty)) here.is ∙ rest.leads;
          place = rest.place;
        }

pub answer-along : (nodes : List Node) (names : List ℕ) (len : ℕ) (start : Place) (text : List ℕ) (result : Option Place) (t : Ty) → length nodes < 2 ^ 32 → IsPlaceOf nodes 0 t start → IsLed nodes names len start text result
    → IfSome result (IsPartAlong nodes len 0 t)
answer-along nodes names len start text None t few at h = tt
answer-along nodes names len start text (Some q) t few at h = led-along nodes names len 0 start q h.0 t few at h.2
