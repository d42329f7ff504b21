-- Names are no part of a table.
use Rattle.std.proofs.Common.{◌≡◌, ℕ, zero, suc, ◌+◌, List, [], ◌∷◌, length, map, take, drop, slice_get, Option, Some, None, option_map, Bool, refl, sym, ap, ◌∙◌, subst, arith, sum_by}
use Rattle.std.specs.Prelude.{◌&&◌, nat_lt, nat_le, ◌==◌, if◌then◌else◌, IsSomeAnd}
use Rattle.std.proofs.lemmas.List.{take-map, drop-map, length-map}
use Rattle.std.proofs.lemmas.List.Sums.{sum_by-cons}
use Rattle.std.proofs.lemmas.Option.{same_Some}
use Rattle.wgsl_nodes.specs.Names.{AreRenamed, unnamed}
use Rattle.wgsl_nodes.specs.Tables.{IsTable, are_members_sound, children_counted, is_none_left, is_number_sound, is_row_sound, is_sound, is_sound_at, is_sound_if, is_structure_sound}
use Rattle.wgsl_nodes.specs.declared.nodes.Node.{Node}

abbrev unnamed-all : List Node → List Node
unnamed-all nodes = map unnamed nodes

-- ---- the same but for names

same-list : (nodes now : List Node) → AreRenamed nodes now → unnamed-all now ≡ unnamed-all nodes
same-list [] [] h = refl
same-list [] (y ∷ ys) h = let e = h 0 in absurd (cc)
same-list (x ∷ xs) [] h = let e = h 0 in absurd (cc)
same-list (x ∷ xs) (y ∷ ys) h =
    ap (λ (n : Node). n ∷ unnamed-all ys) (same_Some (unnamed y) (unnamed x) (h 0)) ∙ ap (λ (ns : List Node). unnamed x ∷ ns) (same-list xs ys (λ k. h (suc k)))

get-unnamed : (nodes : List Node) (k : ℕ) → slice_get (unnamed-all nodes) k ≡ option_map unnamed (slice_get nodes k)
get-unnamed [] k = refl
get-unnamed (x ∷ xs) zero = refl
get-unnamed (x ∷ xs) (suc k) = get-unnamed xs k

children-unnamed : (nodes : List Node) → sum_by children_counted (unnamed-all nodes) ≡ sum_by children_counted nodes
children-unnamed [] = refl
children-unnamed (x ∷ xs) =
    sum_by-cons children_counted (unnamed x) (unnamed-all xs) ∙ ap (λ (n : ℕ). children_counted x + n) (children-unnamed xs) ∙ sym (sum_by-cons children_counted x xs)

-- ---- sound without names

members-unnamed : (r : Node) (end : ℕ) (ms : List Node) → are_members_sound (unnamed r) end (unnamed-all ms) ≡ are_members_sound r end ms
members-unnamed r end [] = refl
members-unnamed r end (m ∷ ms) = rw (members-unnamed r (m.offset + m.size) ms, none-left ms) refl
  where
    none-left : (ms : List Node) → is_none_left (unnamed-all ms) ≡ is_none_left ms
    none-left [] = refl
    none-left (m ∷ ms) = refl

structure-unnamed : (nodes : List Node) (r : Node) → is_structure_sound (unnamed-all nodes) (unnamed r) ≡ is_structure_sound nodes r
structure-unnamed nodes r =
    let members : take r.count (drop r.child (unnamed-all nodes)) ≡ unnamed-all (take r.count (drop r.child nodes)) =
    ap (λ (ms : List Node). take r.count ms) (drop-map unnamed r.child nodes) ∙ take-map unnamed r.count (drop r.child nodes) in
    ap (λ (n : ℕ). ((nat_lt 0 r.count && r.stride == 0) && nat_le (r.child + r.count) n) && are_members_sound (unnamed r) 0 (take r.count (drop r.child (unnamed-all nodes)))) (length-map nodes unnamed)
    ∙ ap (λ (b : Bool). ((nat_lt 0 r.count && r.stride == 0) && nat_le (r.child + r.count) (length nodes)) && b) (ap (are_members_sound (unnamed r) 0) members ∙ members-unnamed r 0 (take r.count (drop r.child nodes)))

row-unnamed : (r : Node) (o : Option Node) → is_row_sound (unnamed r) (option_map unnamed o) ≡ is_row_sound r o
row-unnamed r None = refl
row-unnamed r (Some part) = refl

sound-unnamed : (nodes : List Node) (number : ℕ) (r : Node) → is_sound (unnamed-all nodes) number (unnamed r) ≡ is_sound nodes number r
sound-unnamed nodes number r =
    let row : is_row_sound (unnamed r) (slice_get (unnamed-all nodes) r.child) ≡ is_row_sound r (slice_get nodes r.child) =
    ap (is_row_sound (unnamed r)) (get-unnamed nodes r.child) ∙ row-unnamed r (slice_get nodes r.child) in
    ap (λ (b : Bool). if r.sort == 0 then is_number_sound r else ((r.kind == 0 && nat_lt number r.child) && (if r.sort == 4 then b else is_row_sound (unnamed r) (slice_get (unnamed-all nodes) r.child)))) (structure-unnamed nodes r)
    ∙ ap (λ (b : Bool). if r.sort == 0 then is_number_sound r else ((r.kind == 0 && nat_lt number r.child) && (if r.sort == 4 then is_structure_sound nodes r else b))) row

sound-at-unnamed : (nodes : List Node) (number : ℕ) → is_sound_at (unnamed-all nodes) number ≡ is_sound_at nodes number
sound-at-unnamed nodes number = ap (is_sound_if (unnamed-all nodes) number) (get-unnamed nodes number) ∙ by (slice_get nodes number)
  where
    by : (o : Option Node) → is_sound_if (unnamed-all nodes) number (option_map unnamed o) ≡ is_sound_if nodes number o
    by None = refl
    by (Some r) = sound-unnamed nodes number r

root-named : (o : Option Node) → IsSomeAnd (option_map unnamed o) (λ r. r.offset ≡ 0) → IsSomeAnd o (λ r. r.offset ≡ 0)
root-named None h = h
root-named (Some r) h = h

root-unnamed : (o : Option Node) → IsSomeAnd o (λ r. r.offset ≡ 0) → IsSomeAnd (option_map unnamed o) (λ r. r.offset ≡ 0)
root-unnamed None h = h
root-unnamed (Some r) h = h

-- ---- tables

without-names : (nodes : List Node) → IsTable nodes → IsTable (unnamed-all nodes)
without-names nodes h = record {
  root = subst (λ (o : Option Node). IsSomeAnd o (λ r. r.offset ≡ 0)) (sym (get-unnamed nodes 0)) (root-unnamed (slice_get nodes 0) h.root);
  children = ap (λ (n : ℕ). n + 1) (children-unnamed nodes) ∙ h.children ∙ sym (length-map nodes unnamed);
  each = λ k lt. sound-at-unnamed nodes k ∙ h.each k (let long = length-map nodes unnamed in omega arith);
}

with-names : (nodes : List Node) → IsTable (unnamed-all nodes) → IsTable nodes
with-names nodes h = record {
  root = root-named (slice_get nodes 0) (subst (λ (o : Option Node). IsSomeAnd o (λ r. r.offset ≡ 0)) (get-unnamed nodes 0) h.root);
  children = ap (λ (n : ℕ). n + 1) (sym (children-unnamed nodes)) ∙ h.children ∙ length-map nodes unnamed;
  each = λ k lt. sym (sound-at-unnamed nodes k) ∙ h.each k (let long = length-map nodes unnamed in omega arith);
}

pub renamed-table : (nodes now : List Node) → AreRenamed nodes now → IsTable nodes → IsTable now
renamed-table nodes now renamed h = with-names now (subst IsTable (sym (same-list nodes now renamed)) (without-names nodes h))
