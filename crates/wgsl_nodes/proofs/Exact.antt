-- What stands in a table, record for record.
use Rattle.std.proofs.Common.{◌≡◌, ℕ, ◌+◌, ◌<◌, ◌≤◌, List, [], ◌∷◌, ◌++◌, length, replicate, slice_set, Option, Some, refl, sym, ap, ◌∙◌, arith, append_assoc, length-append}
use Rattle.std.specs.Prelude.{◌==◌, if◌then◌else◌}
use Rattle.std.proofs.Math.ListN.{length-set}
use Rattle.std.proofs.Math.Seq.{set-append_seam}
use Rattle.std.proofs.lemmas.List.{append-nil, length-replicate, nil_from_length}
use Rattle.wgsl_rules.specs.Types.{Ty, struct, Fields, no_fields, field}
use Rattle.wgsl_rules.specs.Size.{extent_in, offset_after, end_after}
use Rattle.wgsl_rules.specs.Layout.{amount}
use Rattle.wgsl_nodes.specs.Canonical.{node_of, below, member_nodes, below_members}
use Rattle.wgsl_nodes.specs.Making.{empty_node}
use Rattle.wgsl_nodes.specs.Nodes.{Says, sort_of, members_in}
use Rattle.wgsl_nodes.specs.declared.nodes.Node.{Node}

-- ---- records

-- a record that says this of the type, and has no offset and no name, is the record of the type
pub node-is : (r : Node) (t : Ty) (child : ℕ) → Says r t → r.offset ≡ 0 → r.child ≡ (if sort_of t == 0 then 0 else child) → r.name_start ≡ 0 → r.name_end ≡ 0 → r ≡ node_of t child
node-is r t child says place child_is start end =
    rw (← child_is, ← says.sort, ← says.kind, ← says.size, ← says.align, ← says.count, ← says.stride, ← says.tail_start, ← says.tail_stride) (bare r r.offset r.name_start r.name_end place start end)
  where
    bare : (r : Node) (o s e : ℕ) → o ≡ 0 → s ≡ 0 → e ≡ 0 → record r { offset = o; name_start = s; name_end = e } ≡ record r { offset = 0; name_start = 0; name_end = 0 }
    bare r o s e place start end = rw (place, start, end) refl

-- ---- arrays

pub element-grown : (old pushed grown : List Node) (x part : Node) (t : Ty) → pushed ≡ old ++ (x ∷ []) → part ≡ node_of t (length pushed) → grown ≡ pushed ++ below (length pushed) t
    → slice_set grown (length old) part ≡ old ++ (node_of t (length old + 1) ∷ below (length old + 1) t)
element-grown old pushed grown x part t is part_is more =
    let len : length pushed ≡ length old + 1 = ap length is ∙ omega (arith, length-append old (x ∷ [])) in
    let node : part ≡ node_of t (length old + 1) = part_is ∙ ap (node_of t) len in
    let whole : grown ≡ old ++ (x ∷ below (length old + 1) t) =
    more ∙ ap (λ (k : ℕ). pushed ++ below k t) len ∙ ap (λ (xs : List Node). xs ++ below (length old + 1) t) is ∙ append_assoc old (x ∷ []) (below (length old + 1) t) in
    ap (λ (xs : List Node). slice_set xs (length old) part) whole ∙ set-append_seam old x (below (length old + 1) t) part ∙ ap (λ (y : Node). old ++ (y ∷ below (length old + 1) t)) node

-- ---- members

-- a table has grown by places for n members, of which i are filled, and by what these lead to; with what the rest give
-- these are the records of all
pub record AreExact (before nodes : List Node) (fs rest : Fields) (from : Option ℕ) (i n : ℕ) : Type 0 where
  pub made : List Node
  pub left : List Node
  pub behind : List Node
  pub is : nodes ≡ (before ++ made) ++ (left ++ behind)
  pub made_so_many : length made ≡ i
  pub left_so_many : i + length left ≡ n
  pub members : made ++ member_nodes (length nodes) from rest ≡ member_nodes (length before + n) (Some 0) fs
  pub below_is : behind ++ below_members (length nodes) rest ≡ below_members (length before + n) fs

pub none-exact : (before nodes : List Node) (fs : Fields) (n : ℕ) → nodes ≡ before ++ replicate n empty_node → AreExact before nodes fs fs (Some 0) 0 n
none-exact before nodes fs n is =
    let long : length nodes ≡ length before + n = ap length is ∙ omega (arith, length-append before (replicate n empty_node), length-replicate n empty_node) in
    record {
      made = [];
      left = replicate n empty_node;
      behind = [];
      is = is ∙ rw (append-nil before, append-nil (replicate n empty_node)) refl;
      made_so_many = refl;
      left_so_many = omega (arith, length-replicate n empty_node);
      members = ap (λ (k : ℕ). member_nodes k (Some 0) fs) long;
      below_is = ap (λ (k : ℕ). below_members k fs) long;
    }

-- a member more
pub next-exact : (before nodes grown : List Node) (fs : Fields) (name : List ℕ) (t : Ty) (s a : Option ℕ) (rest : Fields) (from : Option ℕ) (child i n o : ℕ) (part : Node)
    → AreExact before nodes fs (field name t s a rest) from i n → i < n → child ≡ length before → part ≡ node_of t (length nodes) → grown ≡ nodes ++ below (length nodes) t → offset_after from (extent_in t s a) ≡ Some o
    → AreExact before (slice_set grown (child + i) (record part { offset = o })) fs rest (end_after from (extent_in t s a)) (i + 1) n
next-exact before nodes grown fs name t s a rest from child i n o part exact lt at part_is more offset = by exact.left refl
  where
    placed : Node
    placed = record part { offset = o }

    more_of : List Node
    more_of = below (length nodes) t

    by : (left : List Node) → exact.left ≡ left → AreExact before (slice_set grown (child + i) placed) fs rest (end_after from (extent_in t s a)) (i + 1) n
    by [] e = let many = exact.left_so_many in absurd (omega (arith, ap length e))
    by (x ∷ left) e =
        let many = exact.left_so_many in
        let made_many = exact.made_so_many in
        let front = before ++ exact.made in
        let front_long : child + i ≡ length front = omega (arith, length-append before exact.made) in
        let whole : grown ≡ front ++ (x ∷ (left ++ (exact.behind ++ more_of))) =
        more ∙ ap (λ (xs : List Node). xs ++ more_of) (exact.is ∙ ap (λ (xs : List Node). front ++ (xs ++ exact.behind)) e)
        ∙ append_assoc front (x ∷ (left ++ exact.behind)) more_of ∙ ap (λ (xs : List Node). front ++ (x ∷ xs)) (append_assoc left exact.behind more_of) in
        let now : slice_set grown (child + i) placed ≡ front ++ (placed ∷ (left ++ (exact.behind ++ more_of))) =
        ap (λ (k : ℕ). slice_set grown k placed) front_long ∙ ap (λ (xs : List Node). slice_set xs (length front) placed) whole ∙ set-append_seam front x (left ++ (exact.behind ++ more_of)) placed in
        let long : length (slice_set grown (child + i) placed) ≡ length nodes + length more_of =
        omega (arith, length-set grown (child + i) placed, ap length more, length-append nodes more_of) in
        let member : placed ≡ record (node_of t (length nodes)) { offset = amount (offset_after from (extent_in t s a)) } =
        ap (λ (r : Node). record r { offset = o }) part_is ∙ ap (λ (k : Option ℕ). record (node_of t (length nodes)) { offset = amount k }) (sym offset) in
        record {
          made = exact.made ++ (placed ∷ []);
          left = left;
          behind = exact.behind ++ more_of;
          is = now ∙ sym (ap (λ (xs : List Node). xs ++ (left ++ (exact.behind ++ more_of))) (sym (append_assoc before exact.made (placed ∷ []))) ∙ append_assoc front (placed ∷ []) (left ++ (exact.behind ++ more_of)));
          made_so_many = omega (arith, length-append exact.made (placed ∷ []));
          left_so_many = omega (arith, ap length e);
          members =
              append_assoc exact.made (placed ∷ []) (member_nodes (length (slice_set grown (child + i) placed)) (end_after from (extent_in t s a)) rest)
              ∙ ap (λ (k : ℕ). exact.made ++ (placed ∷ member_nodes k (end_after from (extent_in t s a)) rest)) long
              ∙ ap (λ (r : Node). exact.made ++ (r ∷ member_nodes (length nodes + length more_of) (end_after from (extent_in t s a)) rest)) member ∙ exact.members;
          below_is =
              append_assoc exact.behind more_of (below_members (length (slice_set grown (child + i) placed)) rest)
              ∙ ap (λ (k : ℕ). exact.behind ++ (more_of ++ below_members k rest)) long ∙ exact.below_is;
        }

-- all members
pub all-exact : (before nodes : List Node) (name : List ℕ) (fs : Fields) (from : Option ℕ) (i n : ℕ) → AreExact before nodes fs no_fields from i n → n ≤ i → n ≡ members_in fs → nodes ≡ before ++ below (length before) (struct name fs)
all-exact before nodes name fs from i n exact past many =
    let so_many = exact.left_so_many in
    let none : exact.left ≡ [] = nil_from_length exact.left (omega arith) in
    let first : exact.made ≡ member_nodes (length before + n) (Some 0) fs = sym (append-nil exact.made) ∙ exact.members in
    let later : exact.behind ≡ below_members (length before + n) fs = sym (append-nil exact.behind) ∙ exact.below_is in
    exact.is ∙ ap (λ (xs : List Node). (before ++ exact.made) ++ (xs ++ exact.behind)) none ∙ append_assoc before exact.made exact.behind
    ∙ ap (λ (xs : List Node). before ++ (xs ++ exact.behind)) first ∙ ap (λ (xs : List Node). before ++ (member_nodes (length before + n) (Some 0) fs ++ xs)) later
    ∙ ap (λ (k : ℕ). before ++ (member_nodes (length before + k) (Some 0) fs ++ below_members (length before + k) fs)) many
