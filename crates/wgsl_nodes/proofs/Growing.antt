-- What stands in a table that grows.
use Rattle.std.proofs.Common.{◌≡◌, ℕ, ◌+◌, ◌≤◌, List, slice_get, Option, Some, arith}
use Rattle.wgsl_rules.specs.Types.{Ty, struct, array, vec, mat, Fields, no_fields, field}
use Rattle.wgsl_rules.specs.Size.{extent_in, offset_after, end_after}
use Rattle.wgsl_rules.specs.Layout.{amount}
use Rattle.wgsl_nodes.specs.Nodes.{Stands, LeadsTo, MembersStand, members_in}
use Rattle.wgsl_nodes.specs.declared.nodes.Node.{Node}

-- each record from one on stands where it stood
pub record KeepsFrom (low : ℕ) (old new : List Node) : Type 0 where
  pub get : (k : ℕ) (r : Node) → low ≤ k → slice_get old k ≡ Some r → slice_get new k ≡ Some r

pub keeps-later : (low later : ℕ) (old new : List Node) → low ≤ later → KeepsFrom low old new → KeepsFrom later old new
keeps-later low later old new h keeps = record { get = λ k r le. keeps.get k r (omega arith) }

stands-kept : (nodes now : List Node) (low number offset : ℕ) (t : Ty) (P Q : ℕ → Type 0) → KeepsFrom low nodes now → low ≤ number → ((c : ℕ) → P c → Q c)
    → Stands nodes number offset t P → Stands now number offset t Q
stands-kept nodes now low number offset t P Q keeps h f s = record {
  node = s.node;
  there = keeps.get number s.node h s.there;
  offset_is = s.offset_is;
  says = s.says;
  leads = f s.node.child s.leads;
}

mutual
  pub leads-kept : (nodes now : List Node) (low child : ℕ) (t : Ty) → KeepsFrom low nodes now → LeadsTo nodes low child t → LeadsTo now low child t
  leads-kept nodes now low child (vec n t) keeps h =
      let le = h.0 in (
        le,
        stands-kept nodes now low child 0 t (λ c. LeadsTo nodes (child + 1) c t) (λ c. LeadsTo now (child + 1) c t) keeps le
            (λ c l. leads-kept nodes now (child + 1) c t (keeps-later low (child + 1) nodes now (omega arith) keeps) l) h.1,
      )
  leads-kept nodes now low child (mat c r t) keeps h =
      let le = h.0 in (
        le,
        stands-kept nodes now low child 0 (vec r t)
            (λ k. (child + 1 ≤ k) × Stands nodes k 0 t (λ i. LeadsTo nodes (k + 1) i t)) (λ k. (child + 1 ≤ k) × Stands now k 0 t (λ i. LeadsTo now (k + 1) i t)) keeps le
            (λ k l. let after = l.0 in (
              after,
              stands-kept nodes now (child + 1) k 0 t (λ i. LeadsTo nodes (k + 1) i t) (λ i. LeadsTo now (k + 1) i t) (keeps-later low (child + 1) nodes now (omega arith) keeps) after
                  (λ i m. leads-kept nodes now (k + 1) i t (keeps-later low (k + 1) nodes now (omega arith) keeps) m) l.1,
            )) h.1,
      )
  leads-kept nodes now low child (array t n) keeps h =
      let le = h.0 in (
        le,
        stands-kept nodes now low child 0 t (λ c. LeadsTo nodes (child + 1) c t) (λ c. LeadsTo now (child + 1) c t) keeps le
            (λ c l. leads-kept nodes now (child + 1) c t (keeps-later low (child + 1) nodes now (omega arith) keeps) l) h.1,
      )
  leads-kept nodes now low child (struct name fs) keeps h =
      let le = h.0 in
      (le, members-kept nodes now low (child + members_in fs) child (Some 0) fs le (omega arith) keeps h.1)
  leads-kept nodes now low child t keeps h = h

  members-kept : (nodes now : List Node) (low later number : ℕ) (from : Option ℕ) (fs : Fields) → low ≤ number → low ≤ later → KeepsFrom low nodes now
      → MembersStand nodes later number from fs → MembersStand now later number from fs
  members-kept nodes now low later number from no_fields le lt keeps h = h
  members-kept nodes now low later number from (field name t s a fs) le lt keeps h = (
    stands-kept nodes now low number (amount (offset_after from (extent_in t s a))) t (λ c. LeadsTo nodes later c t) (λ c. LeadsTo now later c t) keeps le
        (λ c l. leads-kept nodes now later c t (keeps-later low later nodes now lt keeps) l) h.0,
    members-kept nodes now low later (number + 1) (end_after from (extent_in t s a)) fs (omega arith) lt keeps h.1,
  )

-- where all stands at one number or behind, it stands at a lower one or behind
pub leads-lower : (nodes : List Node) (low lower child : ℕ) (t : Ty) → lower ≤ low → LeadsTo nodes low child t → LeadsTo nodes lower child t
leads-lower nodes low lower child (vec n t) le h = let l = h.0 in (omega arith, h.1)
leads-lower nodes low lower child (mat c r t) le h = let l = h.0 in (omega arith, h.1)
leads-lower nodes low lower child (array t n) le h = let l = h.0 in (omega arith, h.1)
leads-lower nodes low lower child (struct name fs) le h = let l = h.0 in (omega arith, h.1)
leads-lower nodes low lower child t le h = h
