-- Tables whose records are each of a type that has a table, and each but the root once the child of one.
use Rattle.std.proofs.Common.{◌≡◌, ℕ, zero, suc, ◌+◌, ◌<◌, ◌≤◌, List, [], ◌∷◌, length, slice_get, slice_set, Some, inl, inr, Bool, true, false, refl, ap, ◌∙◌, arith, sum_by}
use Rattle.std.specs.Prelude.{◌⊎◌, nat_eq, if◌then◌else◌}
use Rattle.std.proofs.lemmas.Bool.{cases_lt}
use Rattle.std.proofs.lemmas.List.Sums.{sum_by-cons}
use Rattle.std.proofs.lemmas.Option.{same_Some}
use Rattle.wgsl_rules.specs.Types.{Ty}
use Rattle.wgsl_nodes.specs.HostTypes.{has_nodes}
use Rattle.wgsl_nodes.specs.Nodes.{Stands, LeadsTo, Describes}
use Rattle.wgsl_nodes.specs.Tables.{children_counted}
use Rattle.wgsl_nodes.specs.Making.{IsTyped, empty_node}
use Rattle.wgsl_nodes.specs.declared.nodes.Node.{Node}
use Rattle.wgsl_nodes.proofs.Growing.{KeepsFrom, keeps-later, leads-kept, leads-lower}

-- ---- types

pub typed-either : (nodes : List Node) (number n : ℕ) → (number < n → IsTyped nodes number) → (n ≤ number → IsTyped nodes number) → IsTyped nodes number
typed-either nodes number n below behind = by (cases_lt number n)
  where
    by : (number < n) ⊎ (n ≤ number) → IsTyped nodes number
    by (inl lt) = below lt
    by (inr le) = behind le

pub stands-typed : (nodes : List Node) (number offset : ℕ) (t : Ty) → has_nodes t ≡ true → Stands nodes number offset t (λ c. LeadsTo nodes (number + 1) c t) → IsTyped nodes number
stands-typed nodes number offset t host s = record {
  ty = t;
  host = host;
  is = record { node = s.node; there = s.there; describes = record { says = s.says; leads = s.leads } };
}

pub typed-kept : (nodes now : List Node) (number : ℕ) → KeepsFrom number nodes now → IsTyped nodes number → IsTyped now number
typed-kept nodes now number keeps typed =
    let own = typed.is in
    record {
      ty = typed.ty;
      host = typed.host;
      is = record {
        node = own.node;
        there = keeps.get number own.node (omega arith) own.there;
        describes = record {
          says = own.describes.says;
          leads = leads-kept nodes now (number + 1) own.node.child typed.ty (keeps-later number (number + 1) nodes now (omega arith) keeps) own.describes.leads;
        };
      };
    }

-- the record of the number is of a type that has a table, and what it leads to stands at `low` or behind
pub record IsTypedFrom (nodes : List Node) (low number : ℕ) : Type 0 where
  pub ty : Ty
  pub host : has_nodes ty ≡ true
  pub node : Node
  pub there : slice_get nodes number ≡ Some node
  pub describes : Describes nodes low node ty

pub from-kept : (nodes now : List Node) (low number : ℕ) → ((r : Node) → slice_get nodes number ≡ Some r → slice_get now number ≡ Some r) → KeepsFrom low nodes now → IsTypedFrom nodes low number → IsTypedFrom now low number
from-kept nodes now low number own keeps typed = record {
  ty = typed.ty;
  host = typed.host;
  node = typed.node;
  there = own typed.node typed.there;
  describes = record { says = typed.describes.says; leads = leads-kept nodes now low typed.node.child typed.ty keeps typed.describes.leads };
}

pub typed-from : (nodes : List Node) (low number : ℕ) → number < low → IsTypedFrom nodes low number → IsTyped nodes number
typed-from nodes low number lt typed = record {
  ty = typed.ty;
  host = typed.host;
  is = record {
    node = typed.node;
    there = typed.there;
    describes = record { says = typed.describes.says; leads = leads-lower nodes low (number + 1) typed.node.child typed.ty (omega arith) typed.describes.leads };
  };
}

-- ---- children

-- another record in the place of one
pub children-set : (xs : List Node) (i : ℕ) (x y : Node) → slice_get xs i ≡ Some x → sum_by children_counted (slice_set xs i y) + children_counted x ≡ sum_by children_counted xs + children_counted y
children-set [] i x y h = absurd (cc)
children-set (z ∷ xs) zero x y h = omega (arith, sum_by-cons children_counted y xs, sum_by-cons children_counted z xs, ap children_counted (same_Some z x h))
children-set (z ∷ xs) (suc i) x y h = omega (arith, sum_by-cons children_counted z (slice_set xs i y), sum_by-cons children_counted z xs, children-set xs i x y h)

pub no-children : (r : Node) → r.sort ≡ 0 → children_counted r ≡ 0
no-children r e = rw e refl

pub one-child : (r : Node) (s : ℕ) → r.sort ≡ s → nat_eq s 4 ≡ false → nat_eq s 0 ≡ false → children_counted r ≡ 1
one-child r s e p q = pick (nat_eq r.sort 4) (nat_eq r.sort 0) (ap (λ (k : ℕ). nat_eq k 4) e ∙ p) (ap (λ (k : ℕ). nat_eq k 0) e ∙ q)
  where
    pick : (b c : Bool) → b ≡ false → c ≡ false → (if b then r.count else (if c then 0 else 1)) ≡ 1
    pick b c e f = rw (e, f) refl

-- ---- members

-- of a table that has grown by places for members, those below `i` are filled, and what they lead to stands behind
pub record AreFilled (before nodes : List Node) (child low i : ℕ) : Type 0 where
  pub empty : (k : ℕ) → child + i ≤ k → k < low → slice_get nodes k ≡ Some empty_node
  pub filled : (k : ℕ) → child ≤ k → k < child + i → IsTypedFrom nodes low k
  pub behind : (k : ℕ) → low ≤ k → k < length nodes → IsTyped nodes k
  pub children : sum_by children_counted nodes + low ≡ sum_by children_counted before + length nodes

pub filled-each : (before nodes : List Node) (child low i : ℕ) → AreFilled before nodes child low i → child ≡ length before → low ≤ child + i → (number : ℕ) → length before ≤ number → number < length nodes → IsTyped nodes number
filled-each before nodes child low i filled at all = λ number le lt.
    typed-either nodes number low (λ h. typed-from nodes low number h (filled.filled number (omega arith) (omega arith))) (λ h. filled.behind number h lt)
