-- The places for the records of members, filled one after another.
use Rattle.std.proofs.Common.{◌≡◌, ℕ, zero, suc, ◌+◌, ◌<◌, ◌≤◌, List, [], ◌∷◌, ◌++◌, length, replicate, slice_get, slice_set, Some, inl, inr, refl, ap, ◌∙◌, subst, arith, length-append, sum_by}
use Rattle.std.specs.Prelude.{◌⊎◌}
use Rattle.std.proofs.Math.ListN.{length-set}
use Rattle.std.proofs.lemmas.Bool.{cases_lt}
use Rattle.std.proofs.lemmas.List.{length-replicate}
use Rattle.std.proofs.lemmas.List.Folds.{sum_by-replicate}
use Rattle.std.proofs.lemmas.List.Sums.{sum_by-append}
use Rattle.wgsl_rules.specs.Types.{Ty}
use Rattle.wgsl_rules.proofs.lemmas.Slices.{slice_get-append, slice_get-set_other}
use Rattle.wgsl_nodes.specs.Tables.{children_counted}
use Rattle.wgsl_nodes.specs.Making.{Keeps, IsAdded, empty_node}
use Rattle.wgsl_nodes.specs.declared.nodes.Node.{Node}
use Rattle.wgsl_nodes.proofs.Typed.{IsTypedFrom, from-kept, typed-kept, typed-either, children-set, AreFilled}
use Rattle.wgsl_nodes.proofs.Members.{member-stands}

-- ---- none yet

get-reserved : (xs : List Node) (n k : ℕ) → length xs ≤ k → k < length xs + n → slice_get (xs ++ replicate n empty_node) k ≡ Some empty_node
get-reserved [] zero k le lt = absurd (omega arith)
get-reserved [] (suc n) zero le lt = refl
get-reserved [] (suc n) (suc k) le lt = get-reserved [] n k (omega arith) (omega arith)
get-reserved (x ∷ xs) n zero le lt = absurd (omega arith)
get-reserved (x ∷ xs) n (suc k) le lt = get-reserved xs n k (omega arith) (omega arith)

reserved-long : (xs : List Node) (n : ℕ) → length (xs ++ replicate n empty_node) ≡ length xs + n
reserved-long xs n = omega (arith, length-append xs (replicate n empty_node), length-replicate n empty_node)

-- a table that has grown by the places
pub record IsReserved (before nodes : List Node) (child n : ℕ) : Type 0 where
  pub longer : child + n ≤ length nodes
  pub kept : Keeps before nodes
  pub filled : AreFilled before nodes child (child + n) 0

pub none-filled : (before nodes : List Node) (child n : ℕ) → nodes ≡ before ++ replicate n empty_node → child ≡ length before → IsReserved before nodes child n
none-filled before nodes child n is at =
    let long : length nodes ≡ length before + n = ap length is ∙ reserved-long before n in
    record {
      longer = omega arith;
      kept = λ k r e. ap (λ (xs : List Node). slice_get xs k) is ∙ slice_get-append before (replicate n empty_node) k r e;
      filled = record {
        empty = λ k le lt. ap (λ (xs : List Node). slice_get xs k) is ∙ get-reserved before n k (omega arith) (omega arith);
        filled = λ k le lt. absurd (omega arith);
        behind = λ k le lt. absurd (omega arith);
        children = omega (arith, ap (sum_by children_counted) is, sum_by-append children_counted before (replicate n empty_node), sum_by-replicate children_counted n empty_node);
      };
    }

-- ---- one more

pub filled-next : (before old grown : List Node) (child low i o : ℕ) (part : Node) (t : Ty) → AreFilled before old child low i → child + i < low → low ≤ length old → IsAdded old grown part t
    → AreFilled before (slice_set grown (child + i) (record part { offset = o })) child low (i + 1)
filled-next before old grown child low i o part t filled lt le added =
    let placed = record part { offset = o } in
    let now = slice_set grown (child + i) placed in
    let longer = added.longer in
    let others : (k : ℕ) (r : Node) → (k ≡ child + i → ⊥) → slice_get grown k ≡ Some r → slice_get now k ≡ Some r =
    λ k r apart e. slice_get-set_other grown (child + i) k placed apart ∙ e in
    let stands = member-stands old grown now (child + i) low o t part le lt added (record { below = λ k r h e. e; behind = λ k r h e. e }) in
    let counted = filled.children in
    let counted_more = added.children in
    record {
      empty = λ k h g. others k empty_node (λ same. omega arith) (added.kept k empty_node (filled.empty k (omega arith) g));
      filled = λ k h g. by now k (cases_lt k (child + i))
          (λ earlier. from-kept old now low k (λ r e. others k r (λ same. omega arith) (added.kept k r e)) (record { get = λ j r from e. others j r (λ same. omega arith) (added.kept j r e) }) (filled.filled k h earlier))
          (λ last. let e : child + i ≡ k = omega arith in subst (IsTypedFrom now low) e
          (record { ty = t; host = added.host; node = stands.node; there = stands.there; describes = record { says = stands.says; leads = stands.leads } }));
      behind = λ k h g. typed-either now k (length old)
          (λ earlier. typed-kept old now k (record { get = λ j r from e. others j r (λ same. omega arith) (added.kept j r e) }) (filled.behind k h earlier))
          (λ later. typed-kept grown now k (record { get = λ j r from e. others j r (λ same. omega arith) e }) (added.each k later (omega (arith, length-set grown (child + i) placed))));
      children =
          let empty = added.kept (child + i) empty_node (filled.empty (child + i) (omega arith) lt) in
          omega (arith, length-set grown (child + i) placed, children-set grown (child + i) empty_node placed empty);
    }
  where
    by : (now : List Node) (k : ℕ) → (k < child + i) ⊎ (child + i ≤ k) → (k < child + i → IsTypedFrom now low k) → (child + i ≤ k → IsTypedFrom now low k) → IsTypedFrom now low k
    by now k (inl earlier) f g = f earlier
    by now k (inr last) f g = g last
