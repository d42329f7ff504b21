-- How many values are in a value: each part has fewer, so recursions down a value end.
use Rattle.std.proofs.Common.{◌≡◌, ℕ, zero, suc, ◌+◌, ◌<◌, Some, arith}
use Rattle.wgsl_rules.specs.Values.{Val, record_of, array_of, vector, matrix, atomic_of, Vals, no_vals, val, item}
use Rattle.wgsl_rules.specs.Paths.{parts}

abbrev mutual
  -- the value itself, its parts and what it holds
  pub nodes : Val → ℕ
  nodes (record_of t vs) = suc (all_nodes vs)
  nodes (array_of runtime vs) = suc (all_nodes vs)
  nodes (vector vs) = suc (all_nodes vs)
  nodes (matrix vs) = suc (all_nodes vs)
  nodes (atomic_of v) = suc (nodes v)
  nodes v = 1

  pub all_nodes : Vals → ℕ
  all_nodes no_vals = 0
  all_nodes (val v vs) = nodes v + all_nodes vs

item-nodes : (i : ℕ) (vs : Vals) (x : Val) → item i vs ≡ Some x → nodes x < suc (all_nodes vs)
item-nodes i no_vals x e = absurd (cc)
item-nodes zero (val v vs) x e = let same : v ≡ x = cc in rw (← same) (omega arith)
item-nodes (suc i) (val v vs) x e = omega (arith, item-nodes i vs x e)

-- a part has fewer than the whole
pub part-smaller : (i : ℕ) (v x : Val) → item i (parts v) ≡ Some x → nodes x < nodes v
part-smaller i (record_of t vs) x e = item-nodes i vs x e
part-smaller i (array_of runtime vs) x e = item-nodes i vs x e
part-smaller i (vector vs) x e = item-nodes i vs x e
part-smaller i (matrix vs) x e = item-nodes i vs x e
part-smaller i v x e = absurd (cc)

-- and what an atomic holds fewer than the atomic
pub content-smaller : (x : Val) → nodes x < nodes (atomic_of x)
content-smaller x = omega arith
