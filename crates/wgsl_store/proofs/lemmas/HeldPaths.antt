-- A value is held where what stands at its paths is kept.
use Rattle.std.proofs.Common.{◌≡◌, ◌⊎◌, ℕ, zero, suc, List, [], ◌∷◌, Option, Some, option_and_then, refl}
use mathlib.Core.Logic.{inl, inr}
use Rattle.wgsl_rules.specs.Values.{Reference, Val, record_of, array_of, vector, matrix, pointer, reference, Vals, no_vals, val, item}
use Rattle.wgsl_rules.specs.Paths.{value_at}
use Rattle.wgsl_store.specs.Memory.{IsKept, AllKept, references, references_in, HoldsValue}
use Rattle.wgsl_store.specs.MemoryLaws.{AValueIsHeldByItsPaths}
use Rattle.wgsl_store.proofs.lemmas.Held.{kept-at}
use Rattle.wgsl_store.proofs.lemmas.Sound.{kept-append}

-- what is so of what stands at each path, `at p` being what stands at p
abbrev IsKeptAt : List Val → (List ℕ → Option Val) → Type 0
IsKeptAt cells at = (p : List ℕ) (r : Reference) → (at p ≡ Some (reference r)) ⊎ (at p ≡ Some (pointer r)) → IsKept cells r

mutual
  held-whole : (cells : List Val) (v : Val) → IsKeptAt cells (λ p. value_at p v) → AllKept cells (references v)
  held-whole cells (pointer r) h = (h [] r (inr refl), tt)
  held-whole cells (reference r) h = (h [] r (inl refl), tt)
  held-whole cells (record_of t vs) h = held-parts cells vs (λ i p r e. h (i ∷ p) r e)
  held-whole cells (array_of runtime vs) h = held-parts cells vs (λ i p r e. h (i ∷ p) r e)
  held-whole cells (vector vs) h = held-parts cells vs (λ i p r e. h (i ∷ p) r e)
  held-whole cells (matrix vs) h = held-parts cells vs (λ i p r e. h (i ∷ p) r e)
  held-whole cells v h = tt

  held-parts : (cells : List Val) (vs : Vals) → ((i : ℕ) → IsKeptAt cells (λ p. option_and_then (value_at p) (item i vs))) → AllKept cells (references_in vs)
  held-parts cells no_vals h = tt
  held-parts cells (val v vs) h =
      kept-append cells (references v) (references_in vs) (held-whole cells v (λ p r e. h zero p r e)) (held-parts cells vs (λ i p r e. h (suc i) p r e))

kept-there : (cells : List Val) (v : Val) → HoldsValue cells v → IsKeptAt cells (λ p. value_at p v)
kept-there cells v h p r (inl e) = (kept-at cells p v (reference r) h e).0
kept-there cells v h p r (inr e) = (kept-at cells p v (pointer r) h e).0

pub held-by-paths : AValueIsHeldByItsPaths
held-by-paths cells v = (kept-there cells v, held-whole cells v)
