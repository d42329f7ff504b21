-- A view has a path, at which the value stands that it leads to.
use Rattle.std.proofs.Common.{◌≡◌, ℕ, List, Option, Some, None, Ok, Err, refl, ap, ◌∙◌}
use Rattle.std.specs.Prelude.{IsSomeAnd, MatchResult}
use Rattle.wgsl_rules.specs.Values.{Step, Val}
use Rattle.wgsl_rules.specs.Refusals.{Outcome}
use Rattle.wgsl_rules.specs.Paths.{value_at, path_of, viewed}
use Rattle.wgsl_rules.proofs.lemmas.Paths.{view-leads}

pub record HasPath (steps : List Step) (x y : Val) : Type 0 where
  pub path : List ℕ
  pub there : path_of steps x ≡ Ok path
  pub stands : value_at path x ≡ Some y

pub has-path : (steps : List Step) (x y : Val) → viewed steps x ≡ Ok y → HasPath steps x y
has-path steps x y e = by (path_of steps x) refl (view-leads steps x)
  where
    at : (o : Option Val) (q : List ℕ) → value_at q x ≡ o → IsSomeAnd o (λ z. viewed steps x ≡ Ok z) → value_at q x ≡ Some y
    at None q is h = absurd h
    at (Some z) q is h = let same : z ≡ y = cc in is ∙ ap Some same

    by : (o : Outcome (List ℕ)) → path_of steps x ≡ o → MatchResult o (λ p. IsSomeAnd (value_at p x) (λ z. viewed steps x ≡ Ok z)) (λ r. viewed steps x ≡ Err r) → HasPath steps x y
    by (Ok p) is h = record { path = p; there = is; stands = at (value_at p x) p refl h }
    by (Err r) is h = absurd (cc)
