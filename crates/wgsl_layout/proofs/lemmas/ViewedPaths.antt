-- A view has a path, at which the value stands that it leads to.
use Rattle.std.proofs.Common.{◌≡◌, ℕ, List, Option, Some, None, Ok, Err, refl, ap, ◌∙◌, subst}
use Rattle.std.specs.Prelude.{IsSomeAnd, MatchResult}
use Rattle.wgsl_rules.specs.Values.{Step, Val}
use Rattle.wgsl_rules.specs.Refusals.{Outcome}
use Rattle.wgsl_rules.specs.Paths.{value_at, path_of, viewed}
use Rattle.wgsl_rules.proofs.lemmas.Paths.{view-leads}
pub use Rattle.wgsl_values.proofs.lemmas.ViewedPaths.{HasPath, has-path}

-- the value at the path of a view is what the view leads to
pub leads-to : (steps : List Step) (x y : Val) (p : List ℕ) → path_of steps x ≡ Ok p → value_at p x ≡ Some y → viewed steps x ≡ Ok y
leads-to steps x y p e is = at (value_at p x) refl (ok (path_of steps x) e (view-leads steps x))
  where
    ok : (o : Outcome (List ℕ)) → o ≡ Ok p → MatchResult o (λ q. IsSomeAnd (value_at q x) (λ z. viewed steps x ≡ Ok z)) (λ r. viewed steps x ≡ Err r) → IsSomeAnd (value_at p x) (λ z. viewed steps x ≡ Ok z)
    ok (Ok q) e h = let same : q ≡ p = cc in subst (λ (r : List ℕ). IsSomeAnd (value_at r x) (λ z. viewed steps x ≡ Ok z)) same h
    ok (Err r) e h = absurd (cc)

    at : (o : Option Val) → value_at p x ≡ o → IsSomeAnd o (λ z. viewed steps x ≡ Ok z) → viewed steps x ≡ Ok y
    at None i h = absurd h
    at (Some z) i h = let same : z ≡ y = cc in h ∙ ap Ok same
