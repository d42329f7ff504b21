use Rattle.std.proofs.Common.{◌≡◌, ◌≢◌, suc, List, [], ◌∷◌, length, true, false, refl, ap}
use Rattle.wgsl_values.specs.Same.{same_value, same_values}
use Rattle.wgsl_values.specs.View.{value_of, vals_view}
use Rattle.wgsl_values.specs.declared.instance.Instance.{Instance}
use Rattle.wgsl_values.proofs.+same.Goals as goal
use Rattle.wgsl_rules.proofs.lemmas.Tests.{and_false}

same_values-lengths : (a b : List Instance) → length a ≢ length b → false ≡ same_values (vals_view a) (vals_view b)
same_values-lengths [] [] h = absurd (h refl)
same_values-lengths [] (y ∷ ys) h = refl
same_values-lengths (x ∷ xs) [] h = refl
same_values-lengths (x ∷ xs) (y ∷ ys) h =
    and_false (same_value (value_of x) (value_of y)) _ (same_values-lengths xs ys (λ e. h (ap suc e)))

pub lists::same_parts-returns-then-a-b : goal.lists::same_parts-returns-then-a-b
lists::same_parts-returns-then-a-b t c = same_values-lengths _ _ c.if-a-b.true
