-- How many parts a composite has, and which.
use Rattle.std.proofs.Common.{◌≡◌, ℕ, ◌<◌, get_or, Some, arith, ap, sym, ◌∙◌, vec_len}
use Rattle.wgsl_rules.specs.Paths.{parts}
use Rattle.wgsl_rules.specs.Values.{count, item}
use Rattle.wgsl_values.specs.View.{value_of, array_view, mat_view, vec_view}
use Rattle.wgsl_values.specs.declared.instance.Instance.{Instance}
use Rattle.wgsl_values.specs.declared.array.ArrayInstance.{ArrayInstance}
use Rattle.wgsl_values.specs.declared.matrix.MatInstance.{MatInstance}
use Rattle.wgsl_values.specs.declared.vector.VecInstance.{VecInstance}
use Rattle.wgsl_values.proofs.lemmas.Views.{array_view-is, mat_view-is, vec_view-is, count-vals_view, item_within}

pub elements_counted : (a : ArrayInstance) (n : ℕ) → n ≡ vec_len a.components → n ≡ count (parts (array_view a))
elements_counted a n e = rw (array_view-is a) (e ∙ a.components.ok.0 ∙ sym (count-vals_view a.components.items))

pub components_counted : (v : VecInstance) (n : ℕ) → n ≡ vec_len v.components → n ≡ count (parts (vec_view v))
components_counted v n e = rw (vec_view-is v) (e ∙ v.components.ok.0 ∙ sym (count-vals_view v.components.items))

pub columns_counted : (m : MatInstance) (n : ℕ) → n ≡ vec_len m.columns → n ≡ count (parts (mat_view m))
columns_counted m n e = rw (mat_view-is m) (e ∙ m.columns.ok.0 ∙ sym (count-vals_view m.columns.items))

pub component_there : (v : VecInstance) (i : ℕ) (x : Instance) → i < vec_len v.components → x ≡ get_or v.components.items i x → item i (parts (vec_view v)) ≡ Some (value_of x)
component_there v i x l e =
    rw (vec_view-is v) (sym (item_within v.components.items i x (omega (arith, v.components.ok.0))) ∙ ap (λ (y : Instance). Some (value_of y)) (sym e))
