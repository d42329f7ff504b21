use Rattle.std.proofs.Common.{◌≡◌, ◌∙◌, ◌<◌, ℕ, Option, Some, None, true, false, Bool, ap, sym, subst, arith}
use Rattle.std.specs.Prelude.{IfOk}
use Rattle.wgsl_rules.specs.Paths.{parts}
use Rattle.wgsl_rules.specs.Types.{Ty, array}
use Rattle.wgsl_rules.specs.Values.{type_of, first_type, count, array_type}
use Rattle.wgsl_layout.specs.TypePlan.{IsPlanOf}
use Rattle.wgsl_values.specs.View.{value_of, array_view, vals_view}
use Rattle.wgsl_values.specs.Parts.{is_runtime_sized}
use Rattle.wgsl_values.specs.declared.array.ArrayInstance.{ArrayInstance}
use Rattle.wgsl_values.specs.declared.instance.Instance.{Instance}
use Rattle.wgsl_values.proofs.lemmas.Views.{value_of-Array, array_view-is}
use Rattle.wgsl_values.proofs.lemmas.Nodes.{nodes}
use Rattle.wgsl_layout.proofs.Making.{first-element}
use Rattle.wgsl_layout.proofs.make.TypePlan.+of_value.Goals as goal
use Rattle.wgsl_layout.proofs.make.TypePlan.+of_value.Goals.{then-runtime_sized, else-runtime_sized}

pub of_value-requires : goal.of_value-requires
of_value-requires t c =
    let a = c.in-Array.a in
    let same = rw array_view-is at c.as_slice.ensures in
    let storable = rw (c.in-Array.is, value_of-Array, array_view-is, ← same) at c.requires in
    let first = first-element a.runtime_sized c.as_slice.result.now c.index-as_slice-0.result c.index-as_slice-0.is storable in
    let smaller : nodes (value_of c.index-as_slice-0.result) < nodes (value_of c.args.value.now) = rw (c.in-Array.is, value_of-Array, array_view-is, ← same) first.smaller in
    (omega (arith, smaller, c.decreases), first.storable)

-- the count that the type of an array carries
some-count : (a : ArrayInstance) (n : Option ℕ) (k : ℕ) (b : Bool) → b ≡ is_runtime_sized (array_view a) → b ≡ false → k ≡ count (parts (array_view a)) → n ≡ Some k → type_of (array_view a) ≡ array (first_type (parts (array_view a))) n
some-count a n k b is fixed_is many e =
    rw (array_view-is a) (let fixed = rw (array_view-is a) at is in let all = rw (array_view-is a) at many in
    ap (λ (r : Bool). array_type r (first_type (vals_view a.components.items)) (count (vals_view a.components.items))) (sym fixed ∙ fixed_is) ∙ ap (array (first_type (vals_view a.components.items))) (ap (λ (m : ℕ). Some m) (sym all) ∙ sym e))

no-count : (a : ArrayInstance) (n : Option ℕ) (b : Bool) → b ≡ is_runtime_sized (array_view a) → b ≡ true → n ≡ None → type_of (array_view a) ≡ array (first_type (parts (array_view a))) n
no-count a n b is runtime_is e =
    rw (array_view-is a) (let runtime = rw (array_view-is a) at is in
    ap (λ (r : Bool). array_type r (first_type (vals_view a.components.items)) (count (vals_view a.components.items))) (sym runtime ∙ runtime_is) ∙ ap (array (first_type (vals_view a.components.items))) (sym e))

pub returns-in_ok-of_value-in-Array : goal.returns-in_ok-of_value-in-Array
returns-in_ok-of_value-in-Array t c =
    let a = c.in-Array.a in
    let same = rw array_view-is at c.as_slice.ensures in
    let storable = rw (c.in-Array.is, value_of-Array, array_view-is, ← same) at c.requires in
    let first = first-element a.runtime_sized c.as_slice.result.now c.index-as_slice-0.result c.index-as_slice-0.is storable in
    let made = c.of_array.ensures (type_of (value_of c.index-as_slice-0.result)) c.in_ok-of_value-in-Array.ensures in
    let counted : type_of (array_view a) ≡ array (first_type (parts (array_view a))) c.if-runtime_sized.n =
    elim c.if-runtime_sized.branch [
      | then-runtime_sized w ↦ no-count a c.if-runtime_sized.n c.runtime_sized.result c.runtime_sized.ensures w.if-runtime_sized.true w.n-is
      | else-runtime_sized w ↦ some-count a c.if-runtime_sized.n w.n.result c.runtime_sized.result c.runtime_sized.ensures w.if-runtime_sized.false w.n.ensures w.n-is
    ] in
    let element : first_type (parts (array_view a)) ≡ type_of (value_of c.index-as_slice-0.result) = ap first_type (sym c.as_slice.ensures) ∙ sym first.typed in
    let typed : type_of (value_of c.args.value.now) ≡ array (type_of (value_of c.index-as_slice-0.result)) c.if-runtime_sized.n =
    ap (λ (x : Instance). type_of (value_of x)) c.in-Array.is ∙ ap type_of (value_of-Array a) ∙ counted ∙ ap (λ (u : Ty). array u c.if-runtime_sized.n) element in
    subst (λ (u : Ty). IfOk c.of_array.result (IsPlanOf u)) (sym typed) made
