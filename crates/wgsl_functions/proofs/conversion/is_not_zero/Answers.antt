use Rattle.std.proofs.Common.{◌≡◌, Some, refl, ap, ◌∙◌}
use Rattle.wgsl_apply.specs.Zeros.{zero_scalar}
use Rattle.wgsl_rules.specs.Values.{type_of}
use Rattle.wgsl_scalar.specs.Literals.{literal_of}
use Rattle.wgsl_functions.proofs.Differs.{answered, differs_from_zero}
use Rattle.wgsl_functions.proofs.conversion.is_not_zero.Goals as goal

pub returns : goal.returns
returns c =
    let zero : Some (literal_of c.in_ok-zero.zero) ≡ zero_scalar (type_of (literal_of c.args.literal)) = c.in_ok-zero.ensures.value ∙ ap zero_scalar c.literal_ty.ensures.value in
    let differs = differs_from_zero c.args.literal (literal_of c.in_ok-zero.zero) c.literal_ty.ensures.in_kind zero in
    let given = answered _ _ c.op_ne.result c.op_ne.ensures differs in
    rw c.ok.ensures.value (rw given refl)
