use Rattle.std.proofs.Common.{◌≡◌, map, drop}
use Rattle.wgsl_rules.specs.Conversion.{common_type_with, common_type_of}
use Rattle.wgsl_rules.specs.View.{type_view}
use Rattle.wgsl_rules.proofs.conv.convert_all_ty.Given as goal

abbrev pub invariant-loop-ty : goal.invariant-loop-ty
invariant-loop-ty l =
    common_type_with (type_view l.common) (map type_view (drop l.ty-index l.rest)) ≡ common_type_of (map type_view l.types)
