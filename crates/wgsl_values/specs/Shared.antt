-- The structure type that a value has, alone or with others.
use Rattle.std.specs.Arc.{arc_value}
use Rattle.wgsl_rules.specs.Types.{Ty}
use Rattle.wgsl_rules.specs.View.{struct_view}
use Rattle.wgsl_values.specs.declared.shared.Owner.{Owner}
use Rattle.wgsl_values.specs.declared.shared.Owner.TheVariants.{Own, Shared}

abbrev pub owned_type : Owner → Ty
owned_type (Own t) = struct_view t
owned_type (Shared t) = struct_view (arc_value t)
