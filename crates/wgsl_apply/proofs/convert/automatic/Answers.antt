use Rattle.std.proofs.Common.{refl}
use Rattle.wgsl_rules.specs.View.{type_view}
use Rattle.wgsl_values.specs.View.{value_of}
use Rattle.wgsl_apply.proofs.Conversions.{ok-converted}
use Rattle.wgsl_apply.proofs.convert.automatic.Goals as goal

pub returns-then-is_storable-clause-some : goal.returns-then-is_storable-clause-some
returns-then-is_storable-clause-some c =
    ok-converted value_of c.convert_to.result (value_of c.args.value.now) (type_view c.args.ty.now) c.convert_to.ensures (c.if-is_storable.ensures.0 refl)
