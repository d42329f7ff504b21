use Rattle.std.proofs.Common.{refl}
use Rattle.wgsl_rules.specs.Conversion.{concretized}
use Rattle.wgsl_rules.specs.Values.{type_of}
use Rattle.wgsl_values.specs.View.{value_of}
use Rattle.wgsl_apply.proofs.Conversions.{ok-converted}
use Rattle.wgsl_apply.proofs.convert.concrete.Goals as goal

pub returns-then-is_storable-clause-some : goal.returns-then-is_storable-clause-some
returns-then-is_storable-clause-some c =
    ok-converted value_of c.concretize.result (value_of c.args.value.now) (concretized (type_of (value_of c.args.value.now))) c.concretize.ensures (c.if-is_storable.ensures.0 refl)
