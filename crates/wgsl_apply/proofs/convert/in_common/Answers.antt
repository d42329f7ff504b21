use Rattle.std.proofs.Common.{refl, Vec, Global}
use Rattle.wgsl_values.specs.View.{value_of}
use Rattle.wgsl_values.specs.declared.instance.Instance.{Instance}
use Rattle.wgsl_apply.proofs.Conversions.{ok-storable, ok-many}
use Rattle.wgsl_apply.proofs.convert.in_common.Goals as goal

pub returns-then-are_storable-clause-some : goal.returns-then-are_storable-clause-some
returns-then-are_storable-clause-some c =
    ok-storable value_of (λ (v : Vec Instance Global). v.items) c.args.values.now c.convert_all.result c.convert_all.ensures.value (c.if-are_storable.ensures.0 refl)

pub returns-then-are_storable-clause-count : goal.returns-then-are_storable-clause-count
returns-then-are_storable-clause-count c =
    ok-many value_of (λ (v : Vec Instance Global). v.items) c.args.values.now c.convert_all.result c.convert_all.ensures.value (c.if-are_storable.ensures.0 refl)
