use Rattle.std.proofs.Common.{rules, ◌≡◌, Some}
use Rattle.wgsl_rules.proofs.lemmas.Converted.{converted-well_formed}
use Rattle.wgsl_rules.specs.Converted.{converted}
use Rattle.wgsl_rules.specs.View.{type_view}
use Rattle.wgsl_values.specs.View.{value_of}
use Rattle.wgsl_value_builtins.proofs.numeric.in_type.Goals as goal

pub returns-in-Some-clause-well_formed : goal.returns-in-Some-clause-well_formed
returns-in-Some-clause-well_formed c =
    let e : converted (value_of c.args.value.now) (type_view c.args.ty.now) ≡ Some (value_of c.in-Some.converted) = search rules in
    converted-well_formed (value_of c.args.value.now) (value_of c.in-Some.converted) (type_view c.args.ty.now) c.requires e
