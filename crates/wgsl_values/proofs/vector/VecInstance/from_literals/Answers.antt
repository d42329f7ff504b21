use Rattle.std.proofs.Common.{ap, ◌∙◌}
use Rattle.wgsl_rules.specs.Values.{vector}
use Rattle.wgsl_values.specs.View.{vals_view}
use Rattle.wgsl_values.proofs.Made.{vals_view-literals}
use Rattle.wgsl_values.proofs.lemmas.Views.{vec_view-is}
use Rattle.wgsl_values.proofs.vector.VecInstance.from_literals.Goals as goal

pub returns : goal.returns
returns c =
    vec_view-is _ ∙ ap vector (ap vals_view c.in_ok-components.ensures ∙ vals_view-literals c.args.literals.now)
