use Rattle.wgsl_values.proofs.lemmas.Nodes.{nodes}
use Rattle.wgsl_values.specs.View.{value_of}
use Rattle.wgsl_layout.proofs.make.TypePlan.+of_value.Given as goal

abbrev pub decreases-of_value : goal.decreases-of_value
decreases-of_value l = nodes (value_of l.value.now)
