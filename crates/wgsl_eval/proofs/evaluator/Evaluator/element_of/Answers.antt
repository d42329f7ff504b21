use Rattle.std.proofs.Common.{[], ◌∷◌}
use Rattle.wgsl_rules.specs.Values.{index}
use Rattle.wgsl_values.proofs.lemmas.Steps.{viewed-storable}
use Rattle.wgsl_values.specs.View.{value_of}
use Rattle.wgsl_eval.proofs.evaluator.Evaluator.element_of.Goals as goal

pub part_answer-requires : goal.part_answer-requires
part_answer-requires c =
    viewed-storable (index c.args.at ∷ []) (value_of c.args.whole.now) (value_of c.in-Some.element.now) c.requires c.in-Some.ensures
