use Rattle.std.proofs.Common.{◌≡◌, Some, map, take}
use Rattle.wgsl_rules.specs.Converted.{converted}
use Rattle.wgsl_rules.specs.View.{type_view}
use Rattle.wgsl_values.specs.View.{value_of}
use Rattle.wgsl_eval.specs.Answers.{AreSound}
use Rattle.wgsl_eval.specs.Lists.{each_of}
use Rattle.wgsl_eval.proofs.evaluator.Evaluator.each_converted.Given as goal

abbrev pub invariant-loop-value : goal.invariant-loop-value
invariant-loop-value l = record {
  converted : each_of (λ v. converted (value_of v) (type_view l.ty)) (take l.value-index l.values) ≡ Some (map value_of l.converted.items);
  sound : AreSound l.converted.items;
}
