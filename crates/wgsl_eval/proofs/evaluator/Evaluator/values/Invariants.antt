use Rattle.std.proofs.Common.{◌≡◌, ◌++◌, Some, map}
use Rattle.std.specs.Vec.Iter.{into_iter_items}
use Rattle.wgsl_values.specs.View.{value_of}
use Rattle.wgsl_eval.specs.Answers.{AreSound}
use Rattle.wgsl_eval.specs.Calls.{values_of}
use Rattle.wgsl_eval.proofs.evaluator.Evaluator.values.Given as goal

abbrev pub invariant-loop-argument : goal.invariant-loop-argument
invariant-loop-argument l = record {
  all : l.yielded ++ into_iter_items l.argument-iterator ≡ l.fn.arguments.items;
  values : values_of l.yielded ≡ Some (map value_of l.values.items);
  sound : AreSound l.values.items;
}
