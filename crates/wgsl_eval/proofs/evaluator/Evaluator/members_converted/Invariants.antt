use Rattle.std.proofs.Common.{◌≡◌, Some, length, map, take}
use Rattle.wgsl_rules.specs.View.{members_view}
use Rattle.wgsl_values.specs.View.{value_of}
use Rattle.wgsl_eval.specs.Answers.{AreSound}
use Rattle.wgsl_eval.specs.Constructors.{members_made}
use Rattle.wgsl_eval.proofs.evaluator.Evaluator.members_converted.Given as goal

abbrev pub invariant-loop-i : goal.invariant-loop-i
invariant-loop-i l = record {
  counted : length l.values ≡ length l.members;
  converted : members_made (members_view (take l.i l.members)) (map value_of (take l.i l.values)) ≡ Some (map value_of l.converted.items);
  sound : AreSound l.converted.items;
}
