use Rattle.std.proofs.Common.{◌≡◌, ◌≤◌, ◌+◌, ◌-◌, map, vec_len}
use Rattle.wgsl_rules.specs.View.{fields_of, member_view}
use Rattle.wgsl_eval.specs.Evaluators.{setting_of}
use Rattle.wgsl_eval.specs.Lists.{AllFrom}
use Rattle.wgsl_eval.specs.Reasons.{have_floats}
use Rattle.wgsl_eval.specs.Structures.{IsMemberAt}
use Rattle.wgsl_eval.proofs.evaluator.Evaluator.structure.Given as goal

abbrev pub invariant-loop-number : goal.invariant-loop-number
invariant-loop-number l = record {
  keeps : setting_of l.self ≡ setting_of l.fn.self;
  count : l.first + vec_len l.members ≡ l.number;
  within : l.number ≤ l.first + (l.end - l.first);
  members : AllFrom (IsMemberAt (setting_of l.fn.self)) l.first (map member_view l.members.items);
  floats : l.together.has_float ≡ have_floats (fields_of (map member_view l.members.items));
}
