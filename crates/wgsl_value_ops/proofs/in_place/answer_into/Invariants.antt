use Rattle.std.proofs.Common.{◌≡◌, length, map, take}
use Rattle.wgsl_value_ops.proofs.Answering.{IsSoFar}
use Rattle.wgsl_value_ops.specs.Closures.{AnswersAt}
use Rattle.wgsl_scalar.specs.Literals.{literal_of}
use Rattle.wgsl_values.specs.View.{value_of}
use Rattle.wgsl_value_ops.proofs.in_place.answer_into.Given as goal

abbrev pub invariant-loop-i : goal.invariant-loop-i
invariant-loop-i g l = record {
  so_far : IsSoFar (AnswersAt g.F.Fn l.f) (map value_of l.values) l.i (map literal_of (take l.i l.answers));
  long : length l.answers ≡ 4;
}
