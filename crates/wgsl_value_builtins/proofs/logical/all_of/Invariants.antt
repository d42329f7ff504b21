use Rattle.std.proofs.Common.{◌&&◌, true}
use Rattle.wgsl_value_builtins.proofs.SoFar.{HasJoined}
use Rattle.wgsl_value_builtins.proofs.logical.all_of.Given as goal

abbrev pub invariant-loop-value : goal.invariant-loop-value
invariant-loop-value l = HasJoined ◌&&◌ true l.bools l.value-index l.all
