use Rattle.std.proofs.Common.{◌||◌, false}
use Rattle.wgsl_value_builtins.proofs.SoFar.{HasJoined}
use Rattle.wgsl_value_builtins.proofs.logical.any_of.Given as goal

abbrev pub invariant-loop-value : goal.invariant-loop-value
invariant-loop-value l = HasJoined ◌||◌ false l.bools l.value-index l.any
