use Rattle.std.proofs.Common.{◌≤◌, vec_len}
use Rattle.wgsl_script.proofs.input.read_input.Given as goal

-- no more than the limit is kept
abbrev pub invariant-loop : goal.invariant-loop
invariant-loop g l = vec_len l.input ≤ 1_048_576
