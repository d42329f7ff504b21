use Rattle.std.proofs.Common.{◌≡◌, drop}
use Rattle.wgsl_nodes.specs.Paths.{value_after}
use Rattle.wgsl_nodes.proofs.paths.value_of.Given as goal

abbrev pub invariant-loop-b : goal.invariant-loop-b
invariant-loop-b l = value_after l.value (drop l.b-index l.digits) ≡ value_after 0 l.digits
