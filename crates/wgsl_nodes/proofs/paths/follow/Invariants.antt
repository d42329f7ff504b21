use Rattle.std.proofs.Common.{Option, length}
use Rattle.wgsl_nodes.specs.Paths.{IsLed}
use Rattle.wgsl_nodes.specs.declared.places.Place.{Place}
use Rattle.wgsl_nodes.proofs.paths.follow.Given as goal

abbrev pub invariant-loop-rest : goal.invariant-loop-rest
invariant-loop-rest l = (r : Option Place) → IsLed l.nodes l.names l.len l.place l.rest r → IsLed l.nodes l.names l.len l.fn.start l.fn.text r

abbrev pub decreases-loop-rest : goal.decreases-loop-rest
decreases-loop-rest l = length l.rest
