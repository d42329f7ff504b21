use Rattle.wgsl_values.specs.View.{value_of}
use Rattle.wgsl_values.proofs.lemmas.Nodes.{nodes}
use Rattle.wgsl_store.proofs.SamePaths.{RestsTell}
use Rattle.wgsl_store.proofs.parts.+have_same_paths.Given as goal

abbrev pub decreases-have_same_paths : goal.decreases-have_same_paths
decreases-have_same_paths l = nodes (value_of l.value.now)

abbrev pub invariant-loop-i : goal.invariant-loop-i
invariant-loop-i l = RestsTell l.i (value_of l.value) (value_of l.other)
