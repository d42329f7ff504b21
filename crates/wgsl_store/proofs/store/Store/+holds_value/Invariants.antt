use Rattle.std.proofs.Common.{◌+◌, ◌*◌}
use Rattle.wgsl_rules.specs.Paths.{parts}
use Rattle.wgsl_values.specs.View.{value_of}
use Rattle.wgsl_values.proofs.lemmas.Nodes.{nodes}
use Rattle.wgsl_store.proofs.KeptParts.{RestTells}
use Rattle.wgsl_store.proofs.store.Store.+holds_value.Given as goal

abbrev pub decreases-holds_value : goal.decreases-holds_value
decreases-holds_value l = 2 * nodes (value_of l.value.now) + 1

abbrev pub decreases-holds_parts : goal.decreases-holds_parts
decreases-holds_parts l = 2 * nodes (value_of l.value.now)

abbrev pub invariant-holds_parts-loop-i : goal.invariant-holds_parts-loop-i
invariant-holds_parts-loop-i l = RestTells l.self l.i (parts (value_of l.value))
