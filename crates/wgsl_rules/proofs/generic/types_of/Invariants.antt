use Rattle.std.proofs.Common.{◌≡◌, map, take}
use Rattle.wgsl_rules.specs.Values.{type_of}
use Rattle.wgsl_rules.specs.View.{type_view}
use Rattle.wgsl_rules.proofs.generic.types_of.Given as goal

abbrev pub invariant-loop-value : goal.invariant-loop-value
invariant-loop-value g l = map type_view l.types.items ≡ map type_of (map g.T.Ty.value_of (take l.value-index l.values))
