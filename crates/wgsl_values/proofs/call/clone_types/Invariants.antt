use Rattle.std.proofs.Common.{◌≡◌, take, map}
use Rattle.wgsl_rules.specs.View.{type_view}
use Rattle.wgsl_values.proofs.call.clone_types.Given as goal

abbrev pub invariant-loop-ty : goal.invariant-loop-ty
invariant-loop-ty l = map type_view l.copies.items ≡ map type_view (take l.ty-index l.ty-items)
