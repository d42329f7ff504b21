use Rattle.std.proofs.Common.{All, take}
use Rattle.wgsl_rules.specs.Values.{IsStorable}
use Rattle.wgsl_values.specs.View.{value_of}
use Rattle.wgsl_apply.proofs.convert.are_storable.Given as goal

abbrev pub invariant-loop-value : goal.invariant-loop-value
invariant-loop-value l = All (λ v. IsStorable (value_of v)) (take l.value-index l.values)
