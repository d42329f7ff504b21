use Rattle.wgsl_rules.specs.Values.{type_of}
use Rattle.wgsl_store.specs.Cells.{IsPart, part_value}
use Rattle.wgsl_values.specs.View.{reference_of}
use Rattle.wgsl_store.proofs.LoadsRead.{LoadsOn, reference_depth}
use Rattle.wgsl_store.proofs.loads.load.Given as goal

abbrev pub invariant-loop-next : goal.invariant-loop-next
invariant-loop-next l = LoadsOn l.store (reference_of l.fn.reference) (part_value l.part) × IsPart l.part

abbrev pub decreases-loop-next : goal.decreases-loop-next
decreases-loop-next l = reference_depth (type_of (part_value l.part))
