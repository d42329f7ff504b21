use Rattle.wgsl_values.specs.View.{reference_of}
use Rattle.wgsl_places.proofs.MemoryRows.{IsPartly}
use Rattle.wgsl_places.proofs.memory.put_row.Given as goal

abbrev pub invariant-loop-i : goal.invariant-loop-i
invariant-loop-i l = IsPartly l.initial.store l.store (reference_of l.reference) l.at l.width l.numbers l.i
