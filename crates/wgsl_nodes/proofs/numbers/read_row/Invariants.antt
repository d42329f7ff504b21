use Rattle.std.proofs.Common.{◌≡◌, ◌++◌, drop}
use Rattle.wgsl_nodes.specs.Numbers.{numbers_at}
use Rattle.wgsl_nodes.proofs.numbers.read_row.Given as goal

abbrev pub invariant-loop-i : goal.invariant-loop-i
invariant-loop-i l = l.out ≡ numbers_at l.bytes l.at l.width l.i ++ drop l.i l.initial.out
