use Rattle.std.proofs.Common.{◌≡◌, ◌++◌, take, drop}
use Rattle.std.specs.Prelude.{position}
use Rattle.wgsl_interface.specs.Bindings.{firsts, firsts_behind, is_same}
use Rattle.wgsl_interface.specs.FirstNumbers.{number_at}
use Rattle.wgsl_interface.specs.declared.bindings.Binding.{Binding}
use Rattle.wgsl_interface.proofs.bindings.first_at_binding.Given as goal

abbrev pub invariant-loop-i : goal.invariant-loop-i
invariant-loop-i l = record {
  found : l.found.items ++ firsts_behind (take l.i l.bindings) (drop l.i l.bindings) ≡ firsts l.bindings;
  firsts : (x : Binding) → number_at l.firsts x ≡ position (is_same x) (take l.i l.bindings);
}
