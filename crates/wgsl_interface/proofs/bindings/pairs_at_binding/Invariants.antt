use Rattle.std.proofs.Common.{◌≡◌, ◌++◌, take, drop}
use Rattle.std.specs.List.{find}
use Rattle.wgsl_interface.specs.Bindings.{pairs, pairs_behind, is_at}
use Rattle.wgsl_interface.specs.FirstNumbers.{number_at}
use Rattle.wgsl_interface.specs.declared.bindings.Binding.{Binding}
use Rattle.wgsl_interface.proofs.bindings.pairs_at_binding.Given as goal

abbrev pub invariant-loop-later : goal.invariant-loop-later
invariant-loop-later l = record {
  found : l.found.items ++ pairs_behind l.bindings (take l.later-index l.used) (drop l.later-index l.used) ≡ pairs l.bindings l.used;
  firsts : (x : Binding) → number_at l.firsts x ≡ find (is_at l.bindings x) (take l.later-index l.used);
}
