use Rattle.std.proofs.Common.{◌≡◌, ◌≤◌, length, vec_len, vec_capacity}
use Rattle.wgsl_value_builtins.proofs.SoFar.{HasPicked}
use Rattle.wgsl_value_builtins.proofs.logical.each_selected.Given as goal

abbrev pub invariant-loop-i : goal.invariant-loop-i
invariant-loop-i l = record {
  count : vec_len l.picked ≡ l.i;
  room : length l.bools ≤ vec_capacity l.picked;
  so_far : HasPicked l.bools l.f l.t l.i l.picked.items;
}
