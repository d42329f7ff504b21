use Rattle.std.proofs.Common.{◌≡◌, ◌≤◌, length, vec_len, vec_capacity}
use Rattle.wgsl_rules.specs.View.{type_view}
use Rattle.wgsl_value_builtins.proofs.SoFar.{HasMade}
use Rattle.wgsl_value_builtins.specs.Bitcast.{taken_as}
use Rattle.wgsl_value_builtins.proofs.bitcast.each_taken_as.Given as goal

abbrev pub invariant-loop-literal : goal.invariant-loop-literal
invariant-loop-literal l = record {
  count : vec_len l.taken ≡ l.literal-index;
  room : length l.literals ≤ vec_capacity l.taken;
  so_far : HasMade (taken_as (type_view l.ty)) l.literals l.literal-index l.taken.items;
}
