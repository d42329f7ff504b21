use Rattle.std.proofs.Common.{◌≡◌, ◌<◌, ℕ, true}
use Rattle.wgsl_nodes.specs.Tables.{is_sound_at}
use Rattle.wgsl_nodes.proofs.tables.are_sound.Given as goal

abbrev pub invariant-loop-number : goal.invariant-loop-number
invariant-loop-number l = (k : ℕ) → k < l.number → is_sound_at l.nodes k ≡ true
