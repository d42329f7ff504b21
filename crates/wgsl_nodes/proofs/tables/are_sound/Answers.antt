use Rattle.std.proofs.Common.{◌≡◌, ◌∙◌, ℕ, true, sym, below_more}
use Rattle.wgsl_nodes.specs.Tables.{is_sound_at}
use Rattle.wgsl_nodes.proofs.tables.are_sound.Goals as goal

pub loop-number-preserved : goal.loop-number-preserved
loop-number-preserved c = below_more (λ (k : ℕ). is_sound_at c.args.nodes.now k ≡ true) c.loop-number.number c.loop-number.invariant (sym c.is_sound_at.ensures ∙ c.if-not-is_sound_at.false)
