use Rattle.std.proofs.Common.{◌≡◌, ℕ, false}
use Rattle.wgsl_source.specs.Cursors.{text_of}
use Rattle.wgsl_source.specs.Identifiers.{is_one_of}
use Rattle.wgsl_source.specs.Pieces.{no_parts}
use Rattle.wgsl_source.proofs.DirectiveLemmas.{one_more}
use Rattle.wgsl_source.proofs.cursor.Cursor.directive_end.Goals as goal

pub loop-at-preserved : goal.loop-at-preserved
loop-at-preserved c =
    let P : ℕ → Type 0 = λ t. is_one_of no_parts (text_of c.args.self.now t) ≡ false in
    one_more P c.args.self.now.at c.loop-at.at c.loop-at.invariant (c.is_part_of_directive.ensures c.if-not-is_part_of_directive.false)
