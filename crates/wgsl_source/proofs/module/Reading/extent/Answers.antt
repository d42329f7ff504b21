use Rattle.std.proofs.Common.{◌∙◌, ap, sym}
use Rattle.wgsl_source.specs.Readings.{extent_in}
use Rattle.wgsl_source.proofs.ReadingLemmas.{shown_extent}
use Rattle.wgsl_source.proofs.module.Reading.extent.Goals as goal

pub returns : goal.returns
returns c =
    ap extent_in c.token_at-token.ensures
    ∙ sym (shown_extent c.cursor.result c.args.self.now c.args.token c.cursor.ensures.text c.cursor.ensures.tokens)
