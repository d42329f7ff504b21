use Rattle.std.proofs.Common.{◌∙◌, sym}
use Rattle.wgsl_source.proofs.ReadingLemmas.{shown_word}
use Rattle.wgsl_source.proofs.module.Reading.word.Goals as goal

pub returns : goal.returns
returns c =
    c.text_at.ensures ∙ sym (shown_word c.cursor.result c.args.self.now c.args.token c.cursor.ensures.text c.cursor.ensures.tokens)
