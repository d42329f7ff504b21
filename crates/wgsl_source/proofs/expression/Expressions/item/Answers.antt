use Rattle.std.proofs.Common.{◌∙◌, ap, sym, arith}
use Rattle.wgsl_source.specs.Cursors.{text_of}
use Rattle.wgsl_source.specs.declared.cursor.Cursor.{Cursor}
use Rattle.wgsl_source.proofs.DirectiveLemmas.{directive_word}
use Rattle.wgsl_source.proofs.expression.Expressions.item.Goals as goal

pub returns-in-text : goal.returns-in-text
returns-in-text c = (omega (arith, ap (λ (d : Cursor). d.at) c.advance.ensures.after), sym c.word.ensures ∙ c.in-text.is)

pub returns-in_ok-pass_directive-in-enable : goal.returns-in_ok-pass_directive-in-enable
returns-in_ok-pass_directive-in-enable c = (directive_word c.word.result.now (text_of c.args.self.now.cursor c.args.self.now.cursor.at) c.word.ensures c.in-enable.is, c.in_ok-pass_directive-in-enable.ensures.parted, c.in_ok-pass_directive-in-enable.ensures.within)
