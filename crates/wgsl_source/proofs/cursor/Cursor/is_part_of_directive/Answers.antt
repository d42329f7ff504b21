use Rattle.std.proofs.Common.{sym, ◌∙◌, ap}
use Rattle.wgsl_source.specs.Identifiers.{is_one_of}
use Rattle.wgsl_source.specs.Pieces.{no_parts}
use Rattle.wgsl_source.proofs.cursor.Cursor.is_part_of_directive.Goals as goal

pub returns : goal.returns
returns c = λ _. ap (is_one_of no_parts) (sym c.text_at-word.ensures) ∙ sym c.is_no_part.ensures ∙ c.if-is_no_part.false
