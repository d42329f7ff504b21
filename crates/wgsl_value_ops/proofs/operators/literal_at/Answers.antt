use Rattle.std.proofs.Common.{◌∙◌, ap, Some}
use Rattle.wgsl_values.proofs.lemmas.Views.{item_within}
use Rattle.wgsl_values.specs.View.{value_of}
use Rattle.wgsl_values.proofs.Conversions.{item-literal}
use Rattle.wgsl_value_ops.proofs.operators.literal_at.Goals as goal

pub unwrap_literal_ref-requires : goal.unwrap_literal_ref-requires
unwrap_literal_ref-requires c = rw c.index-literals-i.is (item-literal c.args.literals.now c.args.i c.index-literals-i.result c.requires.index c.requires.literals)

pub returns : goal.returns
returns c =
    ap Some (c.unwrap_literal_ref.ensures ∙ ap value_of c.index-literals-i.is) ∙ item_within c.args.literals.now c.args.i c.index-literals-i.result c.requires.index
