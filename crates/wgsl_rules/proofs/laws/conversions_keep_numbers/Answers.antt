use Rattle.wgsl_rules.proofs.lemmas.Converted.{converted-numbers}
use Rattle.wgsl_rules.proofs.laws.conversions_keep_numbers.Goals as goal

pub returns : goal.returns
returns c = converted-numbers
