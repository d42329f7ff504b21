use Rattle.wgsl_values.proofs.lemmas.Replaced.{a_part_replaced}
use Rattle.wgsl_values.proofs.laws.a_part_replaced_is_storable.Goals as goal

pub returns : goal.returns
returns c = a_part_replaced
