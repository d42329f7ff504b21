use Rattle.wgsl_scalar.proofs.FieldLaws.{inserting_back}
use Rattle.wgsl_scalar.proofs.laws.inserting_back_changes_nothing.Goals as goal

pub returns : goal.returns
returns c = inserting_back
