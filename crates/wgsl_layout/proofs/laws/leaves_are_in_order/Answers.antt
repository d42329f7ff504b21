use Rattle.wgsl_layout.proofs.lemmas.Compose.{leaves-in-order}
use Rattle.wgsl_layout.proofs.laws.leaves_are_in_order.Goals as goal

pub returns : goal.returns
returns c = λ t n h. leaves-in-order t n h
