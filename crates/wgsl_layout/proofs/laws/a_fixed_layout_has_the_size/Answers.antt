use Rattle.wgsl_layout.proofs.lemmas.Compose.{fixed-has-size}
use Rattle.wgsl_layout.proofs.laws.a_fixed_layout_has_the_size.Goals as goal

pub returns : goal.returns
returns c = λ t n h. fixed-has-size t n h
