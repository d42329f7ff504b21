use Rattle.wgsl_layout.proofs.lemmas.Padding.{has-the-bytes}
use Rattle.wgsl_layout.proofs.laws.a_read_value_has_the_bytes.Goals as goal

pub returns : goal.returns
returns c = λ b t v h e. has-the-bytes b t v h e
