use Rattle.wgsl_layout.proofs.lemmas.Roundtrip.{length-buffer}
use Rattle.wgsl_layout.proofs.laws.a_buffer_has_the_length.Goals as goal

pub returns : goal.returns
returns c = λ v h. length-buffer v h
