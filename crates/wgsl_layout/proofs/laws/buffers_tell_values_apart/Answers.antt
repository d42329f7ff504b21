use Rattle.wgsl_layout.proofs.lemmas.Roundtrip.{told-apart}
use Rattle.wgsl_layout.proofs.laws.buffers_tell_values_apart.Goals as goal

pub returns : goal.returns
returns c = λ v w s t h e b. told-apart v w s t h e b
