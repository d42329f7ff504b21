use Rattle.wgsl_layout.proofs.lemmas.Roundtrip.{reads-back-as}
use Rattle.wgsl_layout.proofs.laws.a_buffer_reads_back.Goals as goal

pub returns : goal.returns
returns c = λ v more s h few. reads-back-as v more s h few
