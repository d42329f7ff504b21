use Rattle.wgsl_layout.proofs.lemmas.Decoded.{decoding-is-reading}
use Rattle.wgsl_layout.proofs.laws.decoding_is_reading.Goals as goal

pub returns : goal.returns
returns c = λ b t. decoding-is-reading b t
