use Rattle.wgsl_session.proofs.Found.{decoding-finds}
use Rattle.wgsl_session.proofs.laws.decoding_finds_what_is_held.Goals as goal

pub returns : goal.returns
returns c = λ cells. decoding-finds cells
