use Rattle.wgsl_store.proofs.lemmas.Writes.{write-is-read}
use Rattle.wgsl_store.proofs.laws.a_write_is_read.Goals as goal

pub returns : goal.returns
returns c = λ cells after r w s h c e. write-is-read cells after r w s h c e
