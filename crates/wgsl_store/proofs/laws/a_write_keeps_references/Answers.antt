use Rattle.wgsl_store.proofs.lemmas.Writes.{write-keeps}
use Rattle.wgsl_store.proofs.laws.a_write_keeps_references.Goals as goal

pub returns : goal.returns
returns c = λ cells after r w s h e. write-keeps cells after r w s h e
