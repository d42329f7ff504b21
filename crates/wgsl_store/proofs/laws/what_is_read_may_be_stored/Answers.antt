use Rattle.wgsl_store.proofs.lemmas.Sound.{read-content}
use Rattle.wgsl_store.proofs.laws.what_is_read_may_be_stored.Goals as goal

pub returns : goal.returns
returns c = λ cells r v s e. read-content cells r v s e
