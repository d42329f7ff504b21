use Rattle.wgsl_store.proofs.lemmas.Writes.{last-write-stands}
use Rattle.wgsl_store.proofs.laws.the_last_write_stands.Goals as goal

pub returns : goal.returns
returns c = λ cells between r v w s h e. last-write-stands cells between r v w s h e
