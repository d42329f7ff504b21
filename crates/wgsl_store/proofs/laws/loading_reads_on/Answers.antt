use Rattle.wgsl_store.proofs.lemmas.Loads.{loading-reads-on}
use Rattle.wgsl_store.proofs.laws.loading_reads_on.Goals as goal

pub returns : goal.returns
returns c = λ cells r k. loading-reads-on cells r k
