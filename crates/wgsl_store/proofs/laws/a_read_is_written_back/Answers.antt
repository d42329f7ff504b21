use Rattle.wgsl_store.proofs.lemmas.Writes.{written-back}
use Rattle.wgsl_store.proofs.laws.a_read_is_written_back.Goals as goal

pub returns : goal.returns
returns c = λ cells r v c e. written-back cells r v c e
