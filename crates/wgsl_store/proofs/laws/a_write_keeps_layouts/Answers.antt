use Rattle.wgsl_store.proofs.lemmas.KeptLayouts.{write-layouts}
use Rattle.wgsl_store.proofs.laws.a_write_keeps_layouts.Goals as goal

pub returns : goal.returns
returns c = λ cells after r w s h e q k. write-layouts cells after r w s h e q k
