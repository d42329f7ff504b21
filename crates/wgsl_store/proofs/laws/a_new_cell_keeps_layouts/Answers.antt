use Rattle.wgsl_store.proofs.lemmas.KeptLayouts.{new-cell-layouts}
use Rattle.wgsl_store.proofs.laws.a_new_cell_keeps_layouts.Goals as goal

pub returns : goal.returns
returns c = λ cells v r k. new-cell-layouts cells v r k
