use Rattle.wgsl_store.proofs.lemmas.Sound.{new-cell-keeps}
use Rattle.wgsl_store.proofs.laws.a_new_cell_keeps_references.Goals as goal

pub returns : goal.returns
returns c = λ cells v space access s h. new-cell-keeps cells v space access s h
