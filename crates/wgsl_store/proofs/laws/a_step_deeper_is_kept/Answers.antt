use Rattle.wgsl_store.proofs.lemmas.Sound.{deeper-kept}
use Rattle.wgsl_store.proofs.laws.a_step_deeper_is_kept.Goals as goal

pub returns : goal.returns
returns c = λ cells r q s e. deeper-kept cells r q s e
