use Rattle.wgsl_store.proofs.lemmas.HeldPaths.{held-by-paths}
use Rattle.wgsl_store.proofs.laws.a_value_is_held_by_its_paths.Goals as goal

pub returns : goal.returns
returns c = λ cells v. held-by-paths cells v
