use Rattle.wgsl_layout.proofs.lemmas.Compose.{compose}
use Rattle.wgsl_layout.proofs.laws.paths_and_bytes_compose.Goals as goal

pub returns : goal.returns
returns c = λ v x p s h e. compose v x p s h e
