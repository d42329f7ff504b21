use Rattle.wgsl_store.proofs.lemmas.WritesApart.{apart-commute}
use Rattle.wgsl_store.proofs.laws.writes_apart_commute.Goals as goal

pub returns : goal.returns
returns c = λ cells one q r v w s k hv hw a e. apart-commute cells one q r v w s k hv hw a e
