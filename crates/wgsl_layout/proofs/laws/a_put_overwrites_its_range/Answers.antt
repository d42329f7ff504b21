use Rattle.wgsl_layout.proofs.lemmas.Overwritten.{put-overwritten}
use Rattle.wgsl_layout.proofs.laws.a_put_overwrites_its_range.Goals as goal

pub returns : goal.returns
returns c = λ v w x p s h t e f. put-overwritten v w x p s h t e f
