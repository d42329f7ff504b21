use Rattle.wgsl_rules.proofs.lemmas.CommonTypes.{in_common-swapped}
use Rattle.wgsl_rules.proofs.generic.convert_is_symmetric.Goals as goal

pub returns : goal.returns
returns g c = λ a b x y. (in_common-swapped g.T.Convert.converted a b x y, in_common-swapped g.T.Convert.converted b a y x)
