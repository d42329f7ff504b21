use Rattle.std.proofs.Common.{refl}
use Rattle.wgsl_interface.proofs.nature.Nature.of_array.Goals as goal

pub returns-in-Some : goal.returns-in-Some
returns-in-Some c = λ t h. rw c.in-Some.is (c.of_fixed_array.ensures t c.in-Some.n h refl)
