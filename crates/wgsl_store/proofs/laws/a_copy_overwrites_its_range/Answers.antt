use Rattle.wgsl_store.proofs.CopiedBytes.{copy-overwrites}
use Rattle.wgsl_store.proofs.laws.a_copy_overwrites_its_range.Goals as goal

pub returns : goal.returns
returns c = λ cells after q r u v from to s e a b. copy-overwrites cells after q r u v from to s e a b
