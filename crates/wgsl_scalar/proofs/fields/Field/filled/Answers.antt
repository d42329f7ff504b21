use Rattle.std.proofs.Common.{arith}
use Rattle.wgsl_scalar.proofs.FieldBits.{filled-bits}
use Rattle.wgsl_scalar.proofs.fields.Field.filled.Goals as goal

pub returns : goal.returns
returns c = λ i h. rw c.ones.ensures (filled-bits c.args.bits c.args.self.length i (omega (arith, c.args.self.within)) h)
