use Rattle.wgsl_scalar.proofs.FieldBits.{field-bits}
use Rattle.wgsl_scalar.proofs.fields.Field.bits_of.Goals as goal

pub returns : goal.returns
returns c = λ i. rw c.ones.ensures (field-bits c.args.word c.args.self.start c.args.self.length i)
