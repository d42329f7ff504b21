use Rattle.wgsl_scalar.proofs.FieldBits.{replaced-bits}
use Rattle.wgsl_scalar.proofs.fields.Field.replaced.Goals as goal

pub returns : goal.returns
returns c = λ i h. rw c.ones.ensures (replaced-bits c.args.word c.args.new c.args.self.start c.args.self.length i h)
