use Rattle.wgsl_values.specs.View.{value_of}
use Rattle.wgsl_values.proofs.Written.{replaced-is, replaced-refused}
use Rattle.wgsl_values.proofs.instance.Instance.write.Goals as goal

pub returns-then-same_type-clause-answer : goal.returns-then-same_type-clause-answer
returns-then-same_type-clause-answer c =
    rw c.replace.ensures.value
    (replaced-is (value_of c.args.value) (value_of c.args.self.now) c.same_type.result c.same_type.ensures c.if-same_type.true)

pub returns-in_ok-ty-2-clause-answer : goal.returns-in_ok-ty-2-clause-answer
returns-in_ok-ty-2-clause-answer c =
    rw (c.in_ok-ty.ensures, c.in_ok-ty-2.ensures)
    (replaced-refused (value_of c.args.value) (value_of c.args.self.now) c.same_type.result c.same_type.ensures c.if-same_type.false)
