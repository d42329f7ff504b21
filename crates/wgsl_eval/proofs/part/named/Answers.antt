use Rattle.wgsl_values.specs.View.{value_of}
use Rattle.wgsl_eval.proofs.PartLemmas.{lent-structure}
use Rattle.wgsl_eval.proofs.part.named.Goals as goal

pub returns-in-Struct : goal.returns-in-Struct
returns-in-Struct c = lent-structure c.member.result (λ v. value_of v.now) c.args.name.now c.args.value.now c.in-Struct.structure c.in-Struct.is c.member.ensures
