use Rattle.wgsl_values.specs.View.{value_of}
use Rattle.wgsl_eval.proofs.PartLemmas.{lent-array, lent-matrix, lent-vector}
use Rattle.wgsl_eval.proofs.part.indexed.Goals as goal

pub returns-in-Array : goal.returns-in-Array
returns-in-Array c = lent-array c.get.result (λ v. value_of v.now) c.args.at c.args.value.now c.in-Array.array c.in-Array.is c.get.ensures

pub returns-in-Vec : goal.returns-in-Vec
returns-in-Vec c = lent-vector c.get-in-Vec.result (λ v. value_of v.now) c.args.at c.args.value.now c.in-Vec.vector c.in-Vec.is c.get-in-Vec.ensures

pub returns-in-Mat : goal.returns-in-Mat
returns-in-Mat c = lent-matrix c.col.result (λ v. value_of v.now) c.args.at c.args.value.now c.in-Mat.matrix c.in-Mat.is c.col.ensures
