use Rattle.std.proofs.lemmas.List.{take_all}
use Rattle.wgsl_rules.specs.View.{type_view}
use Rattle.wgsl_scalar.specs.Literals.{literal_of}
use Rattle.wgsl_eval.specs.Constructors.{conversion_of}
use Rattle.wgsl_eval.proofs.Each.{each_of-mapped}
use Rattle.wgsl_eval.proofs.evaluator.Evaluator.converted_scalars.Goals as goal

pub returns : goal.returns
returns c =
    let all = take_all c.loop-literal.literal-index c.args.literals.now c.loop-literal-test.false in
    each_of-mapped (conversion_of c.args.conversion (type_view c.args.ty.now)) literal_of literal_of c.args.literals.now c.loop-literal.converted.items
    (rw all at c.loop-literal.invariant)
