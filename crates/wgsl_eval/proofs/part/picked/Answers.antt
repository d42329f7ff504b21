use Rattle.wgsl_rules.specs.Paths.{parts}
use Rattle.wgsl_scalar.specs.Literals.{literal_of}
use Rattle.wgsl_values.specs.View.{vec_view}
use Rattle.wgsl_eval.proofs.Each.{each_of-push}
use Rattle.wgsl_eval.specs.Parts.{component_named}
use Rattle.wgsl_eval.proofs.part.picked.Goals as goal

pub loop-letter-preserved : goal.loop-letter-preserved
loop-letter-preserved c =
    rw c.in_ok-push-in-Some.ensures.items
    (each_of-push (component_named c.args.letters.now (parts (vec_view c.args.vector.now))) literal_of c.args.word.now c.loop-letter.letter-index 0 c.loop-letter.components.items c.in-Some.component
    c.loop-letter-test.true c.loop-letter.invariant c.in-Some.ensures)
