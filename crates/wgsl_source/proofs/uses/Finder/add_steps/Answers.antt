use Rattle.wgsl_source.specs.declared.expression.Step.TheVariants.{Name}
use Rattle.wgsl_source.proofs.UseLemmas.{adding-more}
use Rattle.wgsl_source.proofs.uses.Finder.add_steps.Goals as goal

pub loop-step-preserved : goal.loop-step-preserved
loop-step-preserved c =
    adding-more c.args.self.now c.loop-step.self c.add_step.new.self c.args.steps.now c.loop-step.step-index (Name 0) c.loop-step-test.true c.loop-step.invariant c.in_ok-add_step.ensures
