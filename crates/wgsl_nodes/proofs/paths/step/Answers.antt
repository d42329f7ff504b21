use Rattle.std.proofs.Common.{ℕ, List, None, subst, sym}
use Rattle.wgsl_nodes.specs.Paths.{IsLed}
use Rattle.wgsl_nodes.proofs.Texts.{no-step}
use Rattle.wgsl_nodes.proofs.paths.step.Goals as goal

pub returns-else-first-eq91 : goal.returns-else-first-eq91
returns-else-first-eq91 c = λ some.
    subst (λ (t : List ℕ). IsLed c.args.nodes.now c.args.names.now c.args.len c.args.place t None) (sym c.in_ok-first.ensures.cases.0)
    (no-step c.args.nodes.now c.args.names.now c.args.len c.args.place c.in_ok-first.first.now c.in_ok-first.rest.now c.if-first-eq46.false c.if-first-eq91.false)
