use Rattle.wgsl_eval.proofs.Walks.{declared}
use Rattle.wgsl_eval.proofs.declarations.resolve_with.Goals as goal

pub returns-clause-declared : goal.returns-clause-declared
returns-clause-declared c =
    declared c.args.reading.now c.args.given.now c.args.settings _ _ c.into_declarations.result
    c.in_ok-evaluator.ensures.unknown c.in_ok-declare_all.ensures.declared c.into_declarations.ensures.items c.into_declarations.ensures.told
