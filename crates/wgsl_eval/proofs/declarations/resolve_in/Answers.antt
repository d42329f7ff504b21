use Rattle.std.proofs.Common.{refl}
use Rattle.wgsl_eval.proofs.Walks.{declared_before}
use Rattle.wgsl_eval.proofs.declarations.resolve_in.Goals as goal

pub returns-clause-declared : goal.returns-clause-declared
returns-clause-declared c = declared_before c.args.reading.now _ c.args.settings c.resolve_with.result refl c.resolve_with.ensures.declared
