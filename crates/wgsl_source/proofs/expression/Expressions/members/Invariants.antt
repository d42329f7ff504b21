use Rattle.wgsl_source.specs.Declarations.{IsBehind}
use Rattle.wgsl_source.proofs.expression.Expressions.members.Given as goal

abbrev pub invariant-loop : goal.invariant-loop
invariant-loop l = IsBehind l.fn.self.cursor l.self.cursor
