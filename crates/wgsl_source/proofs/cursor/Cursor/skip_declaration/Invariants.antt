use Rattle.wgsl_source.specs.Declarations.{IsBehind}
use Rattle.wgsl_source.proofs.cursor.Cursor.skip_declaration.Given as goal

abbrev pub invariant-loop : goal.invariant-loop
invariant-loop l = IsBehind l.fn.self l.self
