use Rattle.std.proofs.Common.{ℕ}
use Rattle.wgsl_source.specs.Scopes.{IsKnown}
use Rattle.wgsl_source.proofs.scopes.Scopes.end.Given as goal

abbrev pub invariant-loop : goal.invariant-loop
invariant-loop l = (n : ℕ) → IsKnown l.self n → IsKnown l.fn.self n
