use Rattle.std.proofs.Common.{rules}
use Rattle.std.specs.Int.{w32, w64}
use Rattle.std.proofs.lemmas.Int.{to_z-of_z}
use Rattle.wgsl_scalar.proofs.lemmas.BitLaws.{trailing-bits}
use Rattle.wgsl_scalar.proofs.kind.Kind.trailing_zeros.Goals as goal

pub returns-in-32-clause-value : goal.returns-in-32-clause-value
returns-in-32-clause-value c = search (rules, to_z-of_z, trailing-bits w32 c.args.n)

pub returns-in_default-clause-value : goal.returns-in_default-clause-value
returns-in_default-clause-value c = search (rules, to_z-of_z, trailing-bits w64 c.args.n)
