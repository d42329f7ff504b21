use Rattle.std.proofs.Common.{rules}
use Rattle.std.proofs.lemmas.Int.{to_z-of_z}
use Rattle.wgsl_scalar.proofs.Words.{low_64-is}
use Rattle.wgsl_scalar.proofs.kind.low_64.Goals as goal

pub returns : goal.returns
returns c = search (rules, to_z-of_z, low_64-is c.args.n c.ranges.n)
