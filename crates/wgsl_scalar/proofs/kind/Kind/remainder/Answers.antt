use Rattle.std.proofs.Common.{rules}
use Rattle.std.proofs.lemmas.Int.{to_z-of_z}
use Rattle.wgsl_scalar.proofs.lemmas.Ranges.{cut_remainder-is}
use Rattle.wgsl_scalar.proofs.kind.Kind.remainder.Goals as goal

pub returns-then-has_remainder : goal.returns-then-has_remainder
returns-then-has_remainder c = rw (cut_remainder-is c.args.left c.args.right) (search (rules, to_z-of_z))
