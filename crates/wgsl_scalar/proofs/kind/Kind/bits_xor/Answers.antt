use Rattle.std.proofs.Common.{rules}
use Rattle.std.proofs.lemmas.Int.{to_z-of_z}
use Rattle.wgsl_scalar.specs.Literals.{kind_of}
use Rattle.wgsl_scalar.proofs.lemmas.BitLaws.{wrap-xor}
use Rattle.wgsl_scalar.proofs.kind.Kind.bits_xor.Goals as goal

pub returns : goal.returns
returns c = search (rules, to_z-of_z, wrap-xor (kind_of c.args.self) c.args.left c.args.right)
