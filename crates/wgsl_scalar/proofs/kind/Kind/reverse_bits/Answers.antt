use Rattle.std.proofs.Common.{rules}
use Rattle.std.proofs.lemmas.Int.{to_z-of_z}
use Rattle.wgsl_scalar.specs.Literals.{kind_of}
use Rattle.wgsl_scalar.proofs.FieldBits.{reversed-wrap}
use Rattle.wgsl_scalar.proofs.kind.Kind.reverse_bits.Goals as goal

pub returns : goal.returns
returns c = search (rules, to_z-of_z, reversed-wrap (kind_of c.args.self) c.args.n c.requires)
