use Rattle.std.proofs.Common.{rules}
use Rattle.std.proofs.lemmas.Int.{to_z-of_z}
use Rattle.wgsl_scalar.specs.Literals.{kind_of}
use Rattle.wgsl_scalar.proofs.lemmas.Ranges.{floor_far}
use Rattle.wgsl_scalar.proofs.kind.Kind.floor.Goals as goal

pub returns-else-places-lt64-clause-value : goal.returns-else-places-lt64-clause-value
returns-else-places-lt64-clause-value c =
    let far = floor_far (kind_of c.args.self) c.args.n c.args.places c.requires c.if-places-lt64.false in
    rw far (search (rules, to_z-of_z))
