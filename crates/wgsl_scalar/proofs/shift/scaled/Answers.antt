use Rattle.std.specs.Int.{w128}
use Rattle.std.proofs.lemmas.Int.{to_z-of_z}
use Rattle.wgsl_scalar.specs.Literals.{kind_of}
use Rattle.wgsl_scalar.proofs.lemmas.Ranges.{scaled_fits, pow_is}
use Rattle.wgsl_scalar.proofs.shift.scaled.Goals as goal

pub strict_mul-requires : goal.strict_mul-requires
strict_mul-requires c =
    rw (to_z-of_z w128 c.args.n c.ranges.n, pow_is c.args.places c.requires.few)
    (scaled_fits (kind_of c.args.kind) c.args.n c.args.places c.requires.in_kind c.requires.few)
