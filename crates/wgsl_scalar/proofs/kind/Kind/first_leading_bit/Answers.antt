use Rattle.std.proofs.Common.{rules, ap, ◌∙◌}
use Rattle.std.specs.Int.{w128}
use Rattle.std.proofs.lemmas.Int.{to_z-of_z}
use Rattle.wgsl_scalar.specs.BitFields.{turned}
use Rattle.wgsl_scalar.specs.Counts.{leading_zeros_in}
use Rattle.wgsl_scalar.specs.Literals.{kind_of}
use Rattle.wgsl_scalar.proofs.FieldBits.{first_leading-is}
use Rattle.wgsl_scalar.proofs.kind.Kind.first_leading_bit.Goals as goal

pub returns : goal.returns
returns c =
    let other = c.turned.ensures ∙ ap turned (to_z-of_z w128 c.args.n c.ranges.n) in
    let zeros = c.leading_zeros.ensures.value ∙ ap (leading_zeros_in (kind_of c.args.self)) (to_z-of_z w128 c.turned.result (record { sfits = c.turned.type_inv }) ∙ other) in
    let same = first_leading-is (kind_of c.args.self) c.args.n c.leading_zeros.result c.requires.word c.requires.in_kind zeros in
    search (rules, to_z-of_z, same)
