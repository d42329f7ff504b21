use Rattle.std.proofs.Common.{sym, ◌∙◌}
use Rattle.std.specs.Int.{w128}
use Rattle.std.proofs.lemmas.Int.{to_z-of_z}
use Rattle.wgsl_scalar.specs.Literals.{kind_of}
use Rattle.wgsl_scalar.proofs.FieldBits.{above-is}
use Rattle.wgsl_scalar.proofs.kind.Kind.is_filled.Goals as goal

pub returns-then-field-gt0 : goal.returns-then-field-gt0
returns-then-field-gt0 c =
    let signed = sym c.is_signed.ensures ∙ c.if-field-gt0.true.0 in
    rw (c.low_64.ensures, to_z-of_z w128 c.args.n c.ranges.n)
    (above-is (kind_of c.args.self) c.args.n c.args.field.start c.args.field.length signed c.if-field-gt0.true.1 c.args.field.within)
