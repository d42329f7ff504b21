use Rattle.std.proofs.Common.{rules, ◌^◌, ap, ◌∙◌}
use Rattle.std.specs.Int.{w128}
use Rattle.std.proofs.lemmas.Int.{to_z-of_z}
use Rattle.wgsl_rules.specs.Kinds.{modulo}
use Rattle.wgsl_scalar.specs.Literals.{kind_of}
use Rattle.wgsl_scalar.proofs.FieldBits.{inserted-wrap}
use Rattle.wgsl_scalar.proofs.kind.Kind.insert.Goals as goal

pub returns : goal.returns
returns c =
    let word = c.low_64.ensures ∙ ap (λ z. modulo z (2 ^ 64)) (to_z-of_z w128 c.args.n c.ranges.n) in
    let new = c.low_64-2.ensures ∙ ap (λ z. modulo z (2 ^ 64)) (to_z-of_z w128 c.args.new c.ranges.new) in
    let same = inserted-wrap (kind_of c.args.self) c.args.n c.args.new c.args.field.start c.args.field.length c.low_64.result c.low_64-2.result c.replaced.result c.requires word new c.replaced.ensures in
    search (rules, to_z-of_z, same)
