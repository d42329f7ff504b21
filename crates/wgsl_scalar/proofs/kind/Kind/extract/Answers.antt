use Rattle.std.proofs.Common.{rules, ◌≡◌, ℕ, ℤ, ◌^◌, FitsSigned, to_z, of_z, sym, ap, ◌∙◌}
use Rattle.std.specs.Int.{w128}
use Rattle.std.proofs.lemmas.Int.{to_z-of_z}
use Rattle.wgsl_rules.specs.Kinds.{Kind, modulo}
use Rattle.wgsl_scalar.specs.BitFields.{bit_above}
use Rattle.wgsl_scalar.specs.Literals.{kind_of}
use Rattle.wgsl_scalar.proofs.FieldBits.{filled-wrap, plain-wrap}
use Rattle.wgsl_scalar.proofs.kind.Kind.extract.Goals as goal

above-to_z : (k : Kind) (z : ℤ) (o w : ℕ) → FitsSigned w128 z → bit_above k z o w ≡ bit_above k (to_z w128 (of_z w128 z)) o w
above-to_z k z o w h = ap (λ x. bit_above k x o w) (sym (to_z-of_z w128 z h))

pub returns-then-is_filled : goal.returns-then-is_filled
returns-then-is_filled c =
    let word = c.low_64.ensures ∙ ap (λ z. modulo z (2 ^ 64)) (to_z-of_z w128 c.args.n c.ranges.n) in
    let ones = above-to_z (kind_of c.args.self) c.args.n c.args.field.start c.args.field.length c.ranges.n ∙ rw c.if-is_filled.true at c.is_filled.ensures in
    let same = filled-wrap (kind_of c.args.self) c.args.n c.args.field.start c.args.field.length c.low_64.result c.bits_of-bits.result c.filled.result c.requires c.args.field.within word c.bits_of-bits.ensures c.filled.ensures ones in
    search (rules, to_z-of_z, same)

pub returns-else-is_filled : goal.returns-else-is_filled
returns-else-is_filled c =
    let word = c.low_64.ensures ∙ ap (λ z. modulo z (2 ^ 64)) (to_z-of_z w128 c.args.n c.ranges.n) in
    let none = above-to_z (kind_of c.args.self) c.args.n c.args.field.start c.args.field.length c.ranges.n ∙ rw c.if-is_filled.false at c.is_filled.ensures in
    let same = plain-wrap (kind_of c.args.self) c.args.n c.args.field.start c.args.field.length c.low_64.result c.bits_of-bits.result c.requires c.args.field.within word c.bits_of-bits.ensures none in
    search (rules, to_z-of_z, same)
