use Rattle.std.proofs.Common.{sym, ap₂, ◌∙◌}
use Rattle.wgsl_rules.specs.Conversion.{struct_rank}
use Rattle.wgsl_rules.proofs.lemmas.CommonTypes.{struct-converts}
use Rattle.wgsl_rules.proofs.lemmas.Views.{struct_view-is}
use Rattle.wgsl_rules.proofs.ty.StructType.is_convertible_to.Goals as goal

pub returns-else-eq : goal.returns-else-eq
returns-else-eq c =
    struct-converts _ _ _ _ _ _ _ _ _ (struct_view-is c.args.self.now) (struct_view-is c.in-Some.other.now) c.in-Some.ensures (sym c.eq.ensures ∙ c.if-eq.false)
    (c.struct_rank.ensures ∙ ap₂ struct_rank c.as_str.ensures.value c.as_str-else-eq.ensures.value) c.is_some.ensures
