use Rattle.std.proofs.Common.{ap, sym, ◌∙◌}
use Rattle.wgsl_rules.specs.Types.{Ty, array}
use Rattle.wgsl_rules.specs.Values.{type_of}
use Rattle.wgsl_rules.specs.View.{type_view}
use Rattle.wgsl_values.specs.View.{value_of}
use Rattle.wgsl_values.proofs.Conversions.{array-converts, array-apart}
use Rattle.wgsl_values.proofs.Typed.{array-first}
use Rattle.wgsl_values.proofs.lemmas.Views.{array_view-is}
use Rattle.wgsl_values.proofs.+is_convertible.Goals as goal

pub array::ArrayInstance::is_convertible_to-returns-then-eq : goal.array::ArrayInstance::is_convertible_to-returns-then-eq
array::ArrayInstance::is_convertible_to-returns-then-eq t c =
    let first = array-first c.args.self.now c.index.result.now (rw (array_view-is c.args.self.now) at c.requires).0 c.index.ensures in
    array-converts _ (type_of (value_of c.index.result.now)) (type_view c.args.ty.now) _ c.count.result c.in-Some.count c.is_convertible_to.result
    (c.count.ensures ∙ ap (λ (s : Ty). array s c.count.result) first) c.in-Some.ensures c.if-eq.ensures c.is_convertible_to.ensures

pub array::ArrayInstance::is_convertible_to-returns-else-eq : goal.array::ArrayInstance::is_convertible_to-returns-else-eq
array::ArrayInstance::is_convertible_to-returns-else-eq t c =
    c.if-eq.false ∙ array-apart _ _ (type_view c.args.ty.now) _ c.count.result c.in-Some.count c.count.ensures c.in-Some.ensures (sym c.eq.ensures ∙ c.if-eq.false)
