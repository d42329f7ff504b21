use Rattle.std.proofs.Common.{is_some, refl, ap, ◌∙◌}
use Rattle.wgsl_rules.specs.Conversion.{rank}
use Rattle.wgsl_rules.specs.Paths.{parts}
use Rattle.wgsl_rules.specs.Types.{Ty, vec}
use Rattle.wgsl_rules.specs.Values.{first_type}
use Rattle.wgsl_rules.specs.View.{type_view}
use Rattle.wgsl_values.specs.View.{vec_view}
use Rattle.wgsl_values.proofs.Conversions.{vec-converts}
use Rattle.wgsl_values.proofs.vector.VecInstance.converts.Goals as goal

pub returns-then-size : goal.returns-then-size
returns-then-size c =
    vec-converts _ (first_type (parts (vec_view c.args.self.now))) (vec c.args.size (type_view c.args.scalar.now)) (type_view c.args.scalar.now)
    c.size.result c.args.size c.is_convertible_to.result c.size.ensures refl c.if-size.true
    (c.is_convertible_to.ensures ∙ ap (λ (s : Ty). is_some (rank s (type_view c.args.scalar.now))) c.scalar_ty.ensures)
