use Rattle.wgsl_rules.specs.Values.{first_type}
use Rattle.wgsl_rules.specs.Paths.{parts}
use Rattle.wgsl_rules.specs.View.{type_view}
use Rattle.wgsl_values.specs.View.{vec_view}
use Rattle.std.proofs.Common.{ap, ◌∙◌}
use Rattle.wgsl_rules.specs.Same.{same}
use Rattle.wgsl_values.proofs.Typed.{vec-has}
use Rattle.wgsl_values.proofs.vector.VecInstance.is_of.Goals as goal

pub returns-then-size : goal.returns-then-size
returns-then-size c =
    vec-has _ (first_type (parts (vec_view c.args.self.now))) (type_view c.args.scalar.now) c.size.result c.args.size c.eq.result c.size.ensures c.if-size.true
    (c.eq.ensures ∙ ap (λ s. same s (type_view c.args.scalar.now)) c.scalar_ty.ensures)
