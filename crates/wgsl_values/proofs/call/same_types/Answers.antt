use Rattle.std.proofs.Common.{sym, ◌∙◌}
use Rattle.std.specs.Cmp.Derive.Mapped.{pointwise-map}
use Rattle.wgsl_rules.specs.Same.{same}
use Rattle.wgsl_rules.specs.View.{type_view}
use Rattle.wgsl_values.proofs.call.same_types.Goals as goal

pub returns : goal.returns
returns c = c.eq.ensures ∙ sym (pointwise-map type_view same c.args.a.now c.args.b.now)
