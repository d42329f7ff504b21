use Rattle.std.proofs.Common.{◌≡◌, Option, Some, None, refl, sym, ◌∙◌}
use Rattle.std.specs.Cmp.Derive.Mapped.{pointwise-map}
use Rattle.std.specs.Cmp.Lexicographic.{pointwise}
use Rattle.std.specs.Global.{Vec}
use Rattle.std.specs.Option.{option_eq}
use Rattle.wgsl_values.specs.Same.{same_param}
use Rattle.wgsl_values.specs.Signatures.{param_view, template_view}
use Rattle.wgsl_values.specs.declared.call.TpltParam.{TpltParam}
use Rattle.wgsl_values.proofs.call.same_template.Goals as goal

option_eq-template_view : (a b : Option (Vec TpltParam))
    → option_eq (pointwise same_param) (template_view a) (template_view b) ≡ option_eq (λ ps qs. pointwise (λ p q. same_param (param_view p) (param_view q)) ps.items qs.items) a b
option_eq-template_view None None = refl
option_eq-template_view None (Some qs) = refl
option_eq-template_view (Some ps) None = refl
option_eq-template_view (Some ps) (Some qs) = pointwise-map param_view same_param ps.items qs.items

pub returns : goal.returns
returns c = c.eq.ensures ∙ sym (option_eq-template_view c.args.a.now c.args.b.now)
