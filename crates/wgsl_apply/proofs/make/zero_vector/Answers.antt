use Rattle.std.proofs.Common.{◌∙◌, sym, ap₂}
use Rattle.wgsl_apply.specs.Zeros.{copies}
use Rattle.wgsl_rules.specs.View.{type_view}
use Rattle.wgsl_scalar.specs.Literals.{literal_of}
use Rattle.wgsl_values.specs.View.{vals_view, value_of}
use Rattle.wgsl_apply.proofs.Zeros.{vector-made}
use Rattle.wgsl_apply.proofs.make.zero_vector.Goals as goal

pub returns-in_ok-components-in-Some : goal.returns-in_ok-components-in-Some
returns-in_ok-components-in-Some c =
    let made = c.in_ok-components-in-Some in
    vector-made value_of c.make_vector.result c.args.n (type_view c.args.scalar.now) (literal_of c.in-Some.literal) (vals_view made.components.items) (sym c.in-Some.ensures.value) (made.ensures ∙ ap₂ copies c.from-in-Some.ensures c.from.ensures.value) c.make_vector.ensures.value c.make_vector.ensures.some
