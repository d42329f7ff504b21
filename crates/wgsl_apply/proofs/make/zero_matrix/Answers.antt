use Rattle.std.proofs.Common.{◌∙◌, ℕ, option_map, sym, ap}
use Rattle.wgsl_apply.specs.Zeros.{copies}
use Rattle.wgsl_rules.specs.View.{type_view}
use Rattle.wgsl_values.specs.View.{vals_view, value_of}
use Rattle.wgsl_apply.proofs.Zeros.{matrix-made}
use Rattle.wgsl_apply.proofs.make.zero_matrix.Goals as goal

pub returns-in_ok-copies-in-Some : goal.returns-in_ok-copies-in-Some
returns-in_ok-copies-in-Some c =
    let v = value_of c.in-Some.column in
    let copied = c.in_ok-copies-in-Some in
    let is = sym c.in_ok-column.ensures ∙ ap (option_map value_of) c.in-Some.is in
    matrix-made value_of c.make_matrix.result c.args.columns c.args.rows (type_view c.args.scalar.now) v (vals_view copied.field-0.items) is (copied.ensures ∙ ap (λ (n : ℕ). copies n v) c.from.ensures) c.make_matrix.ensures.value c.make_matrix.ensures.some
