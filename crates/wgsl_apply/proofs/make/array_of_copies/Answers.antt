use Rattle.std.proofs.Common.{◌∙◌, ℕ, Option, Some, sym, ap}
use Rattle.wgsl_apply.specs.Zeros.{zero_array}
use Rattle.wgsl_values.specs.View.{vals_view, value_of}
use Rattle.wgsl_apply.proofs.Zeros.{array-made}
use Rattle.wgsl_apply.proofs.make.array_of_copies.Goals as goal

pub returns-in_ok-copies-in-Some : goal.returns-in_ok-copies-in-Some
returns-in_ok-copies-in-Some c =
    let v = value_of c.args.value.now in
    let copied = c.in_ok-copies-in-Some in
    array-made value_of c.make_array.result c.in-Some.count v (vals_view copied.field-0.items) c.requires copied.ensures c.make_array.ensures.value c.make_array.ensures.some
    ∙ ap (λ (n : Option ℕ). zero_array n (Some v)) (sym c.in-Some.is)
