use Rattle.std.proofs.Common.{Some, ap, sym, ◌∙◌}
use Rattle.wgsl_rules.specs.Types.{array}
use Rattle.wgsl_rules.specs.Values.{first_type}
use Rattle.wgsl_values.specs.View.{vals_view}
use Rattle.wgsl_values.proofs.lemmas.Views.{array_view-is, count-vals_view}
use Rattle.wgsl_values.proofs.array.ArrayInstance.count.Goals as goal

pub returns-else-self : goal.returns-else-self
returns-else-self c =
    let vs = c.args.self.now.components.items in
    rw (array_view-is c.args.self.now, c.if-self.false, count-vals_view vs)
    (ap (λ n. array (first_type (vals_view vs)) (Some n)) (sym (c.len.ensures ∙ c.args.self.now.components.ok.0)))
