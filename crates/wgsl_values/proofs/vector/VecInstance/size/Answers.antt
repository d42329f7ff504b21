use Rattle.std.proofs.Common.{◌≡◌, arith, ap}
use Rattle.wgsl_rules.specs.Types.{vec}
use Rattle.wgsl_rules.specs.Values.{count, first_type}
use Rattle.wgsl_values.specs.View.{vals_view}
use Rattle.wgsl_values.proofs.lemmas.Views.{vec_view-is, count-vals_view}
use Rattle.wgsl_values.proofs.vector.VecInstance.size.Goals as goal

pub overflow_cast-result : goal.overflow_cast-result
overflow_cast-result c =
    let few = rw (vec_view-is c.args.self.now) at c.requires in
    omega (arith, few.1, count-vals_view c.args.self.now.components.items, c.args.self.now.components.ok.0, c.len.ensures)

pub returns : goal.returns
returns c =
    let vs = c.args.self.now.components.items in
    let counted : count (vals_view vs) ≡ c.len.result = omega (arith, count-vals_view vs, c.args.self.now.components.ok.0, c.len.ensures) in
    rw (vec_view-is c.args.self.now) (ap (λ n. vec n (first_type (vals_view vs))) counted)
