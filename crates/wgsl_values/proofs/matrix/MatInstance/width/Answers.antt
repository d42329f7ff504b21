use Rattle.std.proofs.Common.{arith}
use Rattle.wgsl_values.proofs.lemmas.Views.{mat_view-is, count-vals_view}
use Rattle.wgsl_values.proofs.matrix.MatInstance.width.Goals as goal

pub overflow_cast-result : goal.overflow_cast-result
overflow_cast-result c =
    let few = rw (mat_view-is c.args.self.now) at c.requires in
    omega (arith, few.1, count-vals_view c.args.self.now.columns.items, c.args.self.now.columns.ok.0, c.len.ensures)

pub returns : goal.returns
returns c =
    rw (mat_view-is c.args.self.now)
    (omega (arith, count-vals_view c.args.self.now.columns.items, c.args.self.now.columns.ok.0, c.len.ensures))
