use Rattle.std.proofs.Common.{Option, subst}
use Rattle.std.specs.Prelude.{MatchOption}
use Rattle.wgsl_nodes.specs.Compare.{AreSame, IsFirstDifference}
use Rattle.wgsl_nodes.specs.declared.compare.Difference.{Difference}
use Rattle.wgsl_nodes.proofs.Alike.{node-alike}
use Rattle.wgsl_nodes.proofs.compare.first_difference.Goals as goal

pub returns-clause-on_tables : goal.returns-clause-on_tables
returns-clause-on_tables c = λ none few less number t is.
    let a = c.args.a.now in
    let b = c.args.b.now in
    let same = subst (λ (o : Option Difference). MatchOption o (AreSame a b) (IsFirstDifference a b)) none (c.first_of_all.ensures few less) in
    node-alike a b number t same is
