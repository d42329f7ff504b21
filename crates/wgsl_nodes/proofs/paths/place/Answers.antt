use Rattle.std.proofs.Common.{◌≡◌, Option, None, subst}
use Rattle.std.specs.Prelude.{MatchOption}
use Rattle.wgsl_nodes.specs.Paths.{IsLed, behind_name}
use Rattle.wgsl_nodes.specs.Places.{placed}
use Rattle.wgsl_nodes.specs.declared.nodes.Node.{Node}
use Rattle.wgsl_nodes.proofs.Led.{answer-along}
use Rattle.wgsl_nodes.proofs.Parts.{root-place}
use Rattle.wgsl_nodes.proofs.paths.place.Goals as goal

pub returns-clause-on_table : goal.returns-clause-on_table
returns-clause-on_table c = λ t few is.
    let nodes = c.args.nodes.now in
    let names = c.args.names.now in
    let path = c.args.path.now in
    let led = subst (λ (o : Option Node). MatchOption o (c.place_of.result ≡ None) (λ root. IsLed nodes names c.args.len (placed nodes 0 0 root) (behind_name root path) c.place_of.result)) is.there c.place_of.ensures in
    answer-along nodes names c.args.len (placed nodes 0 0 is.node) (behind_name is.node path) c.place_of.result t few (root-place nodes t is) led
