use Rattle.std.proofs.Common.{refl, arith}
use Rattle.wgsl_rules.specs.View.{type_view}
use Rattle.wgsl_nodes.proofs.Added.{root-answers}
use Rattle.wgsl_nodes.proofs.make.nodes_of.Goals as goal

pub returns-in_ok-check_count-in-Some : goal.returns-in_ok-check_count-in-Some
returns-in_ok-check_count-in-Some c =
    let added = rw c.in-Some.is at c.in_ok-root.ensures in
    let pushed = c.in_ok-push.ensures.items in
    root-answers c.new-nodes.result.items c.push.new.self.items c.add_parts.new.nodes.items c.put.new.nodes.items _ (type_view c.args.ty.now) c.in-Some.root refl c.new-nodes.ensures.items pushed added c.put.ensures (omega (arith, c.len.ensures, c.add_parts.new.nodes.ok.0, c.in_ok-check_count-in-Some.ensures))
