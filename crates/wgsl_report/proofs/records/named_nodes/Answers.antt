use Rattle.std.proofs.Common.{◌≡◌, ◌∙◌, ap, sym, subst, arith, length, take, drop, ◌++◌, List}
use Rattle.std.proofs.Math.Seq.{take-append_seam}
use Rattle.wgsl_rules.specs.View.{type_view}
use Rattle.wgsl_nodes.specs.declared.nodes.Node.{Node}
use Rattle.wgsl_nodes.proofs.Renaming.{renamed-is}
use Rattle.wgsl_nodes.proofs.Unnamed.{renamed-table}
use Rattle.wgsl_report.specs.Records.{IsLayoutOf}
use Rattle.wgsl_report.proofs.records.named_nodes.Goals as goal

pub returns : goal.returns
returns c =
    let t = type_view c.args.ty.now in
    let now = c.name_members.new.nodes in
    let long : c.in-Some.nodes.len ≡ length now = omega (arith, c.name_members.auto.nodes, c.as_mut_slice.ensures.len, ap length c.as_mut_slice.ensures.value, c.in-Some.nodes.ok) in
    let same : take c.in-Some.nodes.len (now ++ drop (length now) c.in-Some.nodes.items) ≡ now =
    ap (λ n. take n (now ++ drop (length now) c.in-Some.nodes.items)) long ∙ take-append_seam now (drop (length now) c.in-Some.nodes.items) in
    let all = rw c.in-Some.is at c.in_ok-nodes.ensures in
    let made : IsLayoutOf t c.in-Some.nodes.items = (all.1, all.3) in
    let lent : IsLayoutOf t c.as_mut_slice.result.now = subst (λ (nodes : List Node). IsLayoutOf t nodes) (sym c.as_mut_slice.ensures.value) made in
    let named : IsLayoutOf t now =
    (renamed-is c.as_mut_slice.result.now now 0 t c.name_members.ensures lent.0, renamed-table c.as_mut_slice.result.now now c.name_members.ensures lent.1) in
    subst (λ (nodes : List Node). IsLayoutOf t nodes) (sym same) named
