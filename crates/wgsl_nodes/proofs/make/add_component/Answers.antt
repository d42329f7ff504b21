use Rattle.std.proofs.Common.{◌≡◌, sym, ap, ◌∙◌, length, Some}
use Rattle.wgsl_rules.specs.Size.{align_of}
use Rattle.wgsl_rules.specs.Types.{vec}
use Rattle.wgsl_rules.specs.View.{type_view}
use Rattle.wgsl_nodes.specs.Making.{vector_node}
use Rattle.wgsl_nodes.proofs.Added.{component-added, small}
use Rattle.wgsl_nodes.proofs.make.add_component.Goals as goal

pub vector_of-requires : goal.vector_of-requires
vector_of-requires c =
    let made = c.in-Some-Some.ensures in
    small c.args.n (type_view c.args.component.now) c.in-Some-Some.part (sym c.is_from_2_to_4.ensures ∙ c.if-not-is_from_2_to_4.false) made.0 made.1.says

pub returns : goal.returns
returns c =
    let t = type_view c.args.component.now in
    let made = c.in-Some-Some.ensures in
    let old = c.args.nodes.now in
    let child : c.in_ok-child.child ≡ length old.items = c.in_ok-child.ensures ∙ c.len.ensures ∙ old.ok.0 in
    let aligned : align_of (vec c.args.n t) ≡ Some c.in-Some-Some.align = sym c.requires ∙ c.in-Some-Some.is-1 in
    let is = c.vector_of.ensures ∙ ap (vector_node c.args.n c.in-Some-Some.part.size c.in-Some-Some.align) child in
    rw (c.in_ok-push.ensures.items, is) (component-added old.items c.args.n t c.in-Some-Some.part c.in-Some-Some.align (sym c.is_from_2_to_4.ensures ∙ c.if-not-is_from_2_to_4.false) made.0 made.1 aligned)
