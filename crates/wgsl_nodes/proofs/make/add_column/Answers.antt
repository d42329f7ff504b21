use Rattle.std.proofs.Common.{◌≡◌, sym, ◌∙◌, length, Some}
use Rattle.wgsl_rules.specs.Size.{align_of, size_of}
use Rattle.wgsl_rules.specs.Types.{mat}
use Rattle.wgsl_rules.specs.View.{type_view}
use Rattle.wgsl_nodes.proofs.Added.{column-answers, small}
use Rattle.wgsl_nodes.proofs.make.add_column.Goals as goal

pub vector_of-requires : goal.vector_of-requires
vector_of-requires c =
    let made = c.in-Some-Some-Some.ensures in
    small c.args.rows (type_view c.args.component.now) c.in-Some-Some-Some.part (sym c.is_from_2_to_4-else-not-is_from_2_to_4.ensures ∙ c.if-not-is_from_2_to_4-2.false) made.0 made.1.says

pub returns : goal.returns
returns c =
    let t = type_view c.args.component.now in
    let made = c.in-Some-Some-Some.ensures in
    let old = c.args.nodes.now in
    let child : c.in_ok-child.child ≡ length old.items = c.in_ok-child.ensures ∙ c.len.ensures ∙ old.ok.0 in
    let aligned : align_of (mat c.args.columns c.args.rows t) ≡ Some c.in-Some-Some-Some.align = sym c.requires.align ∙ c.in-Some-Some-Some.is-1 in
    let sized : size_of (mat c.args.columns c.args.rows t) ≡ Some c.in-Some-Some-Some.size = sym c.requires.size ∙ c.in-Some-Some-Some.is-2 in
    column-answers old.items c.push.new.self.items c.push-2.new.self.items c.args.columns c.args.rows t c.in-Some-Some-Some.part c.vector_of.result c.in-Some-Some-Some.align c.in-Some-Some-Some.size c.from.result c.in_ok-child.child c.in_ok-inner.inner
    (sym c.is_from_2_to_4.ensures ∙ c.if-not-is_from_2_to_4.false) (sym c.is_from_2_to_4-else-not-is_from_2_to_4.ensures ∙ c.if-not-is_from_2_to_4-2.false) made.0 made.1 aligned sized
    child c.in_ok-inner.ensures c.vector_of.ensures c.in_ok-push.ensures.items c.in_ok-push-2.ensures.items c.from.ensures
