use Rattle.std.proofs.Common.{◌∙◌, ◌<◌, ℕ, length, subst}
use Rattle.wgsl_rules.specs.View.{type_view}
use Rattle.wgsl_layout.proofs.Plans.{view-components}
use Rattle.wgsl_layout.proofs.Reading.{row-start, row-step, vector-there, vector-made}
use Rattle.wgsl_layout.proofs.reader.read_vector.Goals as goal

pub loop-i-init : goal.loop-i-init
loop-i-init c =
    let there = rw (c.in-Components.is, view-components) at c.requires in
    record {
      inside = λ i below. (vector-there 0 c.args.n c.in-Components.far (type_view c.args.component.now) c.args.base (length c.args.bytes.now) there).inside i (subst (λ (n : ℕ). i < n) c.from-len.ensures below);
      rest = row-start c.in_ok-components.components.items c.args.bytes.now c.args.base c.in-Components.far c.from-len.result _ c.in_ok-components.ensures.items;
    }

pub loop-i-preserved : goal.loop-i-preserved
loop-i-preserved c = record {
  inside = c.loop-i.invariant.inside;
  rest = rw c.in_ok-push.ensures.items (row-step c.loop-i.components.items c.from.result c.args.bytes.now c.args.base c.in-Components.far c.loop-i.i c.from-len.result _ _ c.loop-i-test.true (c.from.ensures.value ∙ c.read_literal-literal.ensures) c.loop-i.invariant.rest);
}

pub new-requires : goal.new-requires
new-requires c =
    let there = rw (c.in-Components.is, view-components) at c.requires in
    (vector-made c.loop-i.components.items c.args.n c.in-Components.far c.loop-i.i c.from-len.result c.args.base _ c.args.bytes.now (type_view c.args.component.now) there c.from-len.ensures c.loop-i-test.false c.loop-i.invariant.rest).storable

pub returns : goal.returns
returns c =
    let there = rw (c.in-Components.is, view-components) at c.requires in
    c.new.ensures
    ∙ (vector-made c.loop-i.components.items c.args.n c.in-Components.far c.loop-i.i c.from-len.result c.args.base _ c.args.bytes.now (type_view c.args.component.now) there c.from-len.ensures c.loop-i-test.false c.loop-i.invariant.rest).is
