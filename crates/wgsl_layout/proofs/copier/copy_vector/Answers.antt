use Rattle.std.proofs.Common.{length}
use Rattle.wgsl_rules.specs.View.{type_view}
use Rattle.wgsl_layout.proofs.Plans.{view-components}
use Rattle.wgsl_layout.proofs.Copying.{row-next, vector-copied}
use Rattle.wgsl_layout.proofs.copier.copy_vector.Goals as goal

pub loop-i-preserved : goal.loop-i-preserved
loop-i-preserved c = record {
  inside = c.loop-i.invariant.inside;
  room = rw c.copy_number.auto.out c.loop-i.invariant.room;
  rest = row-next c.args.bytes.now c.args.at c.in-Components.far c.from-len.result _ _ c.loop-i.i c.args.base c.loop-i.out c.copy_number.new.out _ c.loop-i-test.true c.copy_number.ensures c.loop-i.invariant.rest;
}

pub returns : goal.returns
returns c =
    let from = rw (c.in-Components.is, view-components) at c.requires.from in
    rw (c.in-Components.is, view-components)
    (vector-copied c.args.n c.in-Components.far (type_view c.args.component.now) c.args.bytes.now c.args.at (length c.args.bytes.now) c.loop-i.i c.from-len.result c.args.base c.args.out.now c.loop-i.out from c.from-len.ensures
    c.loop-i-test.false c.loop-i.invariant.rest)
