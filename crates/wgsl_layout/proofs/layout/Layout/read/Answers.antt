use Rattle.wgsl_values.specs.View.{steps_of, value_of}
use Rattle.wgsl_layout.specs.Located.{part_range}
use Rattle.wgsl_layout.proofs.LayoutParts.{read-value, read-none, read-bytes}
use Rattle.wgsl_layout.proofs.layout.Layout.read.Goals as goal

pub returns-in_ok-read-in-Ok-clause-value : goal.returns-in_ok-read-in-Ok-clause-value
returns-in_ok-read-in-Ok-clause-value c =
    read-value c.args.bytes.now (steps_of c.args.view.now) c.args.self.now (part_range c.in-Ok.part) (value_of c.in_ok-read-in-Ok.field-0) c.part.ensures.laid c.in-Ok.ensures.range c.in_ok-read-in-Ok.ensures

pub returns-in_ok-read-in-Ok-clause-bytes : goal.returns-in_ok-read-in-Ok-clause-bytes
returns-in_ok-read-in-Ok-clause-bytes c =
    let there = c.in-Ok.ensures.there in
    read-bytes c.in-Ok.part c.args.bytes.now (steps_of c.args.view.now) c.args.self.now (value_of c.in_ok-read-in-Ok.field-0) there.0 there.1 c.in-Ok.ensures.range c.in_ok-read-in-Ok.ensures

pub returns-in-Err-clause-value : goal.returns-in-Err-clause-value
returns-in-Err-clause-value c = read-none c.args.bytes.now (steps_of c.args.view.now) c.args.self.now c.in-Err.field-0 c.part.ensures.laid c.in-Err.ensures.range
