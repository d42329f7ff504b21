use Rattle.std.proofs.Common.{Some, None}
use Rattle.wgsl_layout.specs.Located.{part_range}
use Rattle.wgsl_values.specs.View.{steps_of}
use Rattle.wgsl_layout.proofs.FlatParts.{view-value}
use Rattle.wgsl_layout.proofs.flat.FlatPart.viewed.Goals as goal

pub returns-in_err-located-clause-value : goal.returns-in_err-located-clause-value
returns-in_err-located-clause-value c =
    rw c.from_residual.ensures (view-value (steps_of c.args.view.now) c.args.self.bytes.now c.args.self.located None c.in_err-located.ensures.range)

pub returns-clause-value : goal.returns-clause-value
returns-clause-value c =
    view-value (steps_of c.args.view.now) c.args.self.bytes.now c.args.self.located (Some (part_range c.in_ok-located.located)) c.in_ok-located.ensures.range
