use Rattle.std.proofs.Common.{Some, None, ◌∙◌}
use Rattle.wgsl_rules.specs.Paths.{member_named}
use Rattle.wgsl_rules.specs.Refusals.{component}
use Rattle.wgsl_rules.specs.Values.{member as member_step, type_of}
use Rattle.wgsl_layout.specs.Buffers.{decoded}
use Rattle.wgsl_layout.specs.Located.{part_range}
use Rattle.wgsl_layout.proofs.FlatParts.{step-value}
use Rattle.wgsl_layout.proofs.lemmas.Parts.{refused-behind}
use Rattle.wgsl_layout.proofs.flat.FlatPart.member.Goals as goal

pub returns-in_err-located-clause-value : goal.returns-in_err-located-clause-value
returns-in_err-located-clause-value c =
    let v = decoded c.args.self.bytes.now c.args.self.located.start (part_range c.args.self.located).layout in
    rw c.from_residual.ensures (step-value (member_step c.args.name.now) c.args.self.bytes.now c.args.self.located None c.in_err-located.ensures.range ∙ refused-behind (member_named c.args.name.now v) (component (type_of v) c.args.name.now))

pub returns-clause-value : goal.returns-clause-value
returns-clause-value c =
    let v = decoded c.args.self.bytes.now c.args.self.located.start (part_range c.args.self.located).layout in
    step-value (member_step c.args.name.now) c.args.self.bytes.now c.args.self.located (Some (part_range c.in_ok-located.located)) c.in_ok-located.ensures.range ∙ refused-behind (member_named c.args.name.now v) (component (type_of v) c.args.name.now)
