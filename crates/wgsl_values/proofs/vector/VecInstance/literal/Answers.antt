use Rattle.wgsl_values.proofs.Rows.{component-literal}
use Rattle.wgsl_values.proofs.vector.VecInstance.literal.Goals as goal

pub unwrap_literal_ref-requires : goal.unwrap_literal_ref-requires
unwrap_literal_ref-requires c = component-literal c.args.self.now c.args.i _ c.requires c.in_ok-component.ensures
