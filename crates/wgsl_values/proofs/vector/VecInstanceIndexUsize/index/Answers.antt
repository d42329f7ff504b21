use Rattle.std.proofs.Common.{refl, arith, vec_len}
use Rattle.wgsl_values.proofs.Counts.{components_counted, component_there}
use Rattle.wgsl_values.proofs.vector.VecInstanceIndexUsize.index.Goals as goal

pub index-requires : goal.index-requires
index-requires c = omega (arith, components_counted c.args.self.now (vec_len c.args.self.now.components) refl)

pub returns : goal.returns
returns c = component_there c.args.self.now c.args.index c.index.result.now (omega (arith, components_counted c.args.self.now (vec_len c.args.self.now.components) refl)) c.index.ensures
