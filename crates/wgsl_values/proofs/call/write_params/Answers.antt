use Rattle.std.proofs.Common.{arith}
use Rattle.std.proofs.lemmas.Grind.{common_steps}
use Rattle.wgsl_values.proofs.Joined.{params_more}
use Rattle.wgsl_values.proofs.call.write_params.Goals as goal

pub loop-i-preserved : goal.loop-i-preserved
loop-i-preserved g c = grind (arith, common_steps, params_more)
