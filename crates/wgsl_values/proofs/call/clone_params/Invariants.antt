use Rattle.std.proofs.Common.{◌≡◌, take, map}
use Rattle.wgsl_values.specs.Signatures.{param_view}
use Rattle.wgsl_values.proofs.call.clone_params.Given as goal

abbrev pub invariant-loop-param : goal.invariant-loop-param
invariant-loop-param l = map param_view l.copies.items ≡ map param_view (take l.param-index l.param-items)
