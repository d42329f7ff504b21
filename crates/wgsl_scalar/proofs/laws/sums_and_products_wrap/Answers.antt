use Rattle.wgsl_scalar.proofs.Wraps.{gives_wrapped}
use Rattle.wgsl_scalar.proofs.laws.sums_and_products_wrap.Goals as goal

pub returns : goal.returns
returns c = gives_wrapped
