use Rattle.wgsl_value_ops.proofs.OperatorLaws.{swapped}
use Rattle.wgsl_value_ops.proofs.laws.sums_and_products_swap.Goals as goal

pub returns : goal.returns
returns c = swapped
