use Rattle.wgsl_values.proofs.Matrices.{transposed_exchanges}
use Rattle.wgsl_values.proofs.laws.transposed_exchanges_rows_and_columns.Goals as goal

pub returns : goal.returns
returns c = transposed_exchanges
