use Rattle.std.proofs.Common.{rules}
use Rattle.wgsl_rules.specs.Paths.{parts}
use Rattle.wgsl_values.specs.View.{mat_view}
use Rattle.wgsl_value_ops.proofs.ColumnAnswers.{column-vector, column_there, matrix-known}
use Rattle.wgsl_value_ops.proofs.compwise.column.Goals as goal

pub unwrap-requires : goal.unwrap-requires
unwrap-requires c = column_there c.col.result (parts (mat_view c.args.matrix.now)) c.args.i c.col.ensures c.requires.within

pub unwrap_vec_ref-requires : goal.unwrap_vec_ref-requires
unwrap_vec_ref-requires c = column-vector c.args.matrix.now c.args.i _ (matrix-known c.args.matrix.now c.requires.own) (search rules)
