use Rattle.std.proofs.Common.{arith}
use Rattle.std.proofs.lemmas.Grind.{common_steps}
use Rattle.wgsl_values.proofs.CompositeTexts.{text_of_struct, text_of_array, text_of_vec, text_of_mat, items_more}
use Rattle.wgsl_values.proofs.+texts.Goals as goal

pub structure::write_struct-returns : goal.structure::write_struct-returns
structure::write_struct-returns g t c = grind (arith, common_steps, text_of_struct)

pub array::write_array-returns : goal.array::write_array-returns
array::write_array-returns g t c = grind (arith, common_steps, text_of_array)

pub vector::write_vec-returns : goal.vector::write_vec-returns
vector::write_vec-returns g t c = grind (arith, common_steps, text_of_vec)

pub matrix::write_mat-returns : goal.matrix::write_mat-returns
matrix::write_mat-returns g t c = grind (arith, common_steps, text_of_mat)

pub lists::write_items-loop-i-preserved : goal.lists::write_items-loop-i-preserved
lists::write_items-loop-i-preserved g t c = grind (arith, common_steps, items_more)
