use Rattle.std.proofs.Common.{◌∙◌}
use Rattle.wgsl_values.specs.View.{value_of, array_view, mat_view, struct_view, vec_view, steps_of}
use Rattle.wgsl_values.proofs.lemmas.Views.{steps_of-Member, steps_of-Index, value_of-Array, value_of-Mat, value_of-Struct, value_of-Vec}
use Rattle.wgsl_values.proofs.Written.{as_array-is, as_matrix-is, as_record-is, as_vector-is, array_part_at, matrix_part_at, vector_part_at}
use Rattle.wgsl_values.proofs.lemmas.Steps.{put-member, put-part}
use Rattle.wgsl_values.proofs.instance.Instance.+put.Goals as goal

pub returns-in-Some-clause-put : goal.returns-in-Some-clause-put
returns-in-Some-clause-put t c =
    let whole = as_array-is _ _ c.in-Some.ensures.value in
    let held = rw c.in_ok-element-in-Index.was at (c.get_mut.follows.holds c.put-in-Some.new.self) in
    let inner = rw c.deref-in-Some.ensures at c.put-in-Some.ensures.put in
    let led = array_part_at c.in-Index.i _ (array_view c.in-Some.array.now) _ c.in-Some.ensures.value c.in_ok-element-in-Index.ensures.value in
    rw (c.in-Index.is, steps_of-Index, value_of-Array, whole)
    (held.is ∙ put-part c.in-Index.i (steps_of c.in-Index.rest.value) (value_of c.args.value) (array_view c.in-Some.array.now) _ _ led inner)

pub returns-in-Some-as_vec_mut-clause-put : goal.returns-in-Some-as_vec_mut-clause-put
returns-in-Some-as_vec_mut-clause-put t c =
    let whole = as_vector-is _ _ c.in-Some-as_vec_mut.ensures.value in
    let held = rw c.in_ok-component-in-Index.was at (c.get_mut-in-Some-as_vec_mut.follows.holds c.put-in-Some-as_vec_mut.new.self) in
    let inner = rw c.deref-in-Some-as_vec_mut.ensures at c.put-in-Some-as_vec_mut.ensures.put in
    let led = vector_part_at c.in-Index.i _ (vec_view c.in-Some-as_vec_mut.vector.now) _ c.in-Some-as_vec_mut.ensures.value c.in_ok-component-in-Index.ensures.value in
    rw (c.in-Index.is, steps_of-Index, value_of-Vec, whole)
    (held.is ∙ put-part c.in-Index.i (steps_of c.in-Index.rest.value) (value_of c.args.value) (vec_view c.in-Some-as_vec_mut.vector.now) _ _ led inner)

pub returns-in_ok-member-in-Member-clause-put : goal.returns-in_ok-member-in-Member-clause-put
returns-in_ok-member-in-Member-clause-put t c =
    let whole = as_record-is _ _ c.in_ok-s-in-Member.ensures.value in
    let held = rw c.in_ok-member-in-Member.was at (c.member_mut.follows.holds c.put.new.self) in
    let inner = rw c.deref.ensures at c.put.ensures.put in
    rw (c.in-Member.is, steps_of-Member, value_of-Struct, whole, ← c.as_str.ensures.value)
    (held.is ∙ put-member c.as_str.result.now (steps_of c.in-Member.rest.value) (value_of c.args.value) (struct_view c.in_ok-s-in-Member.s.now) _ _ c.in_ok-member-in-Member.ensures.value inner)

pub returns-in_ok-column-in-Index-clause-put : goal.returns-in_ok-column-in-Index-clause-put
returns-in_ok-column-in-Index-clause-put t c =
    let whole = as_matrix-is _ _ c.in_ok-matrix-in-Index.ensures.value in
    let held = rw c.in_ok-column-in-Index.was at (c.col_mut.follows.holds c.put-in-Index.new.self) in
    let inner = rw c.deref-in-Index.ensures at c.put-in-Index.ensures.put in
    let led = matrix_part_at c.in-Index.i _ (mat_view c.in_ok-matrix-in-Index.matrix.now) _ c.in_ok-matrix-in-Index.ensures.value c.in_ok-column-in-Index.ensures.value in
    rw (c.in-Index.is, steps_of-Index, value_of-Mat, whole)
    (held.is ∙ put-part c.in-Index.i (steps_of c.in-Index.rest.value) (value_of c.args.value) (mat_view c.in_ok-matrix-in-Index.matrix.now) _ _ led inner)
