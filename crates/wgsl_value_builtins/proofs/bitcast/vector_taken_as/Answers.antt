use Rattle.std.proofs.Common.{sym, subst}
use Rattle.wgsl_rules.specs.Values.{Vals, vector, IsStorable}
use Rattle.wgsl_rules.specs.View.{type_view}
use Rattle.wgsl_value_builtins.proofs.Taken.{taken-vector, vector-parts}
use Rattle.wgsl_values.specs.View.{vals_view}
use Rattle.wgsl_value_builtins.proofs.bitcast.vector_taken_as.Goals as goal

pub new-requires : goal.new-requires
new-requires c =
    taken-vector (type_view c.args.ty.now) (vals_view c.as_slice.result.now) (vals_view c.in_ok-each_taken_as.field-0.items) c.requires.word
    (subst (λ (us : Vals). IsStorable (vector us)) (sym c.as_slice.ensures) (subst IsStorable (vector-parts c.args.v.now) c.requires.storable)) c.in_ok-each_taken_as.ensures
