use Rattle.std.proofs.Common.{◌∙◌, arith, ◌<◌, length, map}
use Rattle.std.proofs.lemmas.List.{length-set, get_or-set_same}
use Rattle.wgsl_functions.proofs.Taken.{was_refused, was_taken, were_taken}
use Rattle.wgsl_rules.specs.Refusals.{conv_overflow}
use Rattle.wgsl_rules.specs.View.{type_view}
use Rattle.wgsl_values.specs.View.{value_of}
use Rattle.wgsl_functions.proofs.parameters.take_each.Goals as goal

pub loop-at-preserved : goal.loop-at-preserved
loop-at-preserved c = record {
  taken = was_taken value_of (λ t. conv_overflow (value_of c.take.new.value) (type_view t)) c.loop-at.at c.args.parameters.now (map value_of c.args.values.items) c.loop-at.values.items _ c.index_mut.result.now c.take.new.value c.in_ok-ty.field-0 c.loop-at.invariant.taken (omega arith) (omega arith) c.index_mut.ensures.value c.in_ok-ty.ensures c.in_default.is;
  long = length-set c.loop-at.values.items c.loop-at.at c.take.new.value ∙ c.loop-at.invariant.long;
}

pub returns-in-Some : goal.returns-in-Some
returns-in-Some c = λ all.
    let there : c.loop-at.at < length c.loop-at.values.items = omega arith in
    let given = c.swap_remove-value.ensures.value ∙ get_or-set_same c.loop-at.values.items c.loop-at.at c.take.new.value _ there in
    rw given (was_refused value_of (λ t. conv_overflow (value_of c.take.new.value) (type_view t)) c.loop-at.at c.args.parameters.now c.args.values.items c.loop-at.values.items _ c.index_mut.result.now c.take.new.value c.in_ok-ty.field-0 c.in-Some.ty c.loop-at.invariant.taken (omega arith) there c.index_mut.ensures.value c.in_ok-ty.ensures c.in-Some.is all)

pub returns : goal.returns
returns c = λ all. were_taken value_of c.loop-at.at c.args.parameters.now c.args.values.items c.loop-at.values.items c.loop-at.invariant.taken (omega arith) all
