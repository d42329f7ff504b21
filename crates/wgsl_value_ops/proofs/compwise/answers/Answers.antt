use Rattle.std.proofs.Common.{rules, ◌≡◌, ◌++◌, [], ◌∷◌, get_or, Ok, Err, Some, refl, sym, ap, ◌∙◌}
use Rattle.wgsl_value_ops.proofs.Answering.{item-got, storable-append, so_far_push, so_far_all, refused_here}
use Rattle.wgsl_value_ops.specs.Closures.{AnswersAt}
use Rattle.wgsl_values.specs.View.{value_of}
use Rattle.wgsl_values.proofs.Conversions.{item-literal}
use Rattle.wgsl_value_ops.proofs.compwise.answers.Goals as goal

pub unwrap_literal_ref-requires : goal.unwrap_literal_ref-requires
unwrap_literal_ref-requires g c =
    rw c.value-item.is (item-literal c.args.values.now c.loop-value.value-index c.value-item.result c.loop-value-test.true c.requires.literals)

pub f-requires : goal.f-requires
f-requires g c =
    c.requires.callable.at c.loop-value.value-index c.unwrap_literal_ref.result (item-got c.args.values.now c.loop-value.value-index c.value-item.result c.loop-value-test.true ∙ ap Some (sym (c.unwrap_literal_ref.ensures ∙ ap value_of c.value-item.is)))

pub returns-in_err-answer-clause-answers : goal.returns-in_err-answer-clause-answers
returns-in_err-answer-clause-answers g c =
    let at : AnswersAt g.F.Fn c.args.f.now (value_of (get_or c.args.values.now c.loop-value.value-index c.value-item.result)) (Err c.in_err-answer.field-0.0) = record {
      literal = _;
      is = c.unwrap_literal_ref.ensures ∙ ap value_of c.value-item.is;
      answer = _;
      gives = refl;
      returns = record { shown = _; shows = refl; says = record { met = c.in_err-answer.ensures } };
    } in
    search (rules, refused_here _ c.args.values.now c.loop-value.value-index c.value-item.result _ _ c.loop-value-test.true c.loop-value.invariant.so_far at)

pub loop-value-preserved : goal.loop-value-preserved
loop-value-preserved g c =
    let at : AnswersAt g.F.Fn c.args.f.now (value_of (get_or c.args.values.now c.loop-value.value-index c.value-item.result)) (Ok (value_of c.component.result)) = record {
      literal = _;
      is = c.unwrap_literal_ref.ensures ∙ ap value_of c.value-item.is;
      answer = _;
      gives = ap Ok (sym c.component.ensures.value);
      returns = record { shown = _; shows = refl; says = record { met = c.in_ok-answer.ensures } };
    } in
    let same : c.push.new.self.items ≡ c.loop-value.out.items ++ c.component.result ∷ [] = search rules in
    record {
      count = search rules;
      room = search rules;
      storable = rw same (storable-append c.loop-value.out.items c.component.result c.loop-value.invariant.storable c.component.ensures.storable);
      so_far = rw same (so_far_push _ c.args.values.now c.loop-value.value-index c.value-item.result c.loop-value.out.items c.component.result c.loop-value-test.true c.loop-value.invariant.so_far at);
    }

pub returns-clause-answers : goal.returns-clause-answers
returns-clause-answers g c = record { each = so_far_all _ c.args.values.now _ _ c.loop-value-test.false c.loop-value.invariant.so_far }
