use Rattle.std.proofs.Common.{rules, ◌<◌, get_or, length, map, Ok, Err, Some, refl, sym, ap, ◌∙◌, arith}
use Rattle.std.proofs.lemmas.List.{length-set}
use Rattle.wgsl_value_ops.proofs.Answering.{item-got}
use Rattle.wgsl_value_ops.proofs.InPlace.{refused_at, so_far_set, so_far_taken}
use Rattle.wgsl_value_ops.specs.Closures.{AnswersAt, Refused}
use Rattle.wgsl_scalar.specs.Literals.{literal_of}
use Rattle.wgsl_values.specs.View.{value_of}
use Rattle.wgsl_values.proofs.Conversions.{item-literal}
use Rattle.wgsl_value_ops.proofs.in_place.answer_into.Goals as goal

pub loop-i-init : goal.loop-i-init
loop-i-init g c = record { so_far = record { answered = λ ys a. a; refused = λ e a. a }; long = omega arith }

pub unwrap_literal_ref-requires : goal.unwrap_literal_ref-requires
unwrap_literal_ref-requires g c = rw c.index-values-i.is (item-literal c.args.values.now c.loop-i.i c.index-values-i.result c.loop-i-test.true c.requires.literals)

pub f-requires : goal.f-requires
f-requires g c =
    c.requires.callable.at c.loop-i.i c.unwrap_literal_ref.result (item-got c.args.values.now c.loop-i.i c.index-values-i.result c.loop-i-test.true ∙ ap Some (sym (c.unwrap_literal_ref.ensures ∙ ap value_of c.index-values-i.is)))

pub returns-in_err-answer : goal.returns-in_err-answer
returns-in_err-answer g c =
    let at : AnswersAt g.F.Fn c.args.f.now (value_of (get_or c.args.values.now c.loop-i.i c.index-values-i.result)) (Err c.in_err-answer.field-0.0) = record {
      literal = _;
      is = c.unwrap_literal_ref.ensures ∙ ap value_of c.index-values-i.is;
      answer = _;
      gives = refl;
      returns = record { shown = _; shows = refl; says = record { met = c.in_err-answer.ensures } };
    } in
    let refused : Refused (AnswersAt g.F.Fn c.args.f.now) (map value_of c.args.values.now) c.in_err-answer.field-0.0 =
    refused_at _ c.args.values.now c.loop-i.answers c.loop-i.i c.index-values-i.result _ c.loop-i-test.true c.loop-i.invariant.so_far at in
    record { answers = search (rules, refused); refused = search (rules, refused) }

pub loop-i-preserved : goal.loop-i-preserved
loop-i-preserved g c =
    let at : AnswersAt g.F.Fn c.args.f.now (value_of (get_or c.args.values.now c.loop-i.i c.index-values-i.result)) (Ok (literal_of c.in_ok-answer.answer)) = record {
      literal = _;
      is = c.unwrap_literal_ref.ensures ∙ ap value_of c.index-values-i.is;
      answer = _;
      gives = refl;
      returns = record { shown = _; shows = refl; says = record { met = c.in_ok-answer.ensures } };
    } in
    let there : c.loop-i.i < length c.loop-i.answers = omega (arith, c.loop-i-test.true, c.loop-i.invariant.long, c.requires.most) in
    record {
      so_far = so_far_set _ c.args.values.now c.loop-i.answers c.loop-i.i c.index-values-i.result c.in_ok-answer.answer c.loop-i-test.true there c.loop-i.invariant.so_far at;
      long = length-set c.loop-i.answers c.loop-i.i c.in_ok-answer.answer ∙ c.loop-i.invariant.long;
    }

pub returns-clause-answers : goal.returns-clause-answers
returns-clause-answers g c = record { each = so_far_taken _ c.args.values.now c.loop-i.answers c.loop-i.i (omega (arith, c.loop-i-test.false, c.loop-i.auto.i-end)) c.loop-i.invariant.so_far }
