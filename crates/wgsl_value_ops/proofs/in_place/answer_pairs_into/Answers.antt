use Rattle.std.proofs.Common.{rules, ◌<◌, get_or, length, map, Ok, Err, Some, refl, sym, ap, ap₂, ◌∙◌, arith}
use Rattle.std.proofs.lemmas.List.{length-set}
use Rattle.std.specs.List.{zip}
use Rattle.wgsl_value_ops.proofs.Answering.{pair-got}
use Rattle.wgsl_value_ops.proofs.InPlace.{pairs_refused_at, pairs_set, pairs_taken}
use Rattle.wgsl_value_ops.specs.Closures.{AnswersAtPair, Refused}
use Rattle.wgsl_rules.specs.Values.{Val}
use Rattle.wgsl_scalar.specs.Literals.{literal_of}
use Rattle.wgsl_values.specs.View.{value_of}
use Rattle.wgsl_values.proofs.Conversions.{item-literal}
use Rattle.wgsl_value_ops.proofs.in_place.answer_pairs_into.Goals as goal

pub loop-i-init : goal.loop-i-init
loop-i-init g c = record { so_far = record { answered = λ ys a. a; refused = λ e a. a }; long = omega arith }

pub unwrap_literal_ref-requires : goal.unwrap_literal_ref-requires
unwrap_literal_ref-requires g c = rw c.index-left-i.is (item-literal c.args.left.now c.loop-i.i c.index-left-i.result c.loop-i-test.true c.requires.left)

pub unwrap_literal_ref-requires-in-loop-i : goal.unwrap_literal_ref-requires-in-loop-i
unwrap_literal_ref-requires-in-loop-i g c = rw c.index-right-i.is (item-literal c.args.right.now c.loop-i.i c.index-right-i.result (omega arith) c.requires.right)

pub f-requires : goal.f-requires
f-requires g c =
    let first = c.unwrap_literal_ref.ensures ∙ ap value_of c.index-left-i.is in
    let second = c.unwrap_literal_ref-in-loop-i.ensures ∙ ap value_of c.index-right-i.is in
    c.requires.callable.at c.loop-i.i c.unwrap_literal_ref.result c.unwrap_literal_ref-in-loop-i.result
    (pair-got c.args.left.now c.args.right.now c.loop-i.i c.index-left-i.result c.index-right-i.result c.loop-i-test.true c.requires.equal ∙ ap Some (ap₂ (λ (x y : Val). (x, y)) (sym first) (sym second)))

pub returns-in_err-answer : goal.returns-in_err-answer
returns-in_err-answer g c =
    let at : AnswersAtPair g.F.Fn c.args.f.now (value_of (get_or c.args.left.now c.loop-i.i c.index-left-i.result), value_of (get_or c.args.right.now c.loop-i.i c.index-right-i.result)) (Err c.in_err-answer.field-0.0) = record {
      first = _;
      second = _;
      is_first = c.unwrap_literal_ref.ensures ∙ ap value_of c.index-left-i.is;
      is_second = c.unwrap_literal_ref-in-loop-i.ensures ∙ ap value_of c.index-right-i.is;
      answer = _;
      gives = refl;
      returns = record { first = _; second = _; shows = (refl, refl); says = record { met = c.in_err-answer.ensures } };
    } in
    let refused : Refused (AnswersAtPair g.F.Fn c.args.f.now) (zip (map value_of c.args.left.now) (map value_of c.args.right.now)) c.in_err-answer.field-0.0 =
    pairs_refused_at _ c.args.left.now c.args.right.now c.loop-i.answers c.loop-i.i c.index-left-i.result c.index-right-i.result _ c.loop-i-test.true c.requires.equal c.loop-i.invariant.so_far at in
    record { answers = search (rules, refused); refused = search (rules, refused) }

pub loop-i-preserved : goal.loop-i-preserved
loop-i-preserved g c =
    let at : AnswersAtPair g.F.Fn c.args.f.now (value_of (get_or c.args.left.now c.loop-i.i c.index-left-i.result), value_of (get_or c.args.right.now c.loop-i.i c.index-right-i.result)) (Ok (literal_of c.in_ok-answer.answer)) = record {
      first = _;
      second = _;
      is_first = c.unwrap_literal_ref.ensures ∙ ap value_of c.index-left-i.is;
      is_second = c.unwrap_literal_ref-in-loop-i.ensures ∙ ap value_of c.index-right-i.is;
      answer = _;
      gives = refl;
      returns = record { first = _; second = _; shows = (refl, refl); says = record { met = c.in_ok-answer.ensures } };
    } in
    let there : c.loop-i.i < length c.loop-i.answers = omega (arith, c.loop-i-test.true, c.loop-i.invariant.long, c.requires.most) in
    record {
      so_far = pairs_set _ c.args.left.now c.args.right.now c.loop-i.answers c.loop-i.i c.index-left-i.result c.index-right-i.result c.in_ok-answer.answer c.loop-i-test.true c.requires.equal there c.loop-i.invariant.so_far at;
      long = length-set c.loop-i.answers c.loop-i.i c.in_ok-answer.answer ∙ c.loop-i.invariant.long;
    }

pub returns-clause-answers : goal.returns-clause-answers
returns-clause-answers g c = record { each = pairs_taken _ c.args.left.now c.args.right.now c.loop-i.answers c.loop-i.i (omega (arith, c.loop-i-test.false, c.loop-i.auto.i-end)) c.requires.equal c.loop-i.invariant.so_far }
