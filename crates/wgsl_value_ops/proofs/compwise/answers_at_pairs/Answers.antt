use Rattle.std.proofs.Common.{rules, ◌≡◌, ◌++◌, [], ◌∷◌, get_or, Ok, Err, Some, refl, sym, ap, ap₂, ◌∙◌, arith}
use Rattle.wgsl_value_ops.proofs.Answering.{pair-got, storable-append, pairs_push, pairs_all, pair_refused}
use Rattle.wgsl_value_ops.specs.Closures.{AnswersAtPair}
use Rattle.wgsl_rules.specs.Values.{Val}
use Rattle.wgsl_values.specs.View.{value_of}
use Rattle.wgsl_values.proofs.Conversions.{item-literal}
use Rattle.wgsl_value_ops.proofs.compwise.answers_at_pairs.Goals as goal

pub unwrap_literal_ref-requires : goal.unwrap_literal_ref-requires
unwrap_literal_ref-requires g c = rw c.index-left-i.is (item-literal c.args.left.now c.loop-i.i c.index-left-i.result c.loop-i-test.true c.requires.left)

pub unwrap_literal_ref-requires-in-loop-i : goal.unwrap_literal_ref-requires-in-loop-i
unwrap_literal_ref-requires-in-loop-i g c = rw c.index-right-i.is (item-literal c.args.right.now c.loop-i.i c.index-right-i.result (omega arith) c.requires.right)

pub f-requires : goal.f-requires
f-requires g c =
    let first = c.unwrap_literal_ref.ensures ∙ ap value_of c.index-left-i.is in
    let second = c.unwrap_literal_ref-in-loop-i.ensures ∙ ap value_of c.index-right-i.is in
    c.requires.callable.at c.loop-i.i c.unwrap_literal_ref.result c.unwrap_literal_ref-in-loop-i.result
    (pair-got c.args.left.now c.args.right.now c.loop-i.i c.index-left-i.result c.index-right-i.result c.loop-i-test.true c.requires.equal ∙ ap Some (ap₂ (λ (x y : Val). (x, y)) (sym first) (sym second)))

pub returns-in_err-answer-clause-answers : goal.returns-in_err-answer-clause-answers
returns-in_err-answer-clause-answers g c =
    let at : AnswersAtPair g.F.Fn c.args.f.now (value_of (get_or c.args.left.now c.loop-i.i c.index-left-i.result), value_of (get_or c.args.right.now c.loop-i.i c.index-right-i.result)) (Err c.in_err-answer.field-0.0) = record {
      first = _;
      second = _;
      is_first = c.unwrap_literal_ref.ensures ∙ ap value_of c.index-left-i.is;
      is_second = c.unwrap_literal_ref-in-loop-i.ensures ∙ ap value_of c.index-right-i.is;
      answer = _;
      gives = refl;
      returns = record { first = _; second = _; shows = (refl, refl); says = record { met = c.in_err-answer.ensures } };
    } in
    search (rules, pair_refused _ c.args.left.now c.args.right.now c.loop-i.i c.index-left-i.result c.index-right-i.result _ _ c.loop-i-test.true c.requires.equal c.loop-i.invariant.so_far at)

pub loop-i-preserved : goal.loop-i-preserved
loop-i-preserved g c =
    let at : AnswersAtPair g.F.Fn c.args.f.now (value_of (get_or c.args.left.now c.loop-i.i c.index-left-i.result), value_of (get_or c.args.right.now c.loop-i.i c.index-right-i.result)) (Ok (value_of c.component.result)) = record {
      first = _;
      second = _;
      is_first = c.unwrap_literal_ref.ensures ∙ ap value_of c.index-left-i.is;
      is_second = c.unwrap_literal_ref-in-loop-i.ensures ∙ ap value_of c.index-right-i.is;
      answer = _;
      gives = ap Ok (sym c.component.ensures.value);
      returns = record { first = _; second = _; shows = (refl, refl); says = record { met = c.in_ok-answer.ensures } };
    } in
    let same : c.push.new.self.items ≡ c.loop-i.out.items ++ c.component.result ∷ [] = search rules in
    record {
      count = search rules;
      room = search rules;
      storable = rw same (storable-append c.loop-i.out.items c.component.result c.loop-i.invariant.storable c.component.ensures.storable);
      so_far = rw same (pairs_push _ c.args.left.now c.args.right.now c.loop-i.i c.index-left-i.result c.index-right-i.result c.loop-i.out.items c.component.result c.loop-i-test.true c.requires.equal c.loop-i.invariant.so_far at);
    }

pub returns-clause-answers : goal.returns-clause-answers
returns-clause-answers g c = record { each = pairs_all _ c.args.left.now c.args.right.now _ _ c.loop-i-test.false c.requires.equal c.loop-i.invariant.so_far }
