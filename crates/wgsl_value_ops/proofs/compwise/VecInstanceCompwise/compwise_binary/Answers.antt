use Rattle.std.proofs.Common.{rules, map, ap₂, Some}
use Rattle.std.specs.List.{zip}
use Rattle.wgsl_rules.specs.Refusals.{compwise_binary}
use Rattle.wgsl_value_ops.proofs.Answering.{length-pairs, pair-literals, pair-storable, pairs-are, pairs-answered, pairs-unequal, vector-known, vector-paths, listed-values}
use Rattle.wgsl_value_ops.specs.Closures.{AnswersAtPair}
use Rattle.wgsl_values.specs.View.{value_of}
use Rattle.wgsl_value_ops.proofs.compwise.VecInstanceCompwise.compwise_binary.Goals as goal

pub answers_at_pairs-requires-clause-callable : goal.answers_at_pairs-requires-clause-callable
answers_at_pairs-requires-clause-callable g c =
    let k = vector-known c.args.self.now c.as_slice-left.result.now c.as_slice-left.ensures c.requires.own in
    let l = vector-known c.args.rhs.now c.as_slice-right.result.now c.as_slice-right.ensures c.requires.others in
    rw (pairs-are g.F.Fn c.args.f c.args.self.now c.args.rhs.now c.as_slice-left.result.now c.as_slice-right.result.now k l) at c.requires.callable

pub returns-then-left-right-clause-answers : goal.returns-then-left-right-clause-answers
returns-then-left-right-clause-answers g c =
    let k = vector-known c.args.self.now c.as_slice-left.result.now c.as_slice-left.ensures c.requires.own in
    let l = vector-known c.args.rhs.now c.as_slice-right.result.now c.as_slice-right.ensures c.requires.others in
    pairs-unequal g.F.Fn c.args.f c.args.self.now c.args.rhs.now c.as_slice-left.result.now c.as_slice-right.result.now k l _ c.if-left-right.true
    (ap₂ (λ s t. Some (compwise_binary s t)) c.in_ok-ty.ensures c.in_ok-ty-2.ensures)

pub returns-in_err-answers_at_pairs-clause-answers : goal.returns-in_err-answers_at_pairs-clause-answers
returns-in_err-answers_at_pairs-clause-answers g c =
    let k = vector-known c.args.self.now c.as_slice-left.result.now c.as_slice-left.ensures c.requires.own in
    let l = vector-known c.args.rhs.now c.as_slice-right.result.now c.as_slice-right.ensures c.requires.others in
    pairs-answered g.F.Fn c.args.f c.args.self.now c.args.rhs.now c.as_slice-left.result.now c.as_slice-right.result.now k l _ c.if-left-right.false
    (search (rules, c.in_err-answers_at_pairs.ensures.answers))

pub new-requires : goal.new-requires
new-requires g c =
    let k = vector-known c.args.self.now c.as_slice-left.result.now c.as_slice-left.ensures c.requires.own in
    let l = vector-known c.args.rhs.now c.as_slice-right.result.now c.as_slice-right.ensures c.requires.others in
    pair-storable g.F.Fn c.args.f c.args.self.now c.as_slice-left.result.now c.as_slice-right.result.now c.in_ok-answers_at_pairs.field-0.items k c.if-left-right.false
    (rw (pairs-are g.F.Fn c.args.f c.args.self.now c.args.rhs.now c.as_slice-left.result.now c.as_slice-right.result.now k l) at c.requires.one_kind)
    c.in_ok-answers_at_pairs.ensures.answers c.in_ok-answers_at_pairs.ensures.storable

pub returns-clause-answers : goal.returns-clause-answers
returns-clause-answers g c =
    let k = vector-known c.args.self.now c.as_slice-left.result.now c.as_slice-left.ensures c.requires.own in
    let l = vector-known c.args.rhs.now c.as_slice-right.result.now c.as_slice-right.ensures c.requires.others in
    pairs-answered g.F.Fn c.args.f c.args.self.now c.args.rhs.now c.as_slice-left.result.now c.as_slice-right.result.now k l _ c.if-left-right.false
    (rw (c.new.ensures, listed-values c.in_ok-answers_at_pairs.field-0.items) c.in_ok-answers_at_pairs.ensures.answers)

pub returns-clause-storable : goal.returns-clause-storable
returns-clause-storable g c =
    let k = vector-known c.args.self.now c.as_slice-left.result.now c.as_slice-left.ensures c.requires.own in
    let l = vector-known c.args.rhs.now c.as_slice-right.result.now c.as_slice-right.ensures c.requires.others in
    rw c.new.ensures
    (pair-storable g.F.Fn c.args.f c.args.self.now c.as_slice-left.result.now c.as_slice-right.result.now c.in_ok-answers_at_pairs.field-0.items k c.if-left-right.false
    (rw (pairs-are g.F.Fn c.args.f c.args.self.now c.args.rhs.now c.as_slice-left.result.now c.as_slice-right.result.now k l) at c.requires.one_kind)
    c.in_ok-answers_at_pairs.ensures.answers c.in_ok-answers_at_pairs.ensures.storable)

pub returns-clause-shape : goal.returns-clause-shape
returns-clause-shape g c =
    let k = vector-known c.args.self.now c.as_slice-left.result.now c.as_slice-left.ensures c.requires.own in
    let n = length-pairs c.as_slice-left.result.now c.as_slice-right.result.now c.if-left-right.false in
    vector-paths (AnswersAtPair g.F.Fn c.args.f) (zip (map value_of c.as_slice-left.result.now) (map value_of c.as_slice-right.result.now)) (pair-literals g.F.Fn c.args.f)
    c.new.result c.args.self.now c.as_slice-left.result.now c.in_ok-answers_at_pairs.field-0.items c.new.ensures k n c.in_ok-answers_at_pairs.ensures.answers.each
