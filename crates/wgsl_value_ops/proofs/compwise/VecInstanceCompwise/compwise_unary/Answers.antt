use Rattle.std.proofs.Common.{rules, map}
use Rattle.wgsl_value_ops.proofs.Answering.{length-values, unary-storable, unary-literals, vector-answered, vector-components, vector-known, vector-paths}
use Rattle.wgsl_value_ops.specs.Closures.{AnswersAt}
use Rattle.wgsl_values.specs.View.{value_of}
use Rattle.wgsl_value_ops.proofs.compwise.VecInstanceCompwise.compwise_unary.Goals as goal

pub answers-requires : goal.answers-requires
answers-requires g c =
    let is = vector-components c.args.self.now c.as_slice.result.now c.as_slice.ensures in
    record {
      literals = (vector-known c.args.self.now c.as_slice.result.now c.as_slice.ensures c.requires.own).literals;
      callable = rw is at c.requires.callable;
    }

pub returns-in_err-answers-clause-answers : goal.returns-in_err-answers-clause-answers
returns-in_err-answers-clause-answers g c =
    let is = vector-components c.args.self.now c.as_slice.result.now c.as_slice.ensures in
    rw is (search (rules, c.in_err-answers.ensures.answers))

pub new-requires : goal.new-requires
new-requires g c =
    let is = vector-components c.args.self.now c.as_slice.result.now c.as_slice.ensures in
    unary-storable g.F.Fn c.args.f c.args.self.now c.as_slice.result.now c.in_ok-answers.field-0.items (vector-known c.args.self.now c.as_slice.result.now c.as_slice.ensures c.requires.own) (rw is at c.requires.one_kind)
    c.in_ok-answers.ensures.answers c.in_ok-answers.ensures.storable

pub returns-clause-answers : goal.returns-clause-answers
returns-clause-answers g c =
    let is = vector-components c.args.self.now c.as_slice.result.now c.as_slice.ensures in
    rw is (vector-answered (AnswersAt g.F.Fn c.args.f) (map value_of c.as_slice.result.now) (unary-literals g.F.Fn c.args.f) c.new.result c.in_ok-answers.field-0.items c.new.ensures c.in_ok-answers.ensures.answers.each)

pub returns-clause-storable : goal.returns-clause-storable
returns-clause-storable g c =
    let is = vector-components c.args.self.now c.as_slice.result.now c.as_slice.ensures in
    rw c.new.ensures
    (unary-storable g.F.Fn c.args.f c.args.self.now c.as_slice.result.now c.in_ok-answers.field-0.items (vector-known c.args.self.now c.as_slice.result.now c.as_slice.ensures c.requires.own) (rw is at c.requires.one_kind)
    c.in_ok-answers.ensures.answers c.in_ok-answers.ensures.storable)

pub returns-clause-shape : goal.returns-clause-shape
returns-clause-shape g c =
    let k = vector-known c.args.self.now c.as_slice.result.now c.as_slice.ensures c.requires.own in
    let n = length-values c.as_slice.result.now in
    vector-paths (AnswersAt g.F.Fn c.args.f) (map value_of c.as_slice.result.now) (unary-literals g.F.Fn c.args.f) c.new.result c.args.self.now c.as_slice.result.now c.in_ok-answers.field-0.items c.new.ensures k n c.in_ok-answers.ensures.answers.each
