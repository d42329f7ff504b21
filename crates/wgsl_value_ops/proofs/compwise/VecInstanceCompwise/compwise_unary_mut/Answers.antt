use Rattle.std.proofs.Common.{rules, map, ap, ◌∙◌, arith}
use Rattle.wgsl_rules.specs.Paths.{parts}
use Rattle.wgsl_rules.specs.Values.{count}
use Rattle.wgsl_values.specs.View.{value_of}
use Rattle.wgsl_value_ops.specs.Closures.{AnswersAt}
use Rattle.wgsl_value_ops.proofs.Answering.{count-of, length-values, unary-literals, vector-components, vector-known}
use Rattle.wgsl_value_ops.proofs.InPlace.{replaced-answered, replaced-paths, replaced-storable}
use Rattle.wgsl_value_ops.proofs.compwise.VecInstanceCompwise.compwise_unary_mut.Goals as goal

pub answer_into-requires : goal.answer_into-requires
answer_into-requires g c =
    let k = vector-known c.args.self.now c.as_slice.result.now c.as_slice.ensures c.requires.own in
    record {
      literals = k.literals;
      most = k.most;
      callable = rw (vector-components c.args.self.now c.as_slice.result.now c.as_slice.ensures) at c.requires.callable;
    }

pub returns-in-Err-clause-answers : goal.returns-in-Err-clause-answers
returns-in-Err-clause-answers g c = rw (vector-components c.args.self.now c.as_slice.result.now c.as_slice.ensures) (search (rules, c.in-Err.ensures.answers))

pub returns-in-Err-clause-no_memory : goal.returns-in-Err-clause-no_memory
returns-in-Err-clause-no_memory g c = λ vector. rw (vector-components c.args.self.now c.as_slice.result.now c.as_slice.ensures) (search (rules, c.in-Err.ensures.refused))

pub replace_components-requires : goal.replace_components-requires
replace_components-requires g c =
    let k = vector-known c.args.self.now c.as_slice.result.now c.as_slice.ensures c.requires.own in
    omega (arith, ap (λ v. count (parts v)) k.is ∙ count-of (map value_of c.as_slice.result.now), length-values c.as_slice.result.now, k.most)

pub returns-clause-answers : goal.returns-clause-answers
returns-clause-answers g c =
    let s = c.as_slice.result.now in
    let is = vector-components c.args.self.now s c.as_slice.ensures in
    rw is
    (replaced-answered (AnswersAt g.F.Fn c.args.f) (map value_of s) (unary-literals g.F.Fn c.args.f) (rw is at c.requires.one_kind) c.args.self.now c.replace_components.new.target s
    (vector-known c.args.self.now s c.as_slice.ensures c.requires.own) (length-values s) c.answer_into.new.answers c.in_default.ensures.answers c.replace_components.ensures.components)

pub returns-clause-storable : goal.returns-clause-storable
returns-clause-storable g c =
    let s = c.as_slice.result.now in
    let is = vector-components c.args.self.now s c.as_slice.ensures in
    replaced-storable (AnswersAt g.F.Fn c.args.f) (map value_of s) (unary-literals g.F.Fn c.args.f) (rw is at c.requires.one_kind) c.args.self.now c.replace_components.new.target s
    (vector-known c.args.self.now s c.as_slice.ensures c.requires.own) (length-values s) c.answer_into.new.answers c.in_default.ensures.answers c.replace_components.ensures.components c.replace_components.ensures.storable

pub returns-clause-shape : goal.returns-clause-shape
returns-clause-shape g c =
    let s = c.as_slice.result.now in
    let is = vector-components c.args.self.now s c.as_slice.ensures in
    replaced-paths (AnswersAt g.F.Fn c.args.f) (map value_of s) (unary-literals g.F.Fn c.args.f) (rw is at c.requires.one_kind) c.args.self.now c.replace_components.new.target s
    (vector-known c.args.self.now s c.as_slice.ensures c.requires.own) (length-values s) c.answer_into.new.answers c.in_default.ensures.answers c.replace_components.ensures.components
