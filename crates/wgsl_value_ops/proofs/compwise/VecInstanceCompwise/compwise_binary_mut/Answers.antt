use Rattle.std.proofs.Common.{rules, map, ap, ap₂, ◌∙◌, Some, arith}
use Rattle.std.specs.List.{zip}
use Rattle.wgsl_rules.specs.Paths.{parts}
use Rattle.wgsl_rules.specs.Refusals.{compwise_binary}
use Rattle.wgsl_rules.specs.Values.{count}
use Rattle.wgsl_values.specs.View.{value_of}
use Rattle.wgsl_value_ops.specs.Closures.{AnswersAtPair}
use Rattle.wgsl_value_ops.proofs.Answering.{count-of, length-pairs, length-values, pair-literals, pairs-are, pairs-answered, pairs-unequal, unequal-vectors, vector-known}
use Rattle.wgsl_value_ops.proofs.InPlace.{replaced-answered, replaced-paths, replaced-storable}
use Rattle.wgsl_value_ops.proofs.compwise.VecInstanceCompwise.compwise_binary_mut.Goals as goal

pub answer_pairs_into-requires : goal.answer_pairs_into-requires
answer_pairs_into-requires g c =
    let k = vector-known c.args.self.now c.as_slice-left.result.now c.as_slice-left.ensures c.requires.own in
    let l = vector-known c.args.rhs.now c.as_slice-right.result.now c.as_slice-right.ensures c.requires.others in
    record {
      left = k.literals;
      right = l.literals;
      equal = c.if-left-right.false;
      most = k.most;
      callable = rw (pairs-are g.F.Fn c.args.f c.args.self.now c.args.rhs.now c.as_slice-left.result.now c.as_slice-right.result.now k l) at c.requires.callable;
    }

pub returns-then-left-right-clause-answers : goal.returns-then-left-right-clause-answers
returns-then-left-right-clause-answers g c =
    let k = vector-known c.args.self.now c.as_slice-left.result.now c.as_slice-left.ensures c.requires.own in
    let l = vector-known c.args.rhs.now c.as_slice-right.result.now c.as_slice-right.ensures c.requires.others in
    pairs-unequal g.F.Fn c.args.f c.args.self.now c.args.rhs.now c.as_slice-left.result.now c.as_slice-right.result.now k l _ c.if-left-right.true
    (ap₂ (λ s t. Some (compwise_binary s t)) c.in_ok-ty.ensures c.in_ok-ty-2.ensures)

pub returns-in_err-ty-clause-no_memory : goal.returns-in_err-ty-clause-no_memory
returns-in_err-ty-clause-no_memory g c = λ vector same. absurd (unequal-vectors c.args.self.now c.args.rhs.now c.as_slice-left.result.now c.as_slice-right.result.now c.as_slice-left.ensures c.requires.own c.as_slice-right.ensures c.requires.others c.if-left-right.true same)

pub returns-in_err-ty-2-clause-no_memory : goal.returns-in_err-ty-2-clause-no_memory
returns-in_err-ty-2-clause-no_memory g c = λ vector same. absurd (unequal-vectors c.args.self.now c.args.rhs.now c.as_slice-left.result.now c.as_slice-right.result.now c.as_slice-left.ensures c.requires.own c.as_slice-right.ensures c.requires.others c.if-left-right.true same)

pub returns-then-left-right-clause-no_memory : goal.returns-then-left-right-clause-no_memory
returns-then-left-right-clause-no_memory g c = λ vector same. absurd (unequal-vectors c.args.self.now c.args.rhs.now c.as_slice-left.result.now c.as_slice-right.result.now c.as_slice-left.ensures c.requires.own c.as_slice-right.ensures c.requires.others c.if-left-right.true same)

pub returns-in-Err-clause-answers : goal.returns-in-Err-clause-answers
returns-in-Err-clause-answers g c =
    let k = vector-known c.args.self.now c.as_slice-left.result.now c.as_slice-left.ensures c.requires.own in
    let l = vector-known c.args.rhs.now c.as_slice-right.result.now c.as_slice-right.ensures c.requires.others in
    pairs-answered g.F.Fn c.args.f c.args.self.now c.args.rhs.now c.as_slice-left.result.now c.as_slice-right.result.now k l _ c.if-left-right.false
    (search (rules, c.in-Err.ensures.answers))

pub returns-in-Err-clause-no_memory : goal.returns-in-Err-clause-no_memory
returns-in-Err-clause-no_memory g c =
    let k = vector-known c.args.self.now c.as_slice-left.result.now c.as_slice-left.ensures c.requires.own in
    let l = vector-known c.args.rhs.now c.as_slice-right.result.now c.as_slice-right.ensures c.requires.others in
    λ vector same. rw (pairs-are g.F.Fn c.args.f c.args.self.now c.args.rhs.now c.as_slice-left.result.now c.as_slice-right.result.now k l) (search (rules, c.in-Err.ensures.refused))

pub replace_components-requires : goal.replace_components-requires
replace_components-requires g c =
    let k = vector-known c.args.self.now c.as_slice-left.result.now c.as_slice-left.ensures c.requires.own in
    omega (arith, ap (λ v. count (parts v)) k.is ∙ count-of (map value_of c.as_slice-left.result.now), length-values c.as_slice-left.result.now, k.most)

pub returns-clause-answers : goal.returns-clause-answers
returns-clause-answers g c =
    let s = c.as_slice-left.result.now in
    let t = c.as_slice-right.result.now in
    let k = vector-known c.args.self.now s c.as_slice-left.ensures c.requires.own in
    let l = vector-known c.args.rhs.now t c.as_slice-right.ensures c.requires.others in
    pairs-answered g.F.Fn c.args.f c.args.self.now c.args.rhs.now s t k l _ c.if-left-right.false
    (replaced-answered (AnswersAtPair g.F.Fn c.args.f) (zip (map value_of s) (map value_of t)) (pair-literals g.F.Fn c.args.f)
    (rw (pairs-are g.F.Fn c.args.f c.args.self.now c.args.rhs.now s t k l) at c.requires.one_kind) c.args.self.now c.replace_components.new.target s
    k (length-pairs s t c.if-left-right.false) c.answer_pairs_into.new.answers c.in_default.ensures.answers c.replace_components.ensures.components)

pub returns-clause-storable : goal.returns-clause-storable
returns-clause-storable g c =
    let s = c.as_slice-left.result.now in
    let t = c.as_slice-right.result.now in
    let k = vector-known c.args.self.now s c.as_slice-left.ensures c.requires.own in
    let l = vector-known c.args.rhs.now t c.as_slice-right.ensures c.requires.others in
    replaced-storable (AnswersAtPair g.F.Fn c.args.f) (zip (map value_of s) (map value_of t)) (pair-literals g.F.Fn c.args.f)
    (rw (pairs-are g.F.Fn c.args.f c.args.self.now c.args.rhs.now s t k l) at c.requires.one_kind) c.args.self.now c.replace_components.new.target s
    k (length-pairs s t c.if-left-right.false) c.answer_pairs_into.new.answers c.in_default.ensures.answers c.replace_components.ensures.components c.replace_components.ensures.storable

pub returns-clause-shape : goal.returns-clause-shape
returns-clause-shape g c =
    let s = c.as_slice-left.result.now in
    let t = c.as_slice-right.result.now in
    let k = vector-known c.args.self.now s c.as_slice-left.ensures c.requires.own in
    let l = vector-known c.args.rhs.now t c.as_slice-right.ensures c.requires.others in
    replaced-paths (AnswersAtPair g.F.Fn c.args.f) (zip (map value_of s) (map value_of t)) (pair-literals g.F.Fn c.args.f)
    (rw (pairs-are g.F.Fn c.args.f c.args.self.now c.args.rhs.now s t k l) at c.requires.one_kind) c.args.self.now c.replace_components.new.target s
    k (length-pairs s t c.if-left-right.false) c.answer_pairs_into.new.answers c.in_default.ensures.answers c.replace_components.ensures.components
