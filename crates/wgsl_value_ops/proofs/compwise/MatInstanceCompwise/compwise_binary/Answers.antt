use Rattle.std.proofs.Common.{rules, ◌≡◌, ◌+◌, ◌++◌, [], ◌∷◌, length, map, sym, ◌∙◌, arith}
use Rattle.std.specs.List.{zip}
use Rattle.wgsl_rules.specs.Paths.{parts}
use Rattle.wgsl_rules.specs.Values.{count}
use Rattle.wgsl_values.specs.View.{value_of, mat_view}
use Rattle.wgsl_values.specs.declared.instance.Instance.{Vec}
use Rattle.wgsl_value_ops.specs.Closures.{AnswersAtPair, pairs_of}
use Rattle.wgsl_value_ops.proofs.Answering.{pair-literals}
use Rattle.wgsl_value_ops.proofs.ColumnAnswers.{as_many_columns, callable_pairs-here, callable_pairs-later, column-known, column-pair-known, column-storable, column_refused, columns_push, matrices-answered, matrix-answered, matrix-known, matrix-paths, matrix-storable, no_pairs_left, pairs_from}
use Rattle.wgsl_value_ops.proofs.compwise.MatInstanceCompwise.compwise_binary.Goals as goal

pub column-requires-in-loop-i-clause-within : goal.column-requires-in-loop-i-clause-within
column-requires-in-loop-i-clause-within g c =
    let k = matrix-known c.args.self.now c.requires.own in
    let l = matrix-known c.args.rhs.now c.requires.others in
    omega (arith, as_many_columns c.args.self.now c.args.rhs.now k l (sym c.have_one_shape.ensures ∙ c.if-not-have_one_shape.false), c.c-i-end.ensures, c.loop-i-test.true)

pub answers_at_pairs-requires-clause-right : goal.answers_at_pairs-requires-clause-right
answers_at_pairs-requires-clause-right g c =
    let d = column-known c.args.rhs.now c.loop-i.i c.column-in-loop-i.result.now (matrix-known c.args.rhs.now c.requires.others) c.column-in-loop-i.ensures in
    d.literals

pub answers_at_pairs-requires-clause-equal : goal.answers_at_pairs-requires-clause-equal
answers_at_pairs-requires-clause-equal g c =
    let p = column-pair-known c.args.self.now c.args.rhs.now (matrix-known c.args.self.now c.requires.own) (matrix-known c.args.rhs.now c.requires.others) (sym c.have_one_shape.ensures ∙ c.if-not-have_one_shape.false) c.loop-i.i c.column.result.now c.column-in-loop-i.result.now
    c.column.ensures c.column-in-loop-i.ensures in
    p.equal

pub answers_at_pairs-requires-clause-callable : goal.answers_at_pairs-requires-clause-callable
answers_at_pairs-requires-clause-callable g c =
    let m = c.args.self.now in
    let w = c.args.rhs.now in
    let p = column-pair-known m w (matrix-known m c.requires.own) (matrix-known w c.requires.others) (sym c.have_one_shape.ensures ∙ c.if-not-have_one_shape.false) c.loop-i.i c.column.result.now c.column-in-loop-i.result.now c.column.ensures c.column-in-loop-i.ensures in
    callable_pairs-here g.F.Fn c.args.f (pairs_from c.loop-i.i m w) (zip (map value_of c.column.result.now) (map value_of c.column-in-loop-i.result.now)) (pairs_from (c.loop-i.i + 1) m w) p.split
    c.loop-i.invariant.callable

pub returns-in_err-components-clause-answers : goal.returns-in_err-components-clause-answers
returns-in_err-components-clause-answers g c =
    let m = c.args.self.now in
    let w = c.args.rhs.now in
    let k = matrix-known m c.requires.own in
    let p = column-pair-known m w k (matrix-known w c.requires.others) (sym c.have_one_shape.ensures ∙ c.if-not-have_one_shape.false) c.loop-i.i c.column.result.now c.column-in-loop-i.result.now c.column.ensures c.column-in-loop-i.ensures in
    let refused = column_refused (AnswersAtPair g.F.Fn c.args.f) (pairs_of (mat_view m) (mat_view w)) (pairs_from c.loop-i.i m w) (zip (map value_of c.column.result.now) (map value_of c.column-in-loop-i.result.now))
    (pairs_from (c.loop-i.i + 1) m w) p.split (pair-literals g.F.Fn c.args.f) m k p.rows c.loop-i.columns.items c.loop-i.invariant.so_far _ c.in_err-components.ensures.answers in
    matrices-answered (AnswersAtPair g.F.Fn c.args.f) (mat_view m) (mat_view w) _ (sym c.have_one_shape.ensures ∙ c.if-not-have_one_shape.false) (search (rules, refused))

pub new-requires : goal.new-requires
new-requires g c =
    let m = c.args.self.now in
    let w = c.args.rhs.now in
    let k = matrix-known m c.requires.own in
    let p = column-pair-known m w k (matrix-known w c.requires.others) (sym c.have_one_shape.ensures ∙ c.if-not-have_one_shape.false) c.loop-i.i c.column.result.now c.column-in-loop-i.result.now c.column.ensures c.column-in-loop-i.ensures in
    column-storable (AnswersAtPair g.F.Fn c.args.f) (pairs_of (mat_view m) (mat_view w)) (pairs_from c.loop-i.i m w) (zip (map value_of c.column.result.now) (map value_of c.column-in-loop-i.result.now))
    (pairs_from (c.loop-i.i + 1) m w) p.split (pair-literals g.F.Fn c.args.f) m k p.rows c.loop-i.columns.items c.loop-i.invariant.so_far c.in_ok-components.components.items c.in_ok-components.ensures.answers
    c.in_ok-components.ensures.storable

pub loop-i-preserved : goal.loop-i-preserved
loop-i-preserved g c =
    let m = c.args.self.now in
    let w = c.args.rhs.now in
    let k = matrix-known m c.requires.own in
    let p = column-pair-known m w k (matrix-known w c.requires.others) (sym c.have_one_shape.ensures ∙ c.if-not-have_one_shape.false) c.loop-i.i c.column.result.now c.column-in-loop-i.result.now c.column.ensures c.column-in-loop-i.ensures in
    let here = zip (map value_of c.column.result.now) (map value_of c.column-in-loop-i.result.now) in
    let same : c.push.new.self.items ≡ c.loop-i.columns.items ++ Vec c.new.result ∷ [] = search rules in
    let pushed = columns_push (AnswersAtPair g.F.Fn c.args.f) (pairs_of (mat_view m) (mat_view w)) (pairs_from c.loop-i.i m w) here
    (pairs_from (c.loop-i.i + 1) m w) p.split (pair-literals g.F.Fn c.args.f) m k p.rows c.loop-i.columns.items c.loop-i.invariant.so_far c.in_ok-components.components.items c.in_ok-components.ensures.answers
    c.in_ok-components.ensures.storable c.new.result c.new.ensures in
    record {
      counted = search rules;
      room = search rules;
      callable = callable_pairs-later g.F.Fn c.args.f (pairs_from c.loop-i.i m w) here (pairs_from (c.loop-i.i + 1) m w) p.split c.loop-i.invariant.callable;
      so_far = rw same pushed;
    }

pub from_cols-requires : goal.from_cols-requires
from_cols-requires g c =
    let m = c.args.self.now in
    let w = c.args.rhs.now in
    let k = matrix-known m c.requires.own in
    let counted : length c.loop-i.columns.items ≡ count (parts (mat_view m)) = omega (arith, c.c-i-end.ensures, c.loop-i-test.false, c.loop-i.auto.i-end, c.loop-i.invariant.counted, c.loop-i.columns.ok.0) in
    matrix-storable (AnswersAtPair g.F.Fn c.args.f) (pairs_of (mat_view m) (mat_view w)) m k c.loop-i.columns.items counted c.requires.one_kind
    (pairs_from c.loop-i.i m w) (no_pairs_left m w k (matrix-known w c.requires.others) c.loop-i.i (omega (arith, c.c-i-end.ensures, c.loop-i-test.false))) c.loop-i.invariant.so_far

pub returns-clause-answers : goal.returns-clause-answers
returns-clause-answers g c =
    let m = c.args.self.now in
    let w = c.args.rhs.now in
    let k = matrix-known m c.requires.own in
    let counted : length c.loop-i.columns.items ≡ count (parts (mat_view m)) = omega (arith, c.c-i-end.ensures, c.loop-i-test.false, c.loop-i.auto.i-end, c.loop-i.invariant.counted, c.loop-i.columns.ok.0) in
    matrices-answered (AnswersAtPair g.F.Fn c.args.f) (mat_view m) (mat_view w) _ (sym c.have_one_shape.ensures ∙ c.if-not-have_one_shape.false)
    (matrix-answered (AnswersAtPair g.F.Fn c.args.f) (pairs_of (mat_view m) (mat_view w)) m k c.loop-i.columns.items counted c.requires.one_kind
    (pairs_from c.loop-i.i m w) (no_pairs_left m w k (matrix-known w c.requires.others) c.loop-i.i (omega (arith, c.c-i-end.ensures, c.loop-i-test.false))) c.loop-i.invariant.so_far c.from_cols.result c.from_cols.ensures)

pub returns-clause-storable : goal.returns-clause-storable
returns-clause-storable g c =
    let m = c.args.self.now in
    let w = c.args.rhs.now in
    let k = matrix-known m c.requires.own in
    let counted : length c.loop-i.columns.items ≡ count (parts (mat_view m)) = omega (arith, c.c-i-end.ensures, c.loop-i-test.false, c.loop-i.auto.i-end, c.loop-i.invariant.counted, c.loop-i.columns.ok.0) in
    rw c.from_cols.ensures
    (matrix-storable (AnswersAtPair g.F.Fn c.args.f) (pairs_of (mat_view m) (mat_view w)) m k c.loop-i.columns.items counted c.requires.one_kind
    (pairs_from c.loop-i.i m w) (no_pairs_left m w k (matrix-known w c.requires.others) c.loop-i.i (omega (arith, c.c-i-end.ensures, c.loop-i-test.false))) c.loop-i.invariant.so_far)

pub returns-clause-shape : goal.returns-clause-shape
returns-clause-shape g c =
    let m = c.args.self.now in
    let w = c.args.rhs.now in
    let k = matrix-known m c.requires.own in
    let counted : length c.loop-i.columns.items ≡ count (parts (mat_view m)) = omega (arith, c.c-i-end.ensures, c.loop-i-test.false, c.loop-i.auto.i-end, c.loop-i.invariant.counted, c.loop-i.columns.ok.0) in
    matrix-paths (AnswersAtPair g.F.Fn c.args.f) (pairs_of (mat_view m) (mat_view w)) m k c.loop-i.columns.items counted c.requires.one_kind
    (pairs_from c.loop-i.i m w) (no_pairs_left m w k (matrix-known w c.requires.others) c.loop-i.i (omega (arith, c.c-i-end.ensures, c.loop-i-test.false))) c.loop-i.invariant.so_far c.from_cols.result c.from_cols.ensures
