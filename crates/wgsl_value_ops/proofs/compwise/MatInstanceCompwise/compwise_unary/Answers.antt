use Rattle.std.proofs.Common.{rules, ◌≡◌, ◌+◌, ◌++◌, [], ◌∷◌, length, map, ◌∙◌, arith}
use Rattle.wgsl_rules.specs.Paths.{parts}
use Rattle.wgsl_rules.specs.Values.{count}
use Rattle.wgsl_values.specs.Iterators.{all_components}
use Rattle.wgsl_values.specs.View.{value_of, mat_view}
use Rattle.wgsl_values.specs.declared.instance.Instance.{Vec}
use Rattle.wgsl_value_ops.specs.Closures.{AnswersAt, components_of}
use Rattle.wgsl_value_ops.proofs.Answering.{length-values, unary-literals}
use Rattle.wgsl_value_ops.proofs.ColumnAnswers.{callable-here, callable-later, column-known, column-storable, column_refused, columns_from, columns_push, matrix-answered, matrix-known, matrix-paths, matrix-storable, no_columns_left}
use Rattle.wgsl_value_ops.proofs.compwise.MatInstanceCompwise.compwise_unary.Goals as goal

pub answers-requires-clause-literals : goal.answers-requires-clause-literals
answers-requires-clause-literals g c =
    let d = column-known c.args.self.now c.loop-i.i c.column.result.now (matrix-known c.args.self.now c.requires.own) c.column.ensures in
    d.literals

pub answers-requires-clause-callable : goal.answers-requires-clause-callable
answers-requires-clause-callable g c =
    let m = c.args.self.now in
    let d = column-known m c.loop-i.i c.column.result.now (matrix-known m c.requires.own) c.column.ensures in
    callable-here g.F.Fn c.args.f (all_components (columns_from c.loop-i.i m)) (map value_of c.column.result.now) (all_components (columns_from (c.loop-i.i + 1) m)) d.split c.loop-i.invariant.callable

pub returns-in_err-components-clause-answers : goal.returns-in_err-components-clause-answers
returns-in_err-components-clause-answers g c =
    let m = c.args.self.now in
    let s = c.column.result.now in
    let k = matrix-known m c.requires.own in
    let d = column-known m c.loop-i.i s k c.column.ensures in
    let refused = column_refused (AnswersAt g.F.Fn c.args.f) (components_of (mat_view m)) (all_components (columns_from c.loop-i.i m)) (map value_of s) (all_components (columns_from (c.loop-i.i + 1) m)) d.split
    (unary-literals g.F.Fn c.args.f) m k (length-values s ∙ d.rows) c.loop-i.columns.items c.loop-i.invariant.so_far _ c.in_err-components.ensures.answers in
    search (rules, refused)

pub new-requires : goal.new-requires
new-requires g c =
    let m = c.args.self.now in
    let s = c.column.result.now in
    let k = matrix-known m c.requires.own in
    let d = column-known m c.loop-i.i s k c.column.ensures in
    column-storable (AnswersAt g.F.Fn c.args.f) (components_of (mat_view m)) (all_components (columns_from c.loop-i.i m)) (map value_of s) (all_components (columns_from (c.loop-i.i + 1) m)) d.split
    (unary-literals g.F.Fn c.args.f) m k (length-values s ∙ d.rows) c.loop-i.columns.items c.loop-i.invariant.so_far c.in_ok-components.components.items c.in_ok-components.ensures.answers c.in_ok-components.ensures.storable

pub loop-i-preserved : goal.loop-i-preserved
loop-i-preserved g c =
    let m = c.args.self.now in
    let s = c.column.result.now in
    let k = matrix-known m c.requires.own in
    let d = column-known m c.loop-i.i s k c.column.ensures in
    let same : c.push.new.self.items ≡ c.loop-i.columns.items ++ Vec c.new.result ∷ [] = search rules in
    let pushed = columns_push (AnswersAt g.F.Fn c.args.f) (components_of (mat_view m)) (all_components (columns_from c.loop-i.i m)) (map value_of s) (all_components (columns_from (c.loop-i.i + 1) m)) d.split
    (unary-literals g.F.Fn c.args.f) m k (length-values s ∙ d.rows) c.loop-i.columns.items c.loop-i.invariant.so_far c.in_ok-components.components.items c.in_ok-components.ensures.answers c.in_ok-components.ensures.storable
    c.new.result c.new.ensures in
    record {
      counted = search rules;
      room = search rules;
      callable = callable-later g.F.Fn c.args.f (all_components (columns_from c.loop-i.i m)) (map value_of s) (all_components (columns_from (c.loop-i.i + 1) m)) d.split c.loop-i.invariant.callable;
      so_far = rw same pushed;
    }

pub from_cols-requires : goal.from_cols-requires
from_cols-requires g c =
    let m = c.args.self.now in
    let counted : length c.loop-i.columns.items ≡ count (parts (mat_view m)) = omega (arith, c.c-i-end.ensures, c.loop-i-test.false, c.loop-i.auto.i-end, c.loop-i.invariant.counted, c.loop-i.columns.ok.0) in
    matrix-storable (AnswersAt g.F.Fn c.args.f) (components_of (mat_view m)) m (matrix-known m c.requires.own) c.loop-i.columns.items counted c.requires.one_kind
    (all_components (columns_from c.loop-i.i m)) (no_columns_left m c.loop-i.i (omega (arith, c.c-i-end.ensures, c.loop-i-test.false))) c.loop-i.invariant.so_far

pub returns-clause-answers : goal.returns-clause-answers
returns-clause-answers g c =
    let m = c.args.self.now in
    let counted : length c.loop-i.columns.items ≡ count (parts (mat_view m)) = omega (arith, c.c-i-end.ensures, c.loop-i-test.false, c.loop-i.auto.i-end, c.loop-i.invariant.counted, c.loop-i.columns.ok.0) in
    matrix-answered (AnswersAt g.F.Fn c.args.f) (components_of (mat_view m)) m (matrix-known m c.requires.own) c.loop-i.columns.items counted c.requires.one_kind
    (all_components (columns_from c.loop-i.i m)) (no_columns_left m c.loop-i.i (omega (arith, c.c-i-end.ensures, c.loop-i-test.false))) c.loop-i.invariant.so_far c.from_cols.result c.from_cols.ensures

pub returns-clause-storable : goal.returns-clause-storable
returns-clause-storable g c =
    let m = c.args.self.now in
    let counted : length c.loop-i.columns.items ≡ count (parts (mat_view m)) = omega (arith, c.c-i-end.ensures, c.loop-i-test.false, c.loop-i.auto.i-end, c.loop-i.invariant.counted, c.loop-i.columns.ok.0) in
    rw c.from_cols.ensures
    (matrix-storable (AnswersAt g.F.Fn c.args.f) (components_of (mat_view m)) m (matrix-known m c.requires.own) c.loop-i.columns.items counted c.requires.one_kind
    (all_components (columns_from c.loop-i.i m)) (no_columns_left m c.loop-i.i (omega (arith, c.c-i-end.ensures, c.loop-i-test.false))) c.loop-i.invariant.so_far)

pub returns-clause-shape : goal.returns-clause-shape
returns-clause-shape g c =
    let m = c.args.self.now in
    let counted : length c.loop-i.columns.items ≡ count (parts (mat_view m)) = omega (arith, c.c-i-end.ensures, c.loop-i-test.false, c.loop-i.auto.i-end, c.loop-i.invariant.counted, c.loop-i.columns.ok.0) in
    matrix-paths (AnswersAt g.F.Fn c.args.f) (components_of (mat_view m)) m (matrix-known m c.requires.own) c.loop-i.columns.items counted c.requires.one_kind
    (all_components (columns_from c.loop-i.i m)) (no_columns_left m c.loop-i.i (omega (arith, c.c-i-end.ensures, c.loop-i-test.false))) c.loop-i.invariant.so_far c.from_cols.result c.from_cols.ensures
