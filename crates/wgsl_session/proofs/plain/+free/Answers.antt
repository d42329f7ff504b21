use Rattle.std.proofs.Common.{◌<◌, ◌≤◌, ◌+◌, ◌*◌, refl, sym, ◌∙◌, arith}
use Rattle.std.proofs.lemmas.Bool.{false≢true}
use Rattle.wgsl_rules.specs.Values.{count}
use Rattle.wgsl_values.specs.View.{value_of, vals_view}
use Rattle.wgsl_values.proofs.lemmas.Nodes.{nodes, all_nodes}
use Rattle.wgsl_values.proofs.lemmas.Steps.{item-storable}
use Rattle.wgsl_values.proofs.lemmas.Views.{count-vals_view}
use Rattle.wgsl_session.proofs.FreeValues.{matrix-free, item-there, not-free, free-more, all-free}
use Rattle.wgsl_session.proofs.plain.+free.Goals as goal
use Rattle.wgsl_layout.proofs.Writing.{item-smaller}

pub are_free-is_free-requires : goal.are_free-is_free-requires
are_free-is_free-requires t c =
    let is = item-there c.args.values.now c.loop-value.value-index c.value-item.result c.loop-value-test.true c.value-item.is in
    let small = item-smaller c.loop-value.value-index (vals_view c.args.values.now) (value_of c.value-item.result) is in
    let less : 2 * nodes (value_of c.value-item.result) < 2 * all_nodes (vals_view c.args.values.now) + 1 = omega (arith, small) in
    (rw (← c.decreases) less, item-storable c.loop-value.value-index (vals_view c.args.values.now) (value_of c.value-item.result) c.requires is)

pub are_free-returns-then-not-is_free : goal.are_free-returns-then-not-is_free
are_free-returns-then-not-is_free t c =
    let is = item-there c.args.values.now c.loop-value.value-index c.value-item.result c.loop-value-test.true c.value-item.is in
    ((λ h. absurd (false≢true h)), (λ e. absurd (false≢true (sym c.if-not-is_free.true ∙ c.is_free.ensures.1 (not-free c.loop-value.value-index (vals_view c.args.values.now) (value_of c.value-item.result) is e)))))

pub are_free-loop-value-preserved : goal.are_free-loop-value-preserved
are_free-loop-value-preserved t c =
    let is = item-there c.args.values.now c.loop-value.value-index c.value-item.result c.loop-value-test.true c.value-item.is in
    free-more c.loop-value.value-index (vals_view c.args.values.now) (value_of c.value-item.result) c.loop-value.invariant is (c.is_free.ensures.0 c.if-not-is_free.false)

pub are_free-returns : goal.are_free-returns
are_free-returns t c =
    let past : count (vals_view c.args.values.now) ≤ c.loop-value.value-index = omega (arith, count-vals_view c.args.values.now, c.loop-value-test.false) in
    ((λ h. all-free c.loop-value.value-index (vals_view c.args.values.now) c.loop-value.invariant past), (λ e. refl))

pub is_free-returns-in-Mat : goal.is_free-returns-in-Mat
is_free-returns-in-Mat t c = ((λ h. matrix-free c.args.value.now c.in-Mat.field-0 c.in-Mat.is c.requires), (λ e. refl))
