use Rattle.std.proofs.Common.{◌≡◌, ◌≤◌, sym, ◌∙◌, arith}
use Rattle.wgsl_rules.specs.Paths.{parts}
use Rattle.wgsl_rules.specs.Values.{count}
use Rattle.wgsl_values.specs.View.{value_of}
use Rattle.wgsl_values.proofs.lemmas.Nodes.{part-smaller}
use Rattle.wgsl_store.proofs.SamePaths.{other-count, other-part, same-part, same-at-end}
use Rattle.wgsl_store.proofs.parts.+have_same_paths.Goals as goal

pub returns-then-n-part_count : goal.returns-then-n-part_count
returns-then-n-part_count t c =
    other-count (value_of c.args.value.now) (value_of c.args.other.now) c.part_count-n.result c.part_count.result c.part_count-n.ensures c.part_count.ensures c.if-n-part_count.true

pub have_same_paths-requires : goal.have_same_paths-requires
have_same_paths-requires t c = let small = part-smaller c.loop-i.i (value_of c.args.value.now) (value_of c.part.result.now) c.part.ensures in (rw (← c.decreases) small, tt)

pub returns-then-not-have_same_paths : goal.returns-then-not-have_same_paths
returns-then-not-have_same_paths t c =
    other-part c.loop-i.i (value_of c.args.value.now) (value_of c.args.other.now) (value_of c.part.result.now) (value_of c.part-in-loop-i.result.now)
    c.loop-i.invariant c.part.ensures c.part-in-loop-i.ensures (sym c.if-not-have_same_paths.true ∙ c.have_same_paths.ensures)

pub loop-i-preserved : goal.loop-i-preserved
loop-i-preserved t c =
    same-part c.loop-i.i (value_of c.args.value.now) (value_of c.args.other.now) (value_of c.part.result.now) (value_of c.part-in-loop-i.result.now)
    c.loop-i.invariant c.part.ensures c.part-in-loop-i.ensures (sym c.if-not-have_same_paths.false ∙ c.have_same_paths.ensures)

pub returns : goal.returns
returns t c =
    let counted : count (parts (value_of c.args.value.now)) ≡ count (parts (value_of c.args.other.now)) = omega (arith, c.if-n-part_count.false) in
    let done : count (parts (value_of c.args.value.now)) ≤ c.loop-i.i = omega (arith, c.loop-i-test.false) in
    same-at-end c.loop-i.i (value_of c.args.value.now) (value_of c.args.other.now) c.loop-i.invariant counted done
