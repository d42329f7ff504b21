use Rattle.std.proofs.Common.{◌≤◌, ◌<◌, ◌+◌, ◌*◌, refl, sym, ◌∙◌, arith}
use Rattle.std.proofs.lemmas.Bool.{false≢true}
use Rattle.wgsl_rules.specs.Paths.{parts}
use Rattle.wgsl_rules.specs.Values.{count}
use Rattle.wgsl_values.specs.View.{value_of}
use Rattle.wgsl_values.proofs.lemmas.Nodes.{nodes, part-smaller}
use Rattle.wgsl_store.proofs.KeptParts.{rest-next, not-kept, all-told}
use Rattle.wgsl_store.proofs.store.Store.+holds_value.Goals as goal

pub holds_parts-holds_value-requires : goal.holds_parts-holds_value-requires
holds_parts-holds_value-requires t c =
    let small = part-smaller c.loop-i.i (value_of c.args.value.now) (value_of c.part.result.now) c.part.ensures in
    let less : 2 * nodes (value_of c.part.result.now) + 1 < 2 * nodes (value_of c.args.value.now) = omega (arith, small) in
    (rw (← c.decreases) less, tt)

pub holds_parts-returns-then-not-holds_value : goal.holds_parts-returns-then-not-holds_value
holds_parts-returns-then-not-holds_value t c = (
  (λ h. absurd (false≢true h)),
  (λ h. absurd (not-kept c.args.self.now c.loop-i.i (parts (value_of c.args.value.now)) (value_of c.part.result.now) c.loop-i.invariant c.part.ensures
      (λ k. false≢true (sym c.if-not-holds_value.true ∙ c.holds_value.ensures.1 k)) h)),
)

pub holds_parts-loop-i-preserved : goal.holds_parts-loop-i-preserved
holds_parts-loop-i-preserved t c =
    rest-next c.args.self.now c.loop-i.i (parts (value_of c.args.value.now)) (value_of c.part.result.now) c.loop-i.invariant c.part.ensures (c.holds_value.ensures.0 c.if-not-holds_value.false)

pub holds_parts-returns : goal.holds_parts-returns
holds_parts-returns t c =
    let done : count (parts (value_of c.args.value.now)) ≤ c.loop-i.i = omega (arith, c.loop-i-test.false) in
    ((λ h. all-told c.args.self.now c.loop-i.i (parts (value_of c.args.value.now)) c.loop-i.invariant done), (λ h. refl))
