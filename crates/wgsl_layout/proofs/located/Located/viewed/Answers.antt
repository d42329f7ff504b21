use Rattle.std.proofs.Common.{◌≡◌, ◌∷◌, ◌∙◌, refl}
use Rattle.wgsl_rules.specs.Values.{index as index_step, member as member_step}
use Rattle.wgsl_values.specs.View.{steps_of}
use Rattle.wgsl_values.proofs.lemmas.Views.{steps_of-Member, steps_of-Index}
use Rattle.wgsl_layout.proofs.FlatParts.{inside-on, located-off, located-on}
use Rattle.wgsl_layout.proofs.located.Located.viewed.Goals as goal

pub loop-rest-preserved-in-Member : goal.loop-rest-preserved-in-Member
loop-rest-preserved-in-Member c =
    let l = c.loop-rest in
    let all : steps_of l.rest.now ≡ member_step c.as_str.result.now ∷ steps_of c.deref-rest.result.now = rw (c.in-Member.is, steps_of-Member, c.as_str.ensures.value, c.deref-rest.ensures) refl in
    let next = c.in_ok-part-in-Member in
    record {
      there = inside-on c.args.self l.part next.part l.invariant.there next.ensures.there;
      ahead = located-on (member_step c.as_str.result.now) (steps_of c.deref-rest.result.now) (steps_of l.rest.now) l.part next.part next.ensures.range all ∙ l.invariant.ahead;
    }

pub loop-rest-preserved : goal.loop-rest-preserved
loop-rest-preserved c =
    let l = c.loop-rest in
    let all : steps_of l.rest.now ≡ index_step c.in-Index.i ∷ steps_of c.deref-rest-in-Index.result.now = rw (c.in-Index.is, steps_of-Index, c.deref-rest-in-Index.ensures) refl in
    let next = c.in_ok-part-in-Index in
    record {
      there = inside-on c.args.self l.part next.part l.invariant.there next.ensures.there;
      ahead = located-on (index_step c.in-Index.i) (steps_of c.deref-rest-in-Index.result.now) (steps_of l.rest.now) l.part next.part next.ensures.range all ∙ l.invariant.ahead;
    }

pub returns-in_err-part-in-Member-clause-range : goal.returns-in_err-part-in-Member-clause-range
returns-in_err-part-in-Member-clause-range c =
    let l = c.loop-rest in
    let all : steps_of l.rest.now ≡ member_step c.as_str.result.now ∷ steps_of c.in-Member.behind.value = rw (c.in-Member.is, steps_of-Member, c.as_str.ensures.value) refl in
    rw c.from_residual.ensures (located-off (member_step c.as_str.result.now) (steps_of c.in-Member.behind.value) (steps_of l.rest.now) l.part c.in_err-part-in-Member.ensures.range all ∙ l.invariant.ahead)

pub returns-in_err-part-in-Index-clause-range : goal.returns-in_err-part-in-Index-clause-range
returns-in_err-part-in-Index-clause-range c =
    let l = c.loop-rest in
    let all : steps_of l.rest.now ≡ index_step c.in-Index.i ∷ steps_of c.in-Index.behind.value = rw (c.in-Index.is, steps_of-Index) refl in
    rw c.from_residual-in_err-part-in-Index.ensures (located-off (index_step c.in-Index.i) (steps_of c.in-Index.behind.value) (steps_of l.rest.now) l.part c.in_err-part-in-Index.ensures.range all ∙ l.invariant.ahead)
