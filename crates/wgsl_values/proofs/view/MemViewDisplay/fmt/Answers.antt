use Rattle.std.proofs.Common.{◌≡◌, ℕ, List, ◌++◌, refl, arith, codes, decimal, Box, String, Global, string_bytes}
use Rattle.std.proofs.lemmas.Grind.{common_steps, put_two}
use Rattle.wgsl_values.specs.Texts.{text_of_steps}
use Rattle.wgsl_values.specs.View.{steps_of}
use Rattle.wgsl_values.specs.declared.view.MemView.{MemView, Member, Index}
use Rattle.wgsl_values.proofs.lemmas.Views.{steps_of-Member, steps_of-Index}
use Rattle.wgsl_values.proofs.view.MemViewDisplay.fmt.Goals as goal

text_with-Member : (done : List ℕ) (n : String Global) (rest : Box MemView Global) → done ++ text_of_steps (steps_of (Member n rest)) ≡ (done ++ (codes ":" ++ string_bytes n)) ++ text_of_steps (steps_of rest.value)
text_with-Member done n rest = rw (steps_of-Member n rest) (grind (arith, common_steps))

text_with-Index : (done : List ℕ) (i : ℕ) (rest : Box MemView Global) → done ++ text_of_steps (steps_of (Index i rest)) ≡ (done ++ (codes ":" ++ decimal i)) ++ text_of_steps (steps_of rest.value)
text_with-Index done i rest = rw (steps_of-Index i rest) (grind (arith, common_steps))

pub loop-steps-preserved-in-Member : goal.loop-steps-preserved-in-Member
loop-steps-preserved-in-Member g c = λ plain.
    let so_far = c.loop-steps.invariant plain in
    let text = codes ":" ++ string_bytes c.in-Member.name in
    let written = c.in_ok-write-in-Member.ensures.writes so_far.1.plain refl in
    let before = so_far.2 in
    let is = c.in-Member.is in
    let behind = c.deref-steps.ensures in
    let step = text_with-Member so_far.0 c.in-Member.name c.in-Member.rest in
    (so_far.0 ++ text, put_two _ _ _ _ so_far.0 text _ so_far.1 written refl, cc)

pub loop-steps-preserved : goal.loop-steps-preserved
loop-steps-preserved g c = λ plain.
    let so_far = c.loop-steps.invariant plain in
    let text = codes ":" ++ decimal c.in-Index.i in
    let written = c.in_ok-write-in-Index.ensures.writes so_far.1.plain refl in
    let before = so_far.2 in
    let is = c.in-Index.is in
    let behind = c.deref-steps-in-Index.ensures in
    let step = text_with-Index so_far.0 c.in-Index.i c.in-Index.rest in
    (so_far.0 ++ text, put_two _ _ _ _ so_far.0 text _ so_far.1 written refl, cc)
