use Rattle.std.proofs.Common.{◌≡◌, ◌⊎◌, ℕ, true, sym, ◌∙◌}
use Rattle.wgsl_source.specs.Finders.{IsStepOf, has_found}
use Rattle.wgsl_source.specs.Scopes.{IsKnown}
use Rattle.wgsl_source.proofs.UseLemmas.{step-declared, step-hidden, step-other, step-used, weaker}
use Rattle.wgsl_source.proofs.uses.Finder.note.Goals as goal

pub returns-then-is_declaring : goal.returns-then-is_declaring
returns-then-is_declaring c =
    let f = c.args.self.now in
    let s = c.declare.new.self in
    let k : ℕ = c.args.number in
    let A : Type 0 = (n : ℕ) → IsKnown s n → IsKnown f.scopes n ⊎ (n ≡ k) in
    weaker c.declare.result A (IsStepOf c.args.at f (record f { scopes = s }))
    (λ known. step-declared c.args.at k f s c.is_declaring.result c.requires.named c.is_declaring.ensures c.if-is_declaring.true known) c.declare.ensures

pub returns-then-not-is_plain : goal.returns-then-not-is_plain
returns-then-not-is_plain c =
    step-other c.args.at c.args.number c.args.self.now c.is_plain.result c.requires.named c.is_plain.ensures c.if-not-is_plain.true

pub returns-then-hides : goal.returns-then-hides
returns-then-hides c = step-hidden c.args.at c.args.number c.args.self.now c.requires.named (c.hides.ensures c.if-hides.true)

pub returns : goal.returns
returns c =
    let f = c.args.self.now in
    let g = c.add.new.self in
    let k : ℕ = c.args.number in
    weaker c.add.result (has_found g k ≡ true) (IsStepOf c.args.at f g)
    (λ there. step-used c.args.at k f g c.is_plain.result c.requires.named c.is_plain.ensures c.if-not-is_plain.false (sym c.is_declaring.ensures ∙ c.if-is_declaring.false) c.add.ensures.same there c.add.ensures.named)
    c.add.ensures.found
