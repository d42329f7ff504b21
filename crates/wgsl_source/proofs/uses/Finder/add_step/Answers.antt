use Rattle.std.proofs.Common.{◌≡◌, ◌∷◌, [], true}
use Rattle.wgsl_source.proofs.UseLemmas.{adding-one, adding-other, weaker}
use Rattle.wgsl_source.specs.Finders.{HasAdded, has_found}
use Rattle.wgsl_source.proofs.uses.Finder.add_step.Goals as goal

pub returns-in-Some : goal.returns-in-Some
returns-in-Some c =
    let f = c.args.self.now in
    let g = c.add.new.self in
    weaker c.add.result (has_found g c.in-Some.number ≡ true) (HasAdded f (c.args.step ∷ []) g)
    (λ there. adding-one f g c.args.step c.named_by.result c.in-Some.number c.named_by.ensures c.in-Some.is c.add.ensures.same there c.add.ensures.named)
    c.add.ensures.found

pub returns-in-None : goal.returns-in-None
returns-in-None c = adding-other c.args.self.now c.args.step c.named_by.result c.named_by.ensures c.in-None.is
