use Rattle.std.proofs.Common.{sym, ◌∙◌}
use Rattle.wgsl_layout.specs.Located.{shape_plan, shape_ty}
use Rattle.wgsl_layout.proofs.lemmas.Flat.{there-laid}
use Rattle.wgsl_layout.proofs.flat.FlatPart.has_ty.Goals as goal

pub returns : goal.returns
returns c =
    let l = c.args.self.located in
    let own = there-laid l.count (shape_ty l.shape) (shape_plan l.shape) l.start l.len c.args.self.bytes.now c.requires.there in
    (λ r. c.has_ty.ensures.0 r ∙ sym own.typed, λ e. c.has_ty.ensures.1 (e ∙ own.typed))
