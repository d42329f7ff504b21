use Rattle.std.proofs.Common.{sym, ◌∙◌}
use Rattle.wgsl_rules.specs.Paths.{fits}
use Rattle.wgsl_values.specs.View.{value_of}
use Rattle.wgsl_layout.specs.FlatCells.{part_value}
use Rattle.wgsl_layout.specs.Located.{shape_plan, shape_ty}
use Rattle.wgsl_layout.proofs.FlatParts.{same-truth}
use Rattle.wgsl_layout.proofs.lemmas.Flat.{there-laid, fits-laid}
use Rattle.wgsl_layout.proofs.flat.FlatPart.fits.Goals as goal

pub returns : goal.returns
returns c =
    let p = c.args.self in
    let l = p.located in
    let w = value_of c.args.value.now in
    let v = part_value p in
    let own = there-laid l.count (shape_ty l.shape) (shape_plan l.shape) l.start l.len p.bytes.now c.requires.part.there in
    let told = fits-laid w v c.requires.storable own.storable own.laid in
    same-truth c.fits.result (fits w v) (λ r. told.1 (c.fits.ensures.0 r ∙ sym own.alike)) (λ f. c.fits.ensures.1 (told.0 f ∙ own.alike))
