use Rattle.std.proofs.Common.{sym, ◌∙◌}
use Rattle.std.proofs.lemmas.Bool.{false≢true}
use Rattle.wgsl_values.specs.View.{value_of}
use Rattle.wgsl_layout.specs.Located.{shape_ty}
use Rattle.wgsl_layout.proofs.lemmas.Flat.{type-alike}
use Rattle.wgsl_layout.proofs.located.Located.fits.Goals as goal

pub returns-else-is_type_of : goal.returns-else-is_type_of
returns-else-is_type_of c =
    let l = c.args.self in
    (λ r. absurd (false≢true (sym c.if-is_type_of.false ∙ r)), λ e. c.is_type_of.ensures.1 (type-alike (value_of c.args.value.now) l.count (shape_ty l.shape) e))
