use Rattle.std.proofs.Common.{sym, ◌∙◌}
use Rattle.std.proofs.lemmas.Bool.{false≢true}
use Rattle.wgsl_rules.specs.View.{type_view}
use Rattle.wgsl_values.specs.View.{value_of}
use Rattle.wgsl_store.proofs.Answered.{fits-typed, fits-other}
use Rattle.wgsl_store.proofs.parts.fits_place.Goals as goal

pub returns-then-has_ty : goal.returns-then-has_ty
returns-then-has_ty c = fits-typed (value_of c.args.value.now) (value_of c.args.part.now) (type_view c.args.ty.now) c.have_same_paths.result (c.has_ty.ensures.0 c.if-has_ty.true) c.requires.typed c.have_same_paths.ensures

pub returns-else-has_ty : goal.returns-else-has_ty
returns-else-has_ty c = fits-other (value_of c.args.value.now) (value_of c.args.part.now) (type_view c.args.ty.now) c.has_ty.result c.if-has_ty.false (λ e. false≢true (sym c.if-has_ty.false ∙ c.has_ty.ensures.1 e)) c.requires.typed
