use Rattle.std.proofs.Common.{Some, None, sym}
use Rattle.wgsl_rules.specs.View.{type_view}
use Rattle.wgsl_values.specs.View.{steps_of}
use Rattle.wgsl_places.proofs.Told.{place-told}
use Rattle.wgsl_places.proofs.places.Places.place.Goals as goal

pub returns-in-Some-viewed : goal.returns-in-Some-viewed
returns-in-Some-viewed c =
    place-told c.args.self.now (type_view c.self.inside.ty) c.args.len (steps_of c.args.view.now) c.in-Some.whole (Some c.in-Some-viewed.place) (sym c.self.view_is) c.in-Some.ensures c.in-Some-viewed.ensures

pub returns-in-None : goal.returns-in-None
returns-in-None c = place-told c.args.self.now (type_view c.self.inside.ty) c.args.len (steps_of c.args.view.now) c.in-Some.whole None (sym c.self.view_is) c.in-Some.ensures c.in-None.ensures
