use Rattle.std.proofs.Common.{sym, ◌∙◌}
use Rattle.wgsl_places.proofs.Vectors.{place-loaded}
use Rattle.wgsl_places.proofs.places.Places.load_vec.Goals as goal

pub returns : goal.returns
returns c = λ r place. c.load_row.ensures ∙ place-loaded c.args.self.now r c.args.place c.args.bytes.now place (sym c.is_of_vector.ensures ∙ c.if-not-is_of_vector.false)
