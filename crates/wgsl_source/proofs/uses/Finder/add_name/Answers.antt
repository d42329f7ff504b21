use Rattle.std.proofs.Common.{List, ℕ, ◌∙◌, ap}
use Rattle.wgsl_source.specs.Readings.{first_named}
use Rattle.wgsl_source.proofs.UseLemmas.{step-unnamed}
use Rattle.wgsl_source.proofs.uses.Finder.add_name.Goals as goal

pub returns-in-None : goal.returns-in-None
returns-in-None c = step-unnamed c.args.at c.args.self.now c.number_of.result (c.number_of.ensures ∙ ap (λ (w : List ℕ). first_named c.args.self.now.reading.now w) c.word.ensures) c.in-None.is
