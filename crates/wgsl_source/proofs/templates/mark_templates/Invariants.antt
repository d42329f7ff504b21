use Rattle.std.proofs.Common.{◌≡◌, map}
use Rattle.wgsl_source.specs.Readings.{extent_in}
use Rattle.wgsl_source.proofs.templates.mark_templates.Given as goal

abbrev pub invariant-loop-at : goal.invariant-loop-at
invariant-loop-at l = map extent_in l.tokens.items ≡ map extent_in l.fn.tokens.items
