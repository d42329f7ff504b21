use Rattle.std.proofs.Common.{◌≡◌}
use Rattle.std.specs.Prelude.{option_map}
use Rattle.wgsl_values.specs.View.{steps_of}
use Rattle.wgsl_layout.specs.Located.{IsInside, part_range}
use Rattle.wgsl_layout.specs.Ranges.{further, view_range}
use Rattle.wgsl_layout.proofs.located.Located.viewed.Given as goal

abbrev pub invariant-loop-rest : goal.invariant-loop-rest
invariant-loop-rest l = record {
  there : IsInside l.self l.part;
  ahead : option_map (further l.part.start) (view_range (steps_of l.rest) (part_range l.part).layout) ≡ option_map (further l.self.start) (view_range (steps_of l.view) (part_range l.self).layout);
}
