use Rattle.std.proofs.Common.{◌≡◌, ◌+◌, ◌-◌, ◌*◌, ◌<◌, ℕ, drop, length}
use Rattle.wgsl_rules.specs.Layout.{layout, repeated}
use Rattle.wgsl_rules.specs.View.{type_view, members_view}
use Rattle.wgsl_values.specs.View.{vals_view}
use Rattle.wgsl_layout.specs.Buffers.{decoded_parts}
use Rattle.wgsl_layout.specs.Plan.{plan_view, places_view}
use Rattle.wgsl_layout.specs.Reading.{IsThere, AreThere, members_at}
use Rattle.wgsl_layout.proofs.Reading.{join}
use Rattle.wgsl_layout.proofs.reader.+read.Given as goal

abbrev pub invariant-read_array-loop-i : goal.invariant-read_array-loop-i
invariant-read_array-loop-i l =
    record {
      inside : (i : ℕ) → i < l.len → IsThere l.count (type_view l.element) (plan_view l.part.value) (l.base + i * l.far) (length l.bytes);
      rest : join (vals_view l.elements.items) (decoded_parts l.bytes l.base (repeated (layout l.count (type_view l.element)) l.far (l.i * l.far) (l.len - l.i)))
          ≡ decoded_parts l.bytes l.base (repeated (layout l.count (type_view l.element)) l.far 0 l.len);
    }

abbrev pub invariant-read_members-loop-i : goal.invariant-read_members-loop-i
invariant-read_members-loop-i l =
    record {
      there : AreThere l.count (members_view (drop l.i l.members)) (places_view (drop l.i l.places)) l.base (length l.bytes);
      rest : join (vals_view l.values.items) (members_at l.bytes l.base l.count (members_view (drop l.i l.members)) (places_view (drop l.i l.places)))
          ≡ members_at l.bytes l.base l.count (members_view l.members) (places_view l.places);
    }
