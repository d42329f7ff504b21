use Rattle.std.proofs.Common.{◌≡◌, ◌+◌, ◌*◌, ◌<◌, ℕ, drop, length}
use Rattle.wgsl_rules.specs.Layout.{layout}
use Rattle.wgsl_rules.specs.View.{type_view, members_view}
use Rattle.wgsl_layout.specs.Plan.{plan_view, places_view}
use Rattle.wgsl_layout.specs.Reading.{IsThere, AreThere}
use Rattle.wgsl_layout.proofs.Copying.{rest_of_row, whole_row, put_at_places}
use Rattle.wgsl_layout.proofs.copier.+copy.Given as goal

abbrev pub invariant-copy_array-loop-i : goal.invariant-copy_array-loop-i
invariant-copy_array-loop-i l =
    record {
      inside : (i : ℕ) → i < l.len → IsThere l.count (type_view l.element) (plan_view l.part.value) (l.at + i * l.far) (length l.bytes);
      room : (i : ℕ) → i < l.len → IsThere l.count (type_view l.element) (plan_view l.part.value) (l.base + i * l.far) (length l.out);
      rest : rest_of_row l.bytes l.at l.far l.len (layout l.count (type_view l.element)) (plan_view l.part.value) l.i l.base l.out
          ≡ whole_row l.bytes l.at l.far l.len (layout l.count (type_view l.element)) (plan_view l.part.value) l.base l.fn.out;
    }

abbrev pub invariant-copy_members-loop-i : goal.invariant-copy_members-loop-i
invariant-copy_members-loop-i l =
    record {
      there : AreThere l.count (members_view (drop l.i l.members)) (places_view (drop l.i l.places)) l.at (length l.bytes);
      room : AreThere l.count (members_view (drop l.i l.members)) (places_view (drop l.i l.places)) l.base (length l.out);
      rest : put_at_places l.bytes l.at l.count (members_view (drop l.i l.members)) (places_view (drop l.i l.places)) l.base l.out
          ≡ put_at_places l.bytes l.at l.count (members_view l.members) (places_view l.places) l.base l.fn.out;
    }
