use Rattle.std.proofs.Common.{◌≡◌, ◌↔◌, drop, length}
use Rattle.wgsl_values.proofs.Made.{Decides, OfMembers}
use Rattle.wgsl_values.proofs.+storable.Given as goal

abbrev pub invariant-lists::have_types-loop-i : goal.invariant-lists::have_types-loop-i
invariant-lists::have_types-loop-i l =
    (length l.values ≡ length l.members) × (OfMembers (drop l.i l.members) (drop l.i l.values) ↔ OfMembers l.members l.values)

abbrev pub invariant-lists::have_one_type-loop-i : goal.invariant-lists::have_one_type-loop-i
invariant-lists::have_one_type-loop-i l = Decides l.values l.i
