use Rattle.std.proofs.Common.{◌≡◌, take, map}
use Rattle.wgsl_layout.specs.Plan.{place_view}
use Rattle.wgsl_layout.proofs.plan.+clone.Given as goal

abbrev pub invariant-clone_places-loop-place : goal.invariant-clone_places-loop-place
invariant-clone_places-loop-place l =
    map place_view l.copies.items ≡ map place_view (take l.place-index l.place-items)
