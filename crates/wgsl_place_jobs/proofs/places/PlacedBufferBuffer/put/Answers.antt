use Rattle.wgsl_values.specs.View.{reference_of}
use Rattle.wgsl_place_jobs.proofs.places.PlacedBufferBuffer.put.Goals as goal

-- each reference is kept, and each place is that of a part, as before
pub returns-then-store_in : goal.returns-then-store_in
returns-then-store_in c = λ b p h. let r = reference_of b.reference in (c.store_in.ensures.kept r h.0, c.store_in.ensures.places b.places r p h.0 h.1)
