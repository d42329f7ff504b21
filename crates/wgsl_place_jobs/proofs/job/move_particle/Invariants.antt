use Rattle.wgsl_place_jobs.proofs.job.move_particle.Given as goal

-- the store has each part that it had, and those that the axes are of
abbrev pub invariant-axes : goal.invariant-axes
invariant-axes g l = ((b : _) (p : _) → g.B.Buffer.HasPart b l.fn.store p → g.B.Buffer.HasPart b l.store p) × g.B.Buffer.HasPart l.particles l.store l.position × g.B.Buffer.HasPart l.particles l.store l.velocity
