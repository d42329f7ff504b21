use Rattle.wgsl_place_jobs.proofs.job.run.Given as goal

-- the store has both buffers
abbrev pub invariant-invocations : goal.invariant-invocations
invariant-invocations g l = g.B.Buffer.HasPart l.particles l.store (g.B.Buffer.whole l.particles) × g.B.Buffer.HasPart l.bins l.store (g.B.Buffer.whole l.bins)
