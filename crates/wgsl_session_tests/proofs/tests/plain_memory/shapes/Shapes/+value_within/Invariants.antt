use Rattle.wgsl_session_tests.proofs.tests.plain_memory.shapes.Shapes.+value_within.Given as goal

abbrev pub decreases-value_within : goal.decreases-value_within
decreases-value_within g l = l.depth
