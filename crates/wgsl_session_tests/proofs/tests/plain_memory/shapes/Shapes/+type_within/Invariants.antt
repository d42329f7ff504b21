use Rattle.wgsl_session_tests.proofs.tests.plain_memory.shapes.Shapes.+type_within.Given as goal

abbrev pub decreases-type_within : goal.decreases-type_within
decreases-type_within g l = l.depth
