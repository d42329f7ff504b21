use Rattle.wgsl_memory_tests.proofs.tests.words.+value_within.Given as goal

abbrev pub decreases-value_within : goal.decreases-value_within
decreases-value_within g l = l.depth
