use Rattle.std.proofs.Common.{length}
use Rattle.wgsl_script.proofs.structs.+arrays_of.Given as goal

abbrev pub decreases-arrays_of : goal.decreases-arrays_of
decreases-arrays_of l = length l.counts.now
