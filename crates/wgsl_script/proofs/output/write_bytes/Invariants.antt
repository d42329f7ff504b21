use Rattle.std.proofs.Common.{length}
use Rattle.wgsl_script.proofs.output.write_bytes.Given as goal

-- each write takes a byte or more
abbrev pub decreases-loop-rest : goal.decreases-loop-rest
decreases-loop-rest g l = length l.rest
