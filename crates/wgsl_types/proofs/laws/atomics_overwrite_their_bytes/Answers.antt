use Rattle.wgsl_types.proofs.Overwrites.{atomics-overwrite}
use Rattle.wgsl_types.proofs.laws.atomics_overwrite_their_bytes.Goals as goal

pub returns : goal.returns
returns c = atomics-overwrite
