use Rattle.std.proofs.Common.{◌≡◌, vec_len}
use Rattle.wgsl_eval.specs.Messages.{all_added}
use Rattle.wgsl_eval.proofs.message.Messages.add_faults.Given as goal

abbrev pub invariant-loop-fault : goal.invariant-loop-fault
invariant-loop-fault l = all_added l.self.faults.items l.faults.items ≡ all_added l.fn.self.faults.items l.fn.faults.items

abbrev pub decreases-loop-fault : goal.decreases-loop-fault
decreases-loop-fault l = vec_len l.faults
