use Rattle.wgsl_values.specs.declared.view.MemView.{size-MemView}
use Rattle.wgsl_values.proofs.instance.Instance.+refusal.Given as goal

abbrev pub decreases-refusal : goal.decreases-refusal
decreases-refusal l = size-MemView l.view.now
