use Rattle.wgsl_values.specs.declared.view.MemView.{size-MemView}
use Rattle.wgsl_values.proofs.instance.Instance.+put.Given as goal

abbrev pub decreases-put : goal.decreases-put
decreases-put l = size-MemView l.view.now
