use Rattle.wgsl_values.specs.declared.view.MemView.{size-MemView}
use Rattle.wgsl_values.proofs.instance.Instance.+part_viewed.Given as goal

abbrev pub decreases-part_viewed : goal.decreases-part_viewed
decreases-part_viewed l = size-MemView l.view.now
