use Rattle.std.proofs.Common.{◌∙◌, sym}
use Rattle.wgsl_layout.proofs.lemmas.Tidy.{length-fixed}
use Rattle.wgsl_layout.proofs.extent.Extent.len.Goals as goal

pub returns-in-Fixed : goal.returns-in-Fixed
returns-in-Fixed c = λ t is. let told = rw c.in-Fixed.is at is in told.0 ∙ sym (length-fixed c.args.count t told.1)
