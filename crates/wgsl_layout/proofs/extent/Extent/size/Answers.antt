use Rattle.std.proofs.Common.{◌∙◌, sym}
use Rattle.wgsl_layout.proofs.lemmas.Extents.{open-size}
use Rattle.wgsl_layout.proofs.lemmas.Tidy.{length-fixed}
use Rattle.wgsl_layout.proofs.extent.Extent.size.Goals as goal

pub returns-in-Fixed : goal.returns-in-Fixed
returns-in-Fixed c = λ t is. let told = rw c.in-Fixed.is at is in λ count. told.0 ∙ sym (length-fixed count t told.1)

pub returns-in-Open : goal.returns-in-Open
returns-in-Open c = λ t is. let told = rw c.in-Open.is at is in open-size t c.in-Open.field-0 told
