use Rattle.std.proofs.Common.{◌↔◌, IsTrue, subst}
use Rattle.std.specs.List.{Contains}
use Rattle.wgsl_source.specs.Readings.{Outline, extent_at}
use Rattle.wgsl_source.specs.declared.module.Extent.{Extent}
use Rattle.wgsl_source.proofs.ReadingLemmas.{contains_is}
use Rattle.wgsl_source.proofs.module.Reading.is_refused.Goals as goal

pub returns : goal.returns
returns c =
    let P : Extent → Type 0 = λ e. IsTrue c.contains.result ↔ Contains c.self.inside.refused.keys e.start in
    let Q : Outline → Type 0 = λ o. IsTrue c.contains.result ↔ Contains o.refused (extent_at c.args.self.now c.args.token).start in
    subst Q c.self.view_is
    (subst P c.extent.ensures (contains_is c.extent.result.start c.self.inside.refused.keys c.contains.result c.contains.ensures))
