use Rattle.wgsl_values.specs.View.{value_of}
use Rattle.wgsl_layout.specs.Located.{shape_ty}
use Rattle.wgsl_layout.proofs.lemmas.Flat.{counted-alike}
use Rattle.wgsl_layout.proofs.located.Located.is_count_of.Goals as goal

pub returns : goal.returns
returns c =
    let l = c.args.self in
    let told = counted-alike (value_of c.args.value.now) l.count c.runtime_count.result (shape_ty l.shape) c.requires.storable c.requires.located.laid
    c.requires.typed c.runtime_count.ensures c.requires.located.counted in
    (λ r. told.1 (c.has_count.ensures.0 r), λ e. c.has_count.ensures.1 (told.0 e))
