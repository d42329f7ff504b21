use Rattle.std.proofs.Common.{◌∙◌, sym}
use Rattle.wgsl_layout.specs.Located.{shape_ty}
use Rattle.wgsl_layout.proofs.Arrays.{elements-decoded}
use Rattle.wgsl_layout.proofs.flat.FlatPart.element_count.Goals as goal

pub returns : goal.returns
returns c =
    let p = c.args.self in
    let l = p.located in
    c.element_count.ensures ∙ sym (elements-decoded l.count (shape_ty l.shape) p.bytes.now l.start)
