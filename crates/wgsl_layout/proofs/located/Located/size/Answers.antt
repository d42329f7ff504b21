use Rattle.std.proofs.Common.{◌≡◌, ◌≤◌, ◌^◌, ◌∙◌, sym, arith}
use Rattle.wgsl_rules.specs.Layout.{layout_len, layout, length_in}
use Rattle.wgsl_layout.specs.Located.{shape_ty}
use Rattle.wgsl_layout.proofs.lemmas.Tidy.{tidy}
use Rattle.wgsl_layout.proofs.located.Located.size.Goals as goal

pub unreachable-requires : goal.unreachable-requires
unreachable-requires c =
    let l = c.args.self in
    let t = shape_ty l.shape in
    let too_long : 2 ^ 64 ≤ layout_len l.count t = c.in-None.ensures t c.extent.ensures in
    let long : length_in (layout l.count t) ≡ layout_len l.count t = (tidy t l.count c.requires.laid).1 in
    let inside = c.requires.inside in
    omega (arith, too_long, long, inside)

pub returns : goal.returns
returns c =
    let l = c.args.self in
    let t = shape_ty l.shape in
    c.in-Some.ensures t c.extent.ensures ∙ sym (tidy t l.count c.requires.laid).1
