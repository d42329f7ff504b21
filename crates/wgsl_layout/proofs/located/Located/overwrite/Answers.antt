use Rattle.std.proofs.Common.{◌≡◌, ◌∙◌, ◌+◌, ◌-◌, ◌≤◌, length, true, ap, sym, arith}
use Rattle.wgsl_rules.specs.Layout.{has_layout, layout_of, length_in}
use Rattle.wgsl_rules.specs.Values.{type_of}
use Rattle.wgsl_values.specs.View.{value_of}
use Rattle.wgsl_layout.specs.Located.{shape_plan, shape_ty}
use Rattle.wgsl_layout.specs.Plan.{plan_of}
use Rattle.wgsl_layout.proofs.LayoutParts.{part-planned}
use Rattle.wgsl_layout.proofs.lemmas.Flat.{type-alike}
use Rattle.wgsl_layout.proofs.lemmas.Written.{filled-is, zeroed-length}
use Rattle.wgsl_layout.proofs.located.Located.overwrite.Goals as goal

pub returns : goal.returns
returns c =
    let l = c.args.self in
    let b = c.args.bytes.now in
    let w = value_of c.args.value.now in
    let n = c.size.result in
    let few : l.start + n - l.start ≡ n = omega arith in
    let inside : l.start + n ≤ length b = omega (arith, c.requires.located.inside, c.size.ensures, c.requires.whole) in
    let mid = filled-is b c.fill.new.self l.start _ n few inside (c.fill.ensures.after (λ y e. e)) in
    let typed = type-alike w l.count (shape_ty l.shape) c.requires.alike in
    let laid : has_layout (type_of w) ≡ true = ap has_layout typed ∙ c.requires.located.laid in
    let planned : shape_plan l.shape ≡ plan_of (type_of w) = c.requires.located.planned ∙ ap plan_of (sym typed) in
    let long : n ≡ length_in (layout_of w) = c.size.ensures ∙ ap length_in (sym c.requires.alike) in
    part-planned w (shape_plan l.shape) l.start n b _ c.write.new.bytes c.requires.storable laid planned long inside mid (ap length mid ∙ zeroed-length b l.start n inside) c.write.ensures
