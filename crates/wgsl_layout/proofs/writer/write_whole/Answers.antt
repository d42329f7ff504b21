use Rattle.std.proofs.Common.{◌≡◌, ◌∙◌, ℕ, ap, sym, subst, arith, length}
use Rattle.std.proofs.Math.Seq.{take-append_seam}
use Rattle.wgsl_rules.specs.Layout.{length_in, layout_len, layout_of}
use Rattle.wgsl_rules.specs.Values.{type_of}
use Rattle.wgsl_values.specs.View.{value_of}
use Rattle.wgsl_layout.specs.Plan.{Plan}
use Rattle.wgsl_layout.specs.Walk.{put, Stands}
use Rattle.wgsl_layout.proofs.lemmas.Standing.{stands}
use Rattle.wgsl_layout.proofs.lemmas.Written.{whole-written}
use Rattle.wgsl_layout.proofs.Totals.{length-is}
use Rattle.wgsl_layout.proofs.writer.write_whole.Goals as goal

pub write_value-requires : goal.write_value-requires
write_value-requires c =
    let v = value_of c.args.value.now in
    let laid = c.requires.laid in
    let long : c.in-Some.len ≡ length_in (layout_of v) =
    c.in-Some.ensures (type_of v) c.requires.extent ∙ ap (λ (n : ℕ). layout_len n (type_of v)) c.runtime_count.ensures ∙ sym (length-is v laid) in
    subst (λ (p : Plan). Stands v p 0 (length c.as_mut_slice.result.now)) (sym c.requires.planned)
    (stands v 0 (length c.as_mut_slice.result.now) c.requires.storable laid (omega (arith, c.as_mut_slice.ensures.len, c.in_ok-out.ensures.len, long)))

pub returns : goal.returns
returns c =
    let v = value_of c.args.value.now in
    let laid = c.requires.laid in
    let len : c.in-Some.len ≡ length_in (layout_of v) =
    c.in-Some.ensures (type_of v) c.requires.extent ∙ ap (λ (n : ℕ). layout_len n (type_of v)) c.runtime_count.ensures ∙ sym (length-is v laid) in
    let new = c.write_value.new.out in
    let long : c.in_ok-out.out.len ≡ length new = omega (arith, c.write_value.auto.out, c.as_mut_slice.ensures.len) in
    let made = c.write_value.ensures ∙ ap (λ (p : Plan). put v p 0 c.as_mut_slice.result.now) c.requires.planned in
    rw long (take-append_seam new _
    ∙ whole-written v c.in-Some.len c.as_mut_slice.result.now new c.requires.storable laid len
    (c.as_mut_slice.ensures.value ∙ c.in_ok-out.ensures.items_if_clones_equal (λ y e. e)) made)
