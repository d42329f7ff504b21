use Rattle.std.proofs.Common.{◌≡◌, true, ◌^◌, ◌≤◌, ◌∙◌, Some, length, ap, sym, refl, arith}
use Rattle.std.specs.Vec.{with_items}
use Rattle.std.proofs.Math.Seq.{take-append_seam}
use Rattle.wgsl_rules.specs.Layout.{has_layout, layout, layout_len}
use Rattle.wgsl_layout.specs.Buffers.{decoded}
use Rattle.wgsl_layout.specs.FlatCells.{Holds, owned_type}
use Rattle.wgsl_layout.specs.Plan.{plan_of}
use Rattle.wgsl_layout.specs.declared.flat.FlatCell.TheInside.{Inside}
use Rattle.wgsl_layout.proofs.FlatPuts.{held-value, holds-own}
use Rattle.wgsl_layout.proofs.LaidValues.{decode-told, decode-uncounted}
use Rattle.wgsl_layout.proofs.LaidParts.{laid-length, whole-holds}
use Rattle.wgsl_layout.proofs.Reading.{counted-there}
use Rattle.wgsl_layout.proofs.lemmas.Tidy.{tidy}
use Rattle.wgsl_layout.proofs.flat.FlatCell.of_layout.Goals as goal

pub returns-in_default : goal.returns-in_default
returns-in_default c =
    let t = owned_type c.args.owner in
    let none = rw c.layout-layout.ensures at (c.count_in.ensures c.layout-layout.result.now c.extent-extent.ensures) in
    sym (decode-uncounted c.args.bytes.now t (sym none ∙ c.in_default.is))

pub unreachable-requires : goal.unreachable-requires
unreachable-requires c =
    let t = owned_type c.args.owner in
    let laid : has_layout t ≡ true = rw c.layout-layout.ensures at c.attest.ensures in
    let e = sym (rw c.layout-layout.ensures at (c.count_in.ensures c.layout-layout.result.now c.extent-extent.ensures)) ∙ c.in-Some.is in
    let le = laid-length t (length c.args.bytes.now) c.in-Some.count laid e in
    let too_long : 2 ^ 64 ≤ layout_len c.in-Some.count t = rw c.layout-layout.ensures at (c.in_default-len.ensures c.layout-layout.result.now c.extent-extent.ensures) in
    omega (arith, le, too_long)

pub copy_whole-requires-clause-from : goal.copy_whole-requires-clause-from
copy_whole-requires-clause-from c =
    let t = owned_type c.args.owner in
    let laid : has_layout t ≡ true = rw c.layout-layout.ensures at c.attest.ensures in
    let e = sym (rw c.layout-layout.ensures at (c.count_in.ensures c.layout-layout.result.now c.extent-extent.ensures)) ∙ c.in-Some.is in
    let there = counted-there t (plan_of t) (length c.args.bytes.now) c.in-Some.count laid refl e in
    let within = there.inside in
    rw c.layout-layout.ensures (record { counted = there.counted; inside = omega (arith, within) })

pub copy_whole-requires-clause-to : goal.copy_whole-requires-clause-to
copy_whole-requires-clause-to c =
    let t = owned_type c.args.owner in
    let laid : has_layout t ≡ true = rw c.layout-layout.ensures at c.attest.ensures in
    let e = sym (rw c.layout-layout.ensures at (c.count_in.ensures c.layout-layout.result.now c.extent-extent.ensures)) ∙ c.in-Some.is in
    let there = counted-there t (plan_of t) (length c.args.bytes.now) c.in-Some.count laid refl e in
    let len = rw c.layout-layout.ensures at (c.in-Some-len.ensures c.layout-layout.result.now c.extent-extent.ensures) in
    let long = (tidy t c.in-Some.count laid).1 in
    rw c.layout-layout.ensures (record { counted = there.counted; inside = omega (arith, c.as_mut_slice.ensures.len, c.in_ok-out.ensures.len, len, long) })

-- what the cell holds
made : (c : goal.After-out-3-1) → Holds (record { owner = c.args.owner; count = c.in-Some.count; bytes = with_items c.in_ok-out.out c.copy_whole.new.out })
    (decoded c.args.bytes.now 0 (layout c.in-Some.count (owned_type c.args.owner)))
made c =
    let t = owned_type c.args.owner in
    let laid : has_layout t ≡ true = rw c.layout-layout.ensures at c.attest.ensures in
    let e = sym (rw c.layout-layout.ensures at (c.count_in.ensures c.layout-layout.result.now c.extent-extent.ensures)) ∙ c.in-Some.is in
    let own : Inside = record { owner = c.args.owner; count = c.in-Some.count; bytes = with_items c.in_ok-out.out c.copy_whole.new.out } in
    let new = c.copy_whole.new.out in
    let long : c.in_ok-out.out.len ≡ length new = omega (arith, c.copy_whole.auto.out, c.as_mut_slice.ensures.len) in
    let kept : (with_items c.in_ok-out.out new).items ≡ new = rw long (take-append_seam new _) in
    whole-holds own c.args.bytes.now c.as_mut_slice.result.now c.in-Some-len.len laid e (rw c.layout-layout.ensures at (c.in-Some-len.ensures c.layout-layout.result.now c.extent-extent.ensures))
    (c.as_mut_slice.ensures.value ∙ c.in_ok-out.ensures.items_if_clones_equal (λ y e. e)) (kept ∙ rw c.layout-layout.ensures at c.copy_whole.ensures)

pub invariant_of-result : goal.invariant_of-result
invariant_of-result c = holds-own _ _ (made c)

pub returns : goal.returns
returns c =
    let t = owned_type c.args.owner in
    let laid : has_layout t ≡ true = rw c.layout-layout.ensures at c.attest.ensures in
    let e = sym (rw c.layout-layout.ensures at (c.count_in.ensures c.layout-layout.result.now c.extent-extent.ensures)) ∙ c.in-Some.is in
    ap Some (held-value _ _ (made c)) ∙ sym (decode-told c.args.bytes.now t (Some c.in-Some.count) laid e)
