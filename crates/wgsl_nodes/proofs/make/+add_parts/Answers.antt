use Rattle.std.proofs.Common.{◌≡◌, ◌+◌, ◌∙◌, length, string_bytes, refl, arith}
use Rattle.wgsl_rules.specs.View.{type_view, members_view}
use Rattle.wgsl_rules.specs.declared.ty.StructType.{out-StructType}
use Rattle.wgsl_rules.proofs.lemmas.Views.{struct_view-is}
use Rattle.wgsl_nodes.proofs.Arrays.{no-element}
use Rattle.wgsl_nodes.proofs.Added.{element-says}
use Rattle.wgsl_nodes.proofs.Exact.{none-exact}
use Rattle.wgsl_nodes.proofs.Filled.{none-filled}
use Rattle.wgsl_nodes.proofs.Members.{none-made}
use Rattle.wgsl_nodes.proofs.Walk.{member-next, no-part, no-spot, no-next, tail-says, structure-says}
use Rattle.wgsl_nodes.proofs.make.+add_parts.Goals as goal

pub add_element-put-requires : goal.add_element-put-requires
add_element-put-requires t c =
    let added = rw c.in-Some.is at c.in_ok-part.ensures in
    let longer = added.longer in
    omega (arith, longer, c.len-child.ensures, c.args.nodes.now.ok.0, c.push.new.self.ok.0, c.add_parts.new.nodes.ok.0, c.in_ok-push.ensures.len)

pub add_element-returns : goal.add_element-returns
add_element-returns t c =
    let old = c.args.nodes.now in
    let added = rw c.in-Some.is at c.in_ok-part.ensures in
    let len : c.len-child.result ≡ length old.items = c.len-child.ensures ∙ old.ok.0 in
    let child : c.in_ok-number.number ≡ length old.items = c.in_ok-number.ensures ∙ len in
    element-says old.items c.push.new.self.items c.add_parts.new.nodes.items _ (type_view c.args.element.now) c.args.n c.in-Some.part c.in_ok-number.number c.len-child.result c.put.new.nodes.items c.array_of.result
    refl c.in_ok-push.ensures.items added len child c.put.ensures (c.array_of.ensures (type_view c.args.element.now) added.host added.describes.says)

pub add_structure-returns : goal.add_structure-returns
add_structure-returns t c =
    rw (struct_view-is c.args.ty.now, ← c.as_slice.ensures.value) (c.add_members.ensures (string_bytes (out-StructType c.args.ty.now).name))

pub add_members-loop-i-init : goal.add_members-loop-i-init
add_members-loop-i-init t c =
    let members = c.args.members.now in
    let child = c.len-child.ensures ∙ c.args.nodes.now.ok.0 in
    let count : c.in_ok-count.count ≡ length members = c.in_ok-count.ensures in
    let n = none-filled c.args.nodes.now.items c.reserve.new.nodes.items c.len-child.result (length members) c.in_ok-reserve.ensures child in
    record { made = none-made (members_view members) c.reserve.new.nodes.items c.len-child.result (c.len-child.result + length members); longer = n.longer; kept = n.kept; filled = n.filled; exact = none-exact c.args.nodes.now.items c.reserve.new.nodes.items (members_view members) (length members) c.in_ok-reserve.ensures }

pub add_members-loop-i-preserved : goal.add_members-loop-i-preserved
add_members-loop-i-preserved t c =
    let l = c.loop-i in
    let m = c.index-members-i.result in
    let added = rw c.in-Some.is at c.in_ok-part.ensures in
    let n = member-next c.args.members.now l.i m c.args.nodes.now.items l.nodes.items c.add_parts.new.nodes.items c.put.new.nodes.items c.len-child.result l.so_far.end l.so_far.align c.in-Some.part c.in-Some-spot.spot c.in-Some-with.next
    c.loop-i-test.true c.index-members-i.is l.invariant.made l.invariant.longer l.invariant.kept l.invariant.filled l.invariant.exact (c.len-child.ensures ∙ c.args.nodes.now.ok.0) added c.if-part-ne0.false c.in-Some-spot.ensures c.in-Some-with.ensures c.put.ensures in
    record { made = n.made; longer = n.longer; kept = n.kept; filled = n.filled; exact = n.exact }

pub add_members-returns-in_default : goal.add_members-returns-in_default
add_members-returns-in_default t c =
    let l = c.loop-i in
    let none = rw c.in_default.is at c.in_ok-part.ensures in
    no-part c.args.members.now l.i c.index-members-i.result l.nodes.items c.len-child.result l.so_far.end l.so_far.align c.loop-i-test.true c.index-members-i.is l.invariant.made none

pub add_members-returns-in_default-spot : goal.add_members-returns-in_default-spot
add_members-returns-in_default-spot t c =
    let l = c.loop-i in
    let added = rw c.in-Some.is at c.in_ok-part.ensures in
    let none = rw c.in_default-spot.is at c.spot.ensures in
    no-spot c.args.members.now l.i c.index-members-i.result l.nodes.items c.add_parts.new.nodes.items c.len-child.result l.so_far.end l.so_far.align c.in-Some.part c.loop-i-test.true c.index-members-i.is l.invariant.made added none

pub add_members-returns-in_default-with : goal.add_members-returns-in_default-with
add_members-returns-in_default-with t c =
    let l = c.loop-i in
    let added = rw c.in-Some.is at c.in_ok-part.ensures in
    let none = rw c.in_default-with.is at c.with.ensures in
    no-next c.args.members.now l.i c.index-members-i.result l.nodes.items c.add_parts.new.nodes.items c.len-child.result l.so_far.end l.so_far.align c.in-Some.part c.in-Some-spot.spot c.loop-i-test.true c.index-members-i.is l.invariant.made added c.if-part-ne0.false c.in-Some-spot.ensures none

pub add_members-returns-then-part-ne0 : goal.add_members-returns-then-part-ne0
add_members-returns-then-part-ne0 t c =
    let l = c.loop-i in
    let child = c.len-child.ensures ∙ c.args.nodes.now.ok.0 in
    let added = rw c.in-Some.is at c.in_ok-part.ensures in
    tail-says c.args.members.now l.i c.index-members-i.result c.args.nodes.now.items l.nodes.items c.add_parts.new.nodes.items c.put.new.nodes.items c.len-child.result c.in_ok-first.first c.in_ok-count.count l.so_far.end l.so_far.align c.in-Some.part c.in-Some-spot.spot c.is_tail-is_tail.result c.ended_by.result
    c.loop-i-test.true c.index-members-i.is l.invariant.made l.invariant.longer l.invariant.kept l.invariant.filled l.invariant.exact child c.in_ok-first.ensures c.in_ok-count.ensures added c.if-part-ne0.true c.in-Some-spot.ensures c.put.ensures c.is_tail-is_tail.ensures c.ended_by.ensures

pub add_members-returns : goal.add_members-returns
add_members-returns t c =
    let l = c.loop-i in
    let child = c.len-child.ensures ∙ c.args.nodes.now.ok.0 in
    structure-says c.args.members.now l.i c.args.nodes.now.items l.nodes.items c.len-child.result c.in_ok-first.first c.in_ok-count.count l.so_far.end l.so_far.align c.structure.result
    c.loop-i-test.false l.invariant.made l.invariant.longer l.invariant.kept l.invariant.filled l.invariant.exact child c.in_ok-first.ensures c.in_ok-count.ensures c.structure.ensures

pub add_element-returns-in_default : goal.add_element-returns-in_default
add_element-returns-in_default t c = no-element (type_view c.args.element.now) c.args.n (rw c.in_default.is at c.in_ok-part.ensures)
