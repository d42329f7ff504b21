use Rattle.std.proofs.Common.{◌≡◌, ◌∙◌, ◌+◌, Bool, Option, ℕ, is_some, drop, ap}
use Rattle.std.specs.Prelude.{◌&&◌}
use Rattle.wgsl_rules.specs.Layout.{is_fixed_member, is_runtime_member, have_fixed_layouts}
use Rattle.wgsl_rules.specs.Types.{Ty}
use Rattle.wgsl_rules.specs.Size.{Extent, extents, extent_of, end_of_members, greatest_align, end_after, offset_after, align_after}
use Rattle.wgsl_rules.specs.View.{member_view, members_view}
use Rattle.wgsl_rules.specs.declared.ty.StructMemberType.{StructMemberType}
use Rattle.wgsl_rules.proofs.lemmas.Members.{next, ends, of-member}
use Rattle.wgsl_rules.proofs.+measures.Goals as goal

pub measures::measure_members-loop-member-preserved : goal.measures::measure_members-loop-member-preserved
measures::measure_members-loop-member-preserved t c =
    let ms = c.args.members.now in
    let l = c.loop-member in
    let m = c.measures.ensures in
    let with = c.with-so_far.ensures in
    let f = member_view c.member-item.result in
    let fs = members_view (drop (l.member-index + 1) ms) in
    let n = next ms l.member-index c.member-item.result c.loop-member-test.true c.member-item.is in
    let size = m.size in let align = m.align in
    let extent : record { size = c.measures.result.size; align = c.measures.result.align } ≡ extent_of f = cc in
    let end = with.end ∙ ap (λ (x : Extent). end_after l.so_far.end x) extent in
    let fixed = with.fixed ∙ ap (λ (b : Bool). l.so_far.are_fixed && b) m.fixed in
    let runtime =
    with.runtime ∙ ap (λ (b : Bool). l.so_far.are_fixed && (b && is_some (offset_after l.so_far.end (record { size = c.measures.result.size; align = c.measures.result.align })))) m.runtime
    ∙ ap (λ (x : Extent). l.so_far.are_fixed && (is_runtime_member f && is_some (offset_after l.so_far.end x))) extent in
    record {
      end = ap (λ (o : Option ℕ). end_of_members o (extents fs)) end ∙ n.end l.so_far.end ∙ l.invariant.end;
      align = ap (λ (o : Option ℕ). greatest_align o (extents fs)) (with.align ∙ ap (λ (x : Extent). align_after l.so_far.align x) extent) ∙ n.align l.so_far.align ∙ l.invariant.align;
      fixed = ap (λ (b : Bool). b && have_fixed_layouts fs) fixed ∙ n.fixed l.so_far.are_fixed ∙ l.invariant.fixed;
      runtime =
          ap (λ (b : Bool). ends b c.with-so_far.result.are_fixed c.with-so_far.result.end fs) runtime
          ∙ ap (λ (b : Bool). ends (l.so_far.are_fixed && (is_runtime_member f && is_some (offset_after l.so_far.end (extent_of f)))) b c.with-so_far.result.end fs) fixed
          ∙ ap (λ (o : Option ℕ). ends (l.so_far.are_fixed && (is_runtime_member f && is_some (offset_after l.so_far.end (extent_of f)))) (l.so_far.are_fixed && is_fixed_member f) o fs) end
          ∙ n.runtime l.so_far.end_in_runtime_array l.so_far.are_fixed l.so_far.end ∙ l.invariant.runtime;
    }

pub ty::StructMemberType::measures-returns-clause-size : goal.ty::StructMemberType::measures-returns-clause-size
ty::StructMemberType::measures-returns-clause-size t c =
    let m = c.measures.ensures in
    (of-member c.args.self.now c.measures.result c.of_member.result (record { size = m.size; align = m.align; fixed = m.fixed; runtime = m.runtime }) c.of_member.ensures).size

pub ty::StructMemberType::measures-returns-clause-align : goal.ty::StructMemberType::measures-returns-clause-align
ty::StructMemberType::measures-returns-clause-align t c =
    let m = c.measures.ensures in
    (of-member c.args.self.now c.measures.result c.of_member.result (record { size = m.size; align = m.align; fixed = m.fixed; runtime = m.runtime }) c.of_member.ensures).align

pub ty::StructMemberType::measures-returns-clause-fixed : goal.ty::StructMemberType::measures-returns-clause-fixed
ty::StructMemberType::measures-returns-clause-fixed t c =
    let m = c.measures.ensures in
    (of-member c.args.self.now c.measures.result c.of_member.result (record { size = m.size; align = m.align; fixed = m.fixed; runtime = m.runtime }) c.of_member.ensures).fixed

pub ty::StructMemberType::measures-returns-clause-runtime : goal.ty::StructMemberType::measures-returns-clause-runtime
ty::StructMemberType::measures-returns-clause-runtime t c =
    let m = c.measures.ensures in
    (of-member c.args.self.now c.measures.result c.of_member.result (record { size = m.size; align = m.align; fixed = m.fixed; runtime = m.runtime }) c.of_member.ensures).runtime
