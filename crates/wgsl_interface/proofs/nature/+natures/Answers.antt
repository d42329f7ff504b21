use Rattle.std.proofs.Common.{◌≡◌, ◌∙◌, ◌+◌, Bool, not, drop, ap, sym, subst, refl, length}
use Rattle.std.specs.Prelude.{◌&&◌, ◌||◌, ◌==◌}
use Rattle.std.proofs.lemmas.List.{drop_all}
use Rattle.wgsl_interface.specs.Natures.{IsNatureOf}
use Rattle.wgsl_interface.specs.Plain.{are_plain, are_sized, are_concrete}
use Rattle.wgsl_interface.specs.Shared.{are_constructible, are_host_shareable, have_atomic}
use Rattle.wgsl_interface.proofs.Members.{next, none-from, none-of, at_end, or_at_end}
use Rattle.wgsl_rules.specs.Types.{Ty, Fields, no_fields}
use Rattle.wgsl_rules.specs.Layout.{have_none}
use Rattle.wgsl_rules.specs.View.{member_view, members_view}
use Rattle.wgsl_rules.proofs.lemmas.Views.{struct_view-is, member-type}
use Rattle.wgsl_rules.proofs.lemmas.Members.{fields-from}
use Rattle.wgsl_interface.proofs.nature.+natures.Goals as goal

pub nature_of_members-loop-i-preserved : goal.nature_of_members-loop-i-preserved
nature_of_members-loop-i-preserved t c =
    let ms = c.args.members.now in
    let l = c.loop-i in
    let m = c.index-members-i.result in
    let fs = members_view (drop (l.i + 1) ms) in
    let is = fields-from ms l.i m c.loop-i-test.true c.index-members-i.is in
    let of : IsNatureOf (member_view m).ty c.nature_of.result = subst (λ (t : Ty). IsNatureOf t c.nature_of.result) (sym (member-type m)) c.nature_of.ensures in
    let n = next (member_view m) fs (l.i + 1 == length ms) c.nature_of.result of (none-from ms l.i c.loop-i-test.true) in
    let with = c.with_member-all.ensures in
    record {
      plain = ap (λ (b : Bool). b && are_plain fs) with.plain ∙ n.plain l.all.is_plain ∙ ap (λ (gs : Fields). l.all.is_plain && are_plain gs) (sym is) ∙ l.invariant.plain;
      sized = ap (λ (b : Bool). b && are_sized fs) with.sized ∙ n.sized l.all.is_sized ∙ ap (λ (gs : Fields). l.all.is_sized && are_sized gs) (sym is) ∙ l.invariant.sized;
      runtime = with.runtime;
      concrete = ap (λ (b : Bool). b && are_concrete fs) with.concrete ∙ n.concrete l.all.is_concrete ∙ ap (λ (gs : Fields). l.all.is_concrete && are_concrete gs) (sym is) ∙ l.invariant.concrete;
      constructible = ap (λ (b : Bool). b && are_constructible fs) with.constructible ∙ n.constructible l.all.is_constructible ∙ ap (λ (gs : Fields). l.all.is_constructible && are_constructible gs) (sym is) ∙ l.invariant.constructible;
      shareable = ap (λ (b : Bool). b && are_host_shareable fs) with.shareable ∙ n.shareable l.all.is_host_shareable ∙ ap (λ (gs : Fields). l.all.is_host_shareable && are_host_shareable gs) (sym is) ∙ l.invariant.shareable;
      atomic = ap (λ (b : Bool). b || have_atomic fs) with.atomic ∙ n.atomic l.all.has_atomic ∙ ap (λ (gs : Fields). l.all.has_atomic || have_atomic gs) (sym is) ∙ l.invariant.atomic;
    }

pub nature_of_struct-returns : goal.nature_of_struct-returns
nature_of_struct-returns t c = rw (struct_view-is c.args.ty.now) (rw (← c.as_slice.ensures.value) (c.nature_of_members.ensures _))

pub nature_of_members-returns : goal.nature_of_members-returns
nature_of_members-returns t c = λ name.
    let ms = c.args.members.now in
    let l = c.loop-i in
    let none : members_view (drop l.i ms) ≡ no_fields = ap members_view (drop_all l.i ms c.loop-i-test.false) in
    let shape : c.is_empty-is_shape.result ≡ have_none (members_view ms) = c.is_empty-is_shape.ensures ∙ sym (none-of ms) in
    record {
      plain = at_end are_plain l.all.is_plain none refl ∙ l.invariant.plain ∙ ap (λ (b : Bool). not b && are_plain (members_view ms)) shape;
      sized = at_end are_sized l.all.is_sized none refl ∙ l.invariant.sized;
      runtime = l.invariant.runtime;
      concrete = at_end are_concrete l.all.is_concrete none refl ∙ l.invariant.concrete;
      constructible = at_end are_constructible l.all.is_constructible none refl ∙ l.invariant.constructible ∙ ap (λ (b : Bool). not b && are_constructible (members_view ms)) shape;
      shareable = at_end are_host_shareable l.all.is_host_shareable none refl ∙ l.invariant.shareable ∙ ap (λ (b : Bool). not b && are_host_shareable (members_view ms)) shape;
      atomic = or_at_end have_atomic l.all.has_atomic none refl ∙ l.invariant.atomic;
    }
