use Rattle.std.proofs.Common.{◌≡◌, ◌∙◌, ◌+◌, Bool, false, not, Option, ℕ, List, [], ◌∷◌, ◌++◌, length, drop, sym, ap, subst, refl, string_bytes, OnOk}
use Rattle.std.specs.Prelude.{◌==◌}
use Rattle.std.proofs.lemmas.List.{drop_all}
use Rattle.std.proofs.lemmas.Result.{on_ok_weaker}
use Rattle.wgsl_rules.specs.Layout.{have_none}
use Rattle.wgsl_rules.specs.Types.{Fields, no_fields}
use Rattle.wgsl_rules.specs.View.{type_view, member_view, members_view}
use Rattle.wgsl_rules.specs.declared.ty.StructMemberType.{out-StructMemberType}
use Rattle.wgsl_rules.proofs.lemmas.Views.{view-Array, struct_view-is, member_view-is}
use Rattle.wgsl_rules.proofs.lemmas.Members.{fields-from}
use Rattle.wgsl_interface.specs.Faults.{Fault, faults_view, with_more, told, unless, faults, member_faults, element_rule, member_rule, member_path}
use Rattle.wgsl_interface.specs.Walks.{IsTold, element_faults, faults_of_member}
use Rattle.wgsl_interface.specs.declared.faults.Walk.{Walk}
use Rattle.wgsl_interface.specs.declared.rule.ShareRule.{ShareRule}
use Rattle.wgsl_interface.specs.declared.rule.ShareRule.TheVariants as rules
use Rattle.wgsl_interface.proofs.Members.{none-from, none-of}
use Rattle.wgsl_interface.proofs.Told.{with_more-both, then-told, below-told, told-none, named, dotted, undotted, member_rest, behind}
use Rattle.wgsl_interface.proofs.faults.Walk.+faults.Goals.{tell_member-then-end-gt0+in_ok-push_str, tell_member-else-end-gt0}
use Rattle.wgsl_interface.proofs.faults.Walk.+faults.Goals as goal

pub tell_members-loop-i-preserved : goal.tell_members-loop-i-preserved
tell_members-loop-i-preserved t c =
    let l = c.loop-i in
    let ms = c.args.members.now in
    let m = c.index-members-i.result in
    let f = member_view m in
    let asked = c.args.asked in
    let p = string_bytes c.args.self.now.path in
    let fs = members_view (drop (l.i + 1) ms) in
    let h = c.in_ok-tell_member.ensures in
    let views = faults_view l.self.faults.items in
    let last = none-from ms l.i c.loop-i-test.true in
    record {
      path = h.path ∙ l.invariant.path;
      faults =
          ap (λ (gs : List Fault). with_more gs (member_faults asked p fs)) h.faults
          ∙ with_more-both views (faults_of_member asked (string_bytes l.self.path) (l.i + 1 == length ms) f) (member_faults asked p fs)
          ∙ ap (λ (q : List ℕ). with_more views (faults_of_member asked q (l.i + 1 == length ms) f ++ member_faults asked p fs)) l.invariant.path
          ∙ ap (λ (b : Bool). with_more views (faults_of_member asked p b f ++ member_faults asked p fs)) (sym last)
          ∙ ap (λ (gs : Fields). with_more views (member_faults asked p gs)) (sym (fields-from ms l.i m c.loop-i-test.true c.index-members-i.is))
          ∙ l.invariant.faults;
    }

pub tell_members-returns : goal.tell_members-returns
tell_members-returns t c =
    let l = c.loop-i in
    let ms = c.args.members.now in
    let none : members_view (drop l.i ms) ≡ no_fields = ap members_view (drop_all l.i ms c.loop-i-test.false) in
    record {
      path = l.invariant.path;
      faults = told-none (faults_view l.self.faults.items)
          ∙ ap (λ (gs : Fields). with_more (faults_view l.self.faults.items) (member_faults c.args.asked (string_bytes c.args.self.now.path) gs)) (sym none)
          ∙ l.invariant.faults;
    }

pub tell_element-returns : goal.tell_element-returns
tell_element-returns t c =
    let old = c.args.self.now in
    let down : Walk = record { path = c.push_str.new.self; faults = old.faults } in
    let inner = c.tell_type.new.self in
    let asked = c.args.asked in
    let u = type_view c.args.ty.now in
    let at = c.in_ok-push_str.ensures.bytes in
    let both = then-told down c.tell.new.self inner (told c.element_rule.result (string_bytes down.path)) (λ q. faults asked q u) c.in_ok-tell.ensures c.in_ok-tell_type.ensures in
    below-told old down inner (record { path = c.truncate.new.self; faults = inner.faults }) c.len-end.result (element_faults asked (string_bytes old.path) u) (91 ∷ 93 ∷ [])
    at refl (sym (c.len-end.ensures ∙ old.path.bytes.ok.0)) c.truncate.ensures.bytes refl
    (subst (λ (q : List ℕ). IsTold down inner (told (element_rule u) q ++ faults asked q u)) at
    (subst (λ (r : Option ShareRule). IsTold down inner (told r (string_bytes down.path) ++ faults asked (string_bytes down.path) u)) c.element_rule.ensures both))

pub tell_member-returns : goal.tell_member-returns
tell_member-returns t c =
    let old = c.args.self.now in
    let m = c.args.member.now in
    let p = string_bytes old.path in
    let name = string_bytes (out-StructMemberType m).name in
    let u = type_view (out-StructMemberType m).ty in
    let down : Walk = record { path = c.push_str-2.new.self; faults = c.if-end-gt0.self.faults } in
    let inner = c.tell_type.new.self in
    let asked = c.args.asked in
    let end = c.len-end.ensures ∙ old.path.bytes.ok.0 in
    let from = string_bytes c.if-end-gt0.self.path in
    let is = named (string_bytes down.path) from c.as_str.result.now name c.in_ok-push_str-2.ensures.bytes c.as_str.ensures.value in
    let at : string_bytes down.path ≡ member_path p name = elim c.if-end-gt0.branch [
      | tell_member-then-end-gt0+in_ok-push_str w ↦
          dotted (string_bytes down.path) from p name is (rw w.self-is w.in_ok-push_str.ensures.bytes) (rw (← end) w.if-end-gt0.true)
      | tell_member-else-end-gt0 w ↦
          undotted (string_bytes down.path) from p name is (rw w.self-is refl) (rw (← end) w.if-end-gt0.false)
    ] in
    let same : faults_view down.faults.items ≡ faults_view old.faults.items = elim c.if-end-gt0.branch [
      | tell_member-then-end-gt0+in_ok-push_str w ↦ ap (λ (s : Walk). faults_view s.faults.items) w.self-is
      | tell_member-else-end-gt0 w ↦ ap (λ (s : Walk). faults_view s.faults.items) w.self-is
    ] in
    let both = then-told down c.tell.new.self inner (told c.member_rule.result (string_bytes down.path)) (λ q. faults asked q u) c.in_ok-tell.ensures c.in_ok-tell_type.ensures in
    rw (member_view-is m)
    (below-told old down inner (record { path = c.truncate.new.self; faults = inner.faults }) c.len-end.result (told (member_rule c.args.is_last u) (member_path p name) ++ faults asked (member_path p name) u) (member_rest p name)
    (behind (string_bytes down.path) p name at) same (sym end) c.truncate.ensures.bytes refl
    (subst (λ (q : List ℕ). IsTold down inner (told (member_rule c.args.is_last u) q ++ faults asked q u)) at
    (subst (λ (r : Option ShareRule). IsTold down inner (told r (string_bytes down.path) ++ faults asked (string_bytes down.path) u)) c.member_rule.ensures both)))

pub tell_struct-returns-else-is_empty : goal.tell_struct-returns-else-is_empty
tell_struct-returns-else-is_empty t c =
    let old = c.args.self.now in
    let ms = c.as_slice.result.now in
    let p = string_bytes old.path in
    let some : have_none (members_view ms) ≡ false = none-of ms ∙ ap (λ (n : ℕ). n == 0) c.as_slice.ensures.len ∙ sym c.if-is_empty.ensures in
    let none : told (unless (not (have_none (members_view ms))) rules.Shape) p ≡ [] = rw some refl in
    rw (struct_view-is c.args.ty.now) (rw (← c.as_slice.ensures.value)
    (subst (λ (gs : List Fault). OnOk c.tell_members.result (IsTold old c.tell_members.new.self (gs ++ member_faults c.args.asked p (members_view ms)))) (sym none) c.tell_members.ensures))

pub tell_type-returns-in_ok-tell-in-Array : goal.tell_type-returns-in_ok-tell-in-Array
tell_type-returns-in_ok-tell-in-Array t c =
    let old = c.args.self.now in
    let asked = c.args.asked in
    let u = type_view c.deref-in-Array.result.now in
    let p = string_bytes old.path in
    rw c.in-Array.is (rw (view-Array c.in-Array.element c.in-Array.n) (rw (← c.deref-in-Array.ensures)
    (on_ok_weaker c.tell_element.result
    (λ h. subst (λ (r : Option ShareRule). IsTold old c.tell_element.new.self (told r p ++ element_faults asked p u)) c.array_rule.ensures
    (then-told old c.tell-in-Array.new.self c.tell_element.new.self (told c.array_rule.result p) (λ q. element_faults asked q u) c.in_ok-tell-in-Array.ensures h))
    c.tell_element.ensures)))
