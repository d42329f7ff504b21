use Rattle.std.proofs.Common.{◌≡◌, ◌∙◌, Option, option_map, Vec, Global, refl, rules, string_bytes, sym, ap}
use Rattle.std.specs.Prelude.{IfOk}
use Rattle.wgsl_apply.specs.Zeros.{zero_of}
use Rattle.wgsl_rules.specs.Types.{struct}
use Rattle.wgsl_rules.specs.View.{type_view, struct_view, members_view}
use Rattle.wgsl_rules.specs.declared.ty.StructType.{out-StructType}
use Rattle.wgsl_rules.specs.declared.ty.Type.{the_lemmas as type_lemmas}
use Rattle.wgsl_rules.proofs.lemmas.Views.{struct_view-is}
use Rattle.wgsl_values.specs.View.{vals_view, value_of}
use Rattle.wgsl_values.specs.declared.instance.Instance.{Instance}
use Rattle.wgsl_apply.proofs.Parts.{members-none, members-push, ok-zero}
use Rattle.wgsl_apply.proofs.Zeros.{record-made}
use Rattle.wgsl_apply.proofs.make.+zeros.Goals as goal

pub zero-returns-in-Mat-clause-some : goal.zero-returns-in-Mat-clause-some
zero-returns-in-Mat-clause-some t c =
    let made : IfOk c.zero_matrix.result (λ (o : Option Instance). option_map value_of o ≡ zero_of (type_view c.args.ty.now)) = search (rules, type_lemmas) in
    ok-zero value_of c.zero_matrix.result (type_view c.args.ty.now) made

pub zero-returns-in-Some-clause-some : goal.zero-returns-in-Some-clause-some
zero-returns-in-Some-clause-some t c =
    let made : IfOk c.array_of_copies.result (λ (o : Option Instance). option_map value_of o ≡ zero_of (type_view c.args.ty.now)) = search (rules, type_lemmas) in
    ok-zero value_of c.array_of_copies.result (type_view c.args.ty.now) made

pub zero-returns-in-Struct-clause-some : goal.zero-returns-in-Struct-clause-some
zero-returns-in-Struct-clause-some t c =
    let made : IfOk c.zero_structure.result (λ (o : Option Instance). option_map value_of o ≡ zero_of (type_view c.args.ty.now)) = search (rules, type_lemmas) in
    ok-zero value_of c.zero_structure.result (type_view c.args.ty.now) made

pub zero_members-returns-in-None : goal.zero_members-returns-in-None
zero_members-returns-in-None t c =
    let none = sym (ap (option_map value_of) c.in-None.is) ∙ c.in_ok-value.ensures.value in
    members-none c.args.members.now c.loop-member.member-index c.member-item.result c.loop-member-test.true c.member-item.is none

pub zero_members-loop-member-preserved : goal.zero_members-loop-member-preserved
zero_members-loop-member-preserved t c =
    let l = c.loop-member in
    let some = sym (ap (option_map value_of) c.in-Some.is) ∙ c.in_ok-value.ensures.value in
    rw c.in_ok-push-in-Some.ensures.items (members-push value_of c.args.members.now l.member-index c.member-item.result l.values.items c.in-Some.value c.loop-member-test.true c.member-item.is l.invariant some)

pub zero_structure-returns-in_ok-clone-in-Some : goal.zero_structure-returns-in_ok-clone-in-Some
zero_structure-returns-in_ok-clone-in-Some t c =
    let s = c.args.ty.now in
    let own = c.in_ok-clone-in-Some.field-0 in
    let name = string_bytes (out-StructType s).name in
    let fs = members_view c.as_slice.result.now in
    let whole : struct_view s ≡ struct name fs = rw (struct_view-is s, ← c.as_slice.ensures.value) refl in
    let given = sym c.in_ok-members.ensures ∙ ap (option_map (λ (vs : Vec Instance Global). vals_view vs.items)) c.in-Some.is in
    record-made value_of c.make_structure.result (struct_view own) name fs (vals_view c.in-Some.members.items) (c.in_ok-clone-in-Some.ensures ∙ whole) given c.make_structure.ensures.value
    ∙ ap zero_of (sym whole)
