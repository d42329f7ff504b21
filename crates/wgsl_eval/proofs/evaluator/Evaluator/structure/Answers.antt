use Rattle.std.proofs.Common.{◌≡◌, ◌∙◌, ◌+◌, ◌-◌, ◌≤◌, ◌<◌, length, map, vec_len, ap, subst, arith, rules}
use Rattle.std.proofs.lemmas.Grind.{common_steps}
use Rattle.std.proofs.lemmas.List.{length-map}
use Rattle.wgsl_rules.specs.View.{member_view}
use Rattle.wgsl_source.specs.Readings.{word_at}
use Rattle.wgsl_eval.specs.Evaluators.{Setting, setting_of}
use Rattle.wgsl_eval.specs.Structures.{IsFoundMember}
use Rattle.wgsl_eval.specs.declared.structure.FoundMember.{FoundMember}
use Rattle.wgsl_eval.proofs.Structures.{faults-structure, floats_more, member-none, members_pushed, structures}
use Rattle.wgsl_eval.proofs.evaluator.Evaluator.structure.Goals as goal

pub loop-number-preserved : goal.loop-number-preserved
loop-number-preserved c =
    let s = setting_of c.args.self.now in
    let t = setting_of c.loop-number.self in
    let n = c.loop-number.number in
    let P : FoundMember → Type 0 = λ x. IsFoundMember t c.in-Some.field x in
    let members = c.loop-number.members in
    let counted : length members.items ≡ vec_len members = first_of (search rules, omega (arith, members.ok.0), grind (arith, common_steps)) in
    let at : n ≡ c.args.first + length members.items = omega (arith, counted) in
    record {
      keeps = c.field-in-loop-number.ensures.keeps ∙ c.loop-number.invariant.keeps;
      count = grind (arith, common_steps);
      within = omega arith;
      members = members_pushed s t c.args.first n members.items c.push.new.self.items c.in-Member.member c.field.result c.in-Some.field c.loop-number.invariant.keeps
          c.field.ensures c.in-Some.is (subst P c.in-Member.is c.in_ok-member.ensures.found).0 at c.in_ok-push-in-Member.ensures.items c.loop-number.invariant.members;
      floats = floats_more members.items c.push.new.self.items c.in-Member.member _ _ _ c.in_ok-push-in-Member.ensures.items c.loop-number.invariant.floats
          (subst P c.in-Member.is c.in_ok-member.ensures.found).1 c.with-together.ensures;
    }

pub returns-clause-structure : goal.returns-clause-structure
returns-clause-structure c =
    let s = setting_of c.args.self.now in
    let members = c.loop-number.members in
    let counted : length members.items ≡ vec_len members = first_of (search rules, omega (arith, members.ok.0), grind (arith, common_steps)) in
    let count : vec_len members ≡ c.args.end - c.args.first = omega arith in
    structures s c.args.name c.args.first c.args.end _ (map member_view members.items) c.structure_of.result
    (ap (λ (u : Setting). word_at u.source c.args.name) c.loop-number.invariant.keeps) (length-map members.items member_view ∙ counted ∙ count)
    c.loop-number.invariant.members c.structure_of.ensures.structure

pub returns-in-Other-clause-structure : goal.returns-in-Other-clause-structure
returns-in-Other-clause-structure c =
    let t = setting_of c.loop-number.self in
    let P : FoundMember → Type 0 = λ x. IsFoundMember t c.in-Some.field x in
    let found = subst P c.in-Other.is c.in_ok-member.ensures.found in
    let from : c.args.first ≤ c.loop-number.number = omega arith in
    let to : c.loop-number.number < c.args.end = omega arith in
    member-none (setting_of c.args.self.now) t c.args.name c.args.first c.args.end c.loop-number.number c.field.result c.in-Some.field c.in-Other.answer c.loop-number.invariant.keeps
    c.field.ensures c.in-Some.is from to found.1 found.2
