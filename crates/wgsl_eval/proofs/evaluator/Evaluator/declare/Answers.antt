use Rattle.std.proofs.Common.{◌≡◌, length, vec_len, arith, rules, subst}
use Rattle.std.proofs.lemmas.Grind.{common_steps}
use Rattle.std.specs.Prelude.{slice_get}
use Rattle.wgsl_eval.specs.Evaluators.{Setting, setting_of}
use Rattle.wgsl_eval.specs.Meanings.{AreOthers, IsSecond}
use Rattle.wgsl_eval.proofs.Puts.{fails, found_first}
use Rattle.wgsl_eval.proofs.evaluator.Evaluator.declare.Goals as goal

pub returns-in-Ok-clause-found : goal.returns-in-Ok-clause-found
returns-in-Ok-clause-found c =
    let s = setting_of c.args.self.now in
    let n = c.args.number in
    let ms = c.tell_beside.new.self.meanings in
    let told = c.in-Ok.ensures.told in
    let counted : length ms.items ≡ vec_len ms = first_of (search rules, omega (arith, ms.ok.0), grind (arith, common_steps)) in
    let P : Setting → Type 0 = λ u. AreOthers u (slice_get u.source.declared n) c.in_ok-meaning.meaning told.0 in
    found_first c.set_meaning.result s (setting_of c.meaning_of.new.self) (setting_of c.tell_beside.new.self) (setting_of c.set_meaning.new.self) n (vec_len ms) c.in_ok-meaning.meaning told.0
    c.meaning_of.ensures.keeps told.2 counted c.set_meaning.ensures.others c.set_meaning.ensures.there c.set_meaning.ensures.faults
    c.in_ok-meaning.ensures.declared (subst P c.meaning_of.ensures.keeps told.1)
    (fails c.is_second.result (IsSecond s.source n) c.is_second.ensures c.if-is_second.false)
