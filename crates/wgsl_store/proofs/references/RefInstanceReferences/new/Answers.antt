use Rattle.std.proofs.Common.{◌≡◌, [], ap, ◌∙◌, rules}
use Rattle.wgsl_rules.specs.Values.{Reference}
use Rattle.wgsl_values.specs.View.{value_of, steps_of, reference_of}
use Rattle.wgsl_values.specs.declared.view.MemView.{Whole, the_lemmas}
use Rattle.wgsl_store.proofs.Answered.{new-kept}
use Rattle.wgsl_store.proofs.references.RefInstanceReferences.new.Goals as goal

pub returns-clause-own_kept : goal.returns-clause-own_kept
returns-clause-own_kept c =
    let whole : steps_of Whole ≡ [] = search (rules, the_lemmas) in
    new-kept c.args.store.now c.add.new.self (value_of c.args.value) (reference_of c.from_parts.result) c.in_ok-cell.ensures.added
    (ap (λ (q : Reference). q.cell) c.from_parts.ensures ∙ c.in_ok-cell.ensures.ok)
    (ap (λ (q : Reference). q.view) c.from_parts.ensures ∙ whole)
    (ap (λ (q : Reference). q.ty) c.from_parts.ensures ∙ c.in_ok-ty.ensures)
