use Rattle.std.proofs.Common.{ap, ◌∙◌, ◌++◌, ◌∷◌, []}
use Rattle.wgsl_rules.specs.Values.{Reference, index}
use Rattle.wgsl_values.specs.View.{reference_of}
use Rattle.wgsl_store.specs.Cells.{part_value}
use Rattle.wgsl_store.proofs.Answered.{indexed-storable, indexed-viewed, step-kept}
use Rattle.wgsl_store.proofs.references.RefInstanceReferences.view_index.Goals as goal

pub ty-requires-clause-storable : goal.ty-requires-clause-storable
ty-requires-clause-storable c = indexed-storable c.args.i (part_value c.in_ok-whole.whole) (part_value c.in-Some.part) c.in_ok-whole.ensures.content.0 c.in-Some.ensures.value

pub returns-clause-kept : goal.returns-clause-kept
returns-clause-kept c =
    step-kept c.args.store.now (reference_of c.args.self.now) (reference_of c.from_parts.result) (index c.args.i) (part_value c.in_ok-whole.whole) (part_value c.in-Some.part)
    c.in_ok-whole.ensures.outcome (indexed-viewed c.args.i (part_value c.in_ok-whole.whole) (part_value c.in-Some.part) c.in-Some.ensures.value)
    (ap (λ (q : Reference). q.cell) c.from_parts.ensures ∙ c.cell.ensures)
    (ap (λ (q : Reference). q.view) c.from_parts.ensures ∙ c.in_ok-view.ensures ∙ ap (λ ss. ss ++ (index c.args.i) ∷ []) c.view.ensures)
    (ap (λ (q : Reference). q.ty) c.from_parts.ensures ∙ c.in_ok-ty.ensures)
