use Rattle.std.proofs.Common.{◌≡◌, ℕ, ap, ◌∙◌, Some, option_map, string_bytes, ◌++◌, ◌∷◌, []}
use Rattle.wgsl_rules.specs.Paths.{member_named}
use Rattle.wgsl_rules.specs.Values.{Val, Reference, member}
use Rattle.wgsl_values.specs.View.{reference_of}
use Rattle.wgsl_values.proofs.lemmas.Steps.{viewed-member}
use Rattle.wgsl_store.specs.Cells.{part_value}
use Rattle.wgsl_store.proofs.Answered.{member-storable, step-kept}
use Rattle.wgsl_store.proofs.references.RefInstanceReferences.view_member.Goals as goal

led : (c : goal.In-Some) → Some (part_value c.in-Some.part) ≡ option_map (λ p. p.1) (member_named (string_bytes c.args.name) (part_value c.in_ok-whole.whole))
led c = c.in-Some.ensures.value ∙ ap (λ n. option_map (λ (p : ℕ × Val). p.1) (member_named n (part_value c.in_ok-whole.whole))) c.as_str.ensures.value

pub ty-requires-2-clause-storable : goal.ty-requires-2-clause-storable
ty-requires-2-clause-storable c = member-storable (string_bytes c.args.name) (part_value c.in_ok-whole.whole) (part_value c.in-Some.part) c.in_ok-whole.ensures.content.0 (led c)

pub returns-clause-kept : goal.returns-clause-kept
returns-clause-kept c =
    step-kept c.args.store.now (reference_of c.args.self.now) (reference_of c.from_parts.result) (member (string_bytes c.args.name)) (part_value c.in_ok-whole.whole) (part_value c.in-Some.part)
    c.in_ok-whole.ensures.outcome (viewed-member (string_bytes c.args.name) [] (part_value c.in_ok-whole.whole) (part_value c.in-Some.part) (c.in-Some.ensures.value ∙ ap (λ n. option_map (λ (p : ℕ × Val). p.1) (member_named n (part_value c.in_ok-whole.whole))) c.as_str.ensures.value))
    (ap (λ (q : Reference). q.cell) c.from_parts.ensures ∙ c.cell.ensures)
    (ap (λ (q : Reference). q.view) c.from_parts.ensures ∙ c.in_ok-view.ensures ∙ ap (λ ss. ss ++ (member (string_bytes c.args.name)) ∷ []) c.view.ensures)
    (ap (λ (q : Reference). q.ty) c.from_parts.ensures ∙ c.in_ok-ty-2.ensures)
