use Rattle.std.proofs.Common.{◌≡◌, [], refl, ◌∙◌, rules}
use Rattle.wgsl_rules.specs.View.{type_view}
use Rattle.wgsl_values.specs.View.{steps_of, reference_of}
use Rattle.wgsl_values.specs.declared.view.MemView.{Whole, the_lemmas}
use Rattle.wgsl_store.proofs.LaidCells.{new-made, none-made}
use Rattle.wgsl_store.proofs.store.Store.new_sharing.Goals as goal

pub returns-then-not-branch-clause-made : goal.returns-then-not-branch-clause-made
returns-then-not-branch-clause-made c =
    none-made c.args.bytes.now (type_view c.args.ty) c.args.space c.args.access c.args.self.now c.add_bytes.new.self c.in_ok-add_bytes.field-0
    c.if-not-branch.true c.in_ok-add_bytes.ensures.added

pub returns-clause-made : goal.returns-clause-made
returns-clause-made c =
    let whole : steps_of Whole ≡ [] = search (rules, the_lemmas) in
    let t = type_view c.args.ty in
    let is = c.from_parts.ensures in
    (new-made c.args.bytes.now t c.args.space c.args.access c.args.self.now c.add_bytes.new.self (reference_of c.from_parts.result) c.in_ok-add_bytes.field-0
    c.if-not-branch.false c.in_ok-add_bytes.ensures.added (is ∙ rw (c.len-cell.ensures.count, whole) refl)).made

pub returns-clause-own_kept : goal.returns-clause-own_kept
returns-clause-own_kept c =
    let whole : steps_of Whole ≡ [] = search (rules, the_lemmas) in
    let t = type_view c.args.ty in
    let is = c.from_parts.ensures in
    (new-made c.args.bytes.now t c.args.space c.args.access c.args.self.now c.add_bytes.new.self (reference_of c.from_parts.result) c.in_ok-add_bytes.field-0
    c.if-not-branch.false c.in_ok-add_bytes.ensures.added (is ∙ rw (c.len-cell.ensures.count, whole) refl)).kept
