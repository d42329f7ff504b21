use Rattle.std.proofs.Common.{ℕ, length, map, subst, sym, ◌∙◌}
use Rattle.std.proofs.lemmas.List.{length-map}
use Rattle.std.proofs.lemmas.List.Elements.{All-map}
use Rattle.wgsl_source.specs.Identifiers.{IsNameOrTold}
use Rattle.wgsl_source.specs.Orders.{IsOrderOf}
use Rattle.wgsl_source.specs.Readings.{declared_in, extent_in, field_in}
use Rattle.wgsl_source.specs.declared.declaration.Declaration.{Declaration}
use Rattle.wgsl_source.specs.declared.declaration.Member.{Member}
use Rattle.wgsl_source.specs.declared.module.Field.{Field}
use Rattle.wgsl_source.proofs.FaultLemmas.{kept_then, kept_to_end, covered_then}
use Rattle.wgsl_source.proofs.IdentifierLemmas.{shown_names}
use Rattle.wgsl_source.proofs.PieceLemmas.{shown_pieces}
use Rattle.wgsl_source.specs.NameTables.{named_in}
use Rattle.wgsl_source.proofs.NameTableLemmas.{named-none}
use Rattle.wgsl_source.proofs.ReadingLemmas.{found_first_in, found_by_if-same}
use Rattle.wgsl_source.proofs.module.Reading.of_module.Goals as goal

pub invariant_of-result : goal.invariant_of-result
invariant_of-result c =
    found_first_in c.new-cursor.result c.args.text.now c.in_ok-tokens.tokens.items c.in_ok-module.module.declarations.items (length c.in_ok-names.names.maps.items) (named_in c.in_ok-names.names)
    c.new-cursor.ensures.text
    (c.new-cursor.ensures.tokens ∙ c.as_slice.ensures.value)
    (named-none c.in_ok-names.names)
    c.in_ok-names.ensures.names

pub returns-clause-found : goal.returns-clause-found
returns-clause-found c =
    found_by_if-same c.new-cursor.result c.in_ok-module.module.declarations.items (length c.in_ok-names.names.maps.items) (named_in c.in_ok-names.names)
    (named-none c.in_ok-names.names)
    c.in_ok-names.ensures.names

pub returns-clause-holds : goal.returns-clause-holds
returns-clause-holds c =
    let m = c.in_ok-module.module in
    let read = c.read_module.new.faults.faults.items in
    let checked = c.check_names.new.faults.faults.items in
    let sorted = c.in_ok-into_sorted.field-0.items in
    let kept = kept_to_end checked c.names_of.new.faults.faults.items c.order_of.new.faults.faults.items c.add_refused.new.faults.faults.items sorted c.names_of.ensures.kept c.order_of.ensures.kept c.add_refused.ensures c.in_ok-into_sorted.ensures.same in
    shown_pieces c.new-cursor.result c.args.text.now c.in_ok-tokens.tokens.items m.pieces.items (map (λ (d : Declaration). d.name) m.declarations.items) (length m.asserts.items) read sorted (length c.new-cursor.result.tokens.now)
    c.new-cursor.ensures.text (c.new-cursor.ensures.tokens ∙ c.as_slice.ensures.value)
    (kept_then read checked sorted c.check_names.ensures.kept kept)
    c.in_ok-module.ensures.read

pub returns-clause-names : goal.returns-clause-names
returns-clause-names c =
    let ds = c.in_ok-module.module.declarations.items in
    let tokens = c.in_ok-tokens.tokens.items in
    let checked = c.check_names.new.faults.faults.items in
    let sorted = c.in_ok-into_sorted.field-0.items in
    let kept = kept_to_end checked c.names_of.new.faults.faults.items c.order_of.new.faults.faults.items c.add_refused.new.faults.faults.items sorted c.names_of.ensures.kept c.order_of.ensures.kept c.add_refused.ensures c.in_ok-into_sorted.ensures.same in
    All-map (IsNameOrTold c.args.text.now (map extent_in tokens) sorted) (λ (d : Declaration). d.name) ds
    (shown_names (λ (d : Declaration). d.name) c.new-cursor.result c.args.text.now tokens checked sorted ds
    c.new-cursor.ensures.text (c.new-cursor.ensures.tokens ∙ c.as_slice.ensures.value)
    kept c.in_ok-check_names.ensures.declarations)

pub returns-clause-members : goal.returns-clause-members
returns-clause-members c =
    let ms = c.in_ok-module.module.members.items in
    let tokens = c.in_ok-tokens.tokens.items in
    let checked = c.check_names.new.faults.faults.items in
    let sorted = c.in_ok-into_sorted.field-0.items in
    let kept = kept_to_end checked c.names_of.new.faults.faults.items c.order_of.new.faults.faults.items c.add_refused.new.faults.faults.items sorted c.names_of.ensures.kept c.order_of.ensures.kept c.add_refused.ensures c.in_ok-into_sorted.ensures.same in
    All-map (λ (f : Field). IsNameOrTold c.args.text.now (map extent_in tokens) sorted f.name) field_in ms
    (shown_names (λ (m : Member). m.name) c.new-cursor.result c.args.text.now tokens checked sorted ms
    c.new-cursor.ensures.text (c.new-cursor.ensures.tokens ∙ c.as_slice.ensures.value)
    kept c.in_ok-check_names.ensures.members)

pub returns-clause-order : goal.returns-clause-order
returns-clause-order c =
    let ds = c.in_ok-module.module.declarations.items in
    let P : ℕ → Type 0 = λ count. IsOrderOf c.in_ok-order.order.items count in
    subst P (sym (length-map ds (λ (d : Declaration). declared_in d.kind))) c.in_ok-order.ensures.order

pub returns-clause-tokens : goal.returns-clause-tokens
returns-clause-tokens c =
    let marked = c.marked_tokens.new.faults.faults.items in
    let read = c.read_module.new.faults.faults.items in
    let checked = c.check_names.new.faults.faults.items in
    let sorted = c.in_ok-into_sorted.field-0.items in
    let kept = kept_to_end checked c.names_of.new.faults.faults.items c.order_of.new.faults.faults.items c.add_refused.new.faults.faults.items sorted c.names_of.ensures.kept c.order_of.ensures.kept c.add_refused.ensures c.in_ok-into_sorted.ensures.same in
    covered_then c.args.text.now (map extent_in c.in_ok-tokens.tokens.items) marked sorted
    (kept_then marked read sorted c.read_module.ensures.kept (kept_then read checked sorted c.check_names.ensures.kept kept))
    c.in_ok-tokens.ensures
