use Rattle.std.proofs.Common.{sym, ap, ◌∙◌}
use Rattle.wgsl_rules.specs.Layout.{has_layout}
use Rattle.wgsl_values.specs.View.{value_of}
use Rattle.wgsl_layout.specs.FlatCells.{Holds}
use Rattle.wgsl_layout.specs.declared.flat.FlatCell.TheInside.{Inside}
use Rattle.wgsl_layout.specs.declared.flat.Owner.TheVariants as owners
use Rattle.wgsl_layout.proofs.FlatPuts.{held-value, holds-own}
use Rattle.wgsl_layout.proofs.LaidValues.{not-false}
use Rattle.wgsl_layout.proofs.flat.FlatCell.new.Goals as goal

pub from_plan-layout-requires-clause-laid : goal.from_plan-layout-requires-clause-laid
from_plan-layout-requires-clause-laid c = sym c.in_ok-of_type.ensures.layout ∙ not-false c.in_ok-of_type.of_type.has_layout c.if-not-of_type.false

pub write_whole-requires-clause-typed : goal.write_whole-requires-clause-typed
write_whole-requires-clause-typed c = sym (c.from_plan-layout.ensures ∙ c.in_ok-ty.ensures)

pub invariant_of-result : goal.invariant_of-result
invariant_of-result c =
    let made : Inside = record { owner = owners.Own c.from_plan-layout.result; count = c.runtime_count.result; bytes = c.in_ok-bytes.bytes } in
    let h : Holds made (value_of c.args.value.now) = record {
      typed = sym (c.from_plan-layout.ensures ∙ c.in_ok-ty.ensures);
      laid = ap has_layout c.from_plan-layout.ensures ∙ (sym c.in_ok-of_type.ensures.layout ∙ not-false c.in_ok-of_type.of_type.has_layout c.if-not-of_type.false);
      counted = c.runtime_count.ensures;
      storable = c.requires;
      bytes = c.in_ok-bytes.ensures;
    } in
    holds-own made (value_of c.args.value.now) h

pub returns : goal.returns
returns c =
    let made : Inside = record { owner = owners.Own c.from_plan-layout.result; count = c.runtime_count.result; bytes = c.in_ok-bytes.bytes } in
    let h : Holds made (value_of c.args.value.now) = record {
      typed = sym (c.from_plan-layout.ensures ∙ c.in_ok-ty.ensures);
      laid = ap has_layout c.from_plan-layout.ensures ∙ (sym c.in_ok-of_type.ensures.layout ∙ not-false c.in_ok-of_type.of_type.has_layout c.if-not-of_type.false);
      counted = c.runtime_count.ensures;
      storable = c.requires;
      bytes = c.in_ok-bytes.ensures;
    } in
    held-value made (value_of c.args.value.now) h
