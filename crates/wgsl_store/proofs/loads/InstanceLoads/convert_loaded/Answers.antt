use Rattle.std.proofs.Common.{rules}
use Rattle.wgsl_rules.specs.Values.{IsWellFormed, IsStorable}
use Rattle.wgsl_rules.specs.View.{type_view}
use Rattle.wgsl_values.specs.View.{value_of}
use Rattle.wgsl_store.specs.Cells.{part_value}
use Rattle.wgsl_store.specs.Memory.{HoldsValue}
use Rattle.wgsl_store.proofs.ConvertedParts.{some-well_formed, some-storable, some-held}
use Rattle.wgsl_store.proofs.loads.InstanceLoads.convert_loaded.Goals as goal

pub returns-clause-well_formed : goal.returns-clause-well_formed
returns-clause-well_formed c =
    let well : IsWellFormed (part_value c.match-as_reference.part) = search rules in
    some-well_formed value_of c.in_ok-convert_to.field-0 (part_value c.match-as_reference.part) (type_view c.args.ty.now) c.in_ok-convert_to.ensures well

pub returns-clause-storable : goal.returns-clause-storable
returns-clause-storable c = λ h.
    let stored : IsStorable (part_value c.match-as_reference.part) = search rules in
    some-storable value_of c.in_ok-convert_to.field-0 (part_value c.match-as_reference.part) (type_view c.args.ty.now) c.in_ok-convert_to.ensures stored

pub returns-clause-held : goal.returns-clause-held
returns-clause-held c =
    let kept : HoldsValue c.args.store.now (part_value c.match-as_reference.part) = search rules in
    some-held value_of c.args.store.now c.in_ok-convert_to.field-0 (part_value c.match-as_reference.part) (type_view c.args.ty.now) c.in_ok-convert_to.ensures kept
