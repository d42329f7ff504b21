use Rattle.std.proofs.Common.{◌≡◌, arith}
use Rattle.wgsl_rules.specs.Paths.{parts}
use Rattle.wgsl_rules.specs.Values.{count}
use Rattle.wgsl_rules.specs.View.{type_view}
use Rattle.wgsl_rules.proofs.lemmas.Converted.{storable-well_formed}
use Rattle.wgsl_values.specs.View.{value_of, vals_view, vec_view}
use Rattle.wgsl_values.proofs.lemmas.Views.{vec_view-is}
use Rattle.wgsl_values.proofs.lemmas.Steps.{item-storable, parts-storable}
use Rattle.wgsl_layout.proofs.FlatParts.{vector-told}
use Rattle.wgsl_layout.proofs.part_bytes.is_vector_of.Goals as goal

pub has_ty-requires : goal.has_ty-requires
has_ty-requires c =
    let w = vec_view c.args.value.now in
    let x = value_of c.index.result.now in
    storable-well_formed x (item-storable 0 (parts w) x (parts-storable w c.requires) c.index.ensures)

pub returns-then-n-from : goal.returns-then-n-from
returns-then-n-from c =
    let w = vec_view c.args.value.now in
    let counted : count (parts w) ≡ c.args.n = omega (arith, c.n.ensures, c.from.ensures, c.if-n-from.true) in
    vector-told w (value_of c.index.result.now) (vals_view c.args.value.now.components.items) c.args.n (type_view c.args.component.now) c.has_ty.result
    (vec_view-is c.args.value.now) c.index.ensures c.has_ty.ensures counted
