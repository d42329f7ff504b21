use Rattle.std.proofs.Common.{◌≡◌, Some, map, take, All}
use Rattle.wgsl_rules.specs.InCommon.{all_in}
use Rattle.wgsl_rules.specs.Values.{IsWellFormed}
use Rattle.wgsl_rules.specs.View.{type_view}
use Rattle.wgsl_rules.proofs.generic.convert_all_inner_to.Given as goal

abbrev pub invariant-loop-value : goal.invariant-loop-value
invariant-loop-value g l = record {
  converted : all_in g.T.Convert.converted_inner (map g.T.Ty.value_of (take l.value-index l.values)) (type_view l.ty) ≡ Some (map g.T.Ty.value_of l.all.items);
  well_formed : All (λ x. IsWellFormed (g.T.Ty.value_of x)) l.all.items;
}
