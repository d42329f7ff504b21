use Rattle.wgsl_scalar.proofs.Wraps.{sums_commute, sums_associate, products_commute, products_associate, products_distribute}
use Rattle.wgsl_scalar.proofs.laws.kinds_are_rings.Goals as goal

pub returns : goal.returns
returns c = λ k. record {
  sums_commute = sums_commute k;
  sums_associate = sums_associate k;
  products_commute = products_commute k;
  products_associate = products_associate k;
  products_distribute = products_distribute k;
}
