use Rattle.wgsl_values.proofs.Typed.{array-has}
use Rattle.wgsl_values.proofs.lemmas.Views.{array_view-is}
use Rattle.wgsl_values.proofs.+has_ty.Goals as goal

pub array::ArrayInstanceTy::has_ty-returns-then-eq : goal.array::ArrayInstanceTy::has_ty-returns-then-eq
array::ArrayInstanceTy::has_ty-returns-then-eq t c =
    array-has c.args.self.now c.index.result.now _ _ _ c.count.result c.has_ty.result (rw (array_view-is c.args.self.now) at c.requires).0 c.index.ensures c.in-Some.ensures c.count.ensures c.if-eq.ensures c.has_ty.ensures
