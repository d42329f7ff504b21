use Rattle.std.proofs.Common.{◌≡◌, Some, map, take}
use Rattle.wgsl_rules.specs.View.{type_view}
use Rattle.wgsl_scalar.specs.Literals.{literal_of}
use Rattle.wgsl_eval.specs.Constructors.{conversion_of}
use Rattle.wgsl_eval.specs.Lists.{each_of}
use Rattle.wgsl_eval.proofs.evaluator.Evaluator.converted_scalars.Given as goal

abbrev pub invariant-loop-literal : goal.invariant-loop-literal
invariant-loop-literal l =
    each_of (λ x. conversion_of l.conversion (type_view l.ty) (literal_of x)) (take l.literal-index l.literals) ≡ Some (map literal_of l.converted.items)
