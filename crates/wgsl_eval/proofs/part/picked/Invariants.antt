use Rattle.std.proofs.Common.{◌≡◌, Some, map, take}
use Rattle.wgsl_rules.specs.Paths.{parts}
use Rattle.wgsl_scalar.specs.Literals.{literal_of}
use Rattle.wgsl_values.specs.View.{vec_view}
use Rattle.wgsl_eval.specs.Lists.{each_of}
use Rattle.wgsl_eval.specs.Parts.{component_named}
use Rattle.wgsl_eval.proofs.part.picked.Given as goal

abbrev pub invariant-loop-letter : goal.invariant-loop-letter
invariant-loop-letter l =
    each_of (component_named l.letters (parts (vec_view l.vector))) (take l.letter-index l.word) ≡ Some (map literal_of l.components.items)
