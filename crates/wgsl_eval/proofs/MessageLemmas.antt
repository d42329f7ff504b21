-- What is told of faults and warnings.
use Rattle.std.proofs.Common.{◌≡◌, ℕ, List, ◌++◌, All, IsPermutation, take, subst}
use Rattle.std.proofs.lemmas.List.Elements.{All-take}
use Rattle.wgsl_eval.specs.Messages.{AreTold, IsWarning}
use Rattle.wgsl_eval.specs.declared.message.Message.{Message}

-- the faults and as many warnings as there is room for, in another order
pub told_all : (faults ws all sorted : List Message) (n : ℕ) → All IsWarning ws → all ≡ faults ++ take n ws → IsPermutation all sorted → AreTold faults sorted
told_all faults ws all sorted n h e p =
    let P : List Message → Type 0 = λ xs. IsPermutation xs sorted in
    (take n ws, All-take IsWarning n ws h, subst P e p)
