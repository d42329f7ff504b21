-- What is given or holds one by one.
use Rattle.std.specs.Prelude.{ℕ, ◌+◌, Bool, List, [], ◌∷◌, ◌++◌, Option, Some, ⊤, if◌then◌else◌}
use Rattle.wgsl_rules.specs.InCommon.{prepended}
use Rattle.wgsl_rules.specs.Values.{Val}

-- what is given for each, where there is something for all of them
abbrev pub each_of : {A : Type 0} → (A → Option Val) → List A → Option (List Val)
each_of f [] = Some []
each_of f (x ∷ xs) = prepended (f x) (each_of f xs)

-- each holds with its number, from this one on
abbrev pub AllFrom : {A : Type 0} → (ℕ → A → Type 0) → ℕ → List A → Type 0
AllFrom P number [] = ⊤
AllFrom P number (x ∷ xs) = P number x × AllFrom P (number + 1) xs

-- what is told by number of those in a list that are told of, from this number on
abbrev pub told_from : {A D : Type 0} → (ℕ → D → Bool) → (ℕ → A) → ℕ → List D → List A
told_from is_told f number [] = []
told_from is_told f number (d ∷ ds) = (if is_told number d then f number ∷ [] else []) ++ told_from is_told f (number + 1) ds
