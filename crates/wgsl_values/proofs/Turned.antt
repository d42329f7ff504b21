-- The steps of a view from the last to the first.
use Rattle.std.proofs.Common.{◌≡◌, ℕ, List, [], ◌∷◌, ◌++◌, reverse, String, Box, Global, string_bytes, arith, rules}
use Rattle.std.proofs.lemmas.Grind.{common_steps}
use Rattle.wgsl_rules.specs.Values.{Step, member, index}
use Rattle.wgsl_values.specs.View.{steps_of}
use Rattle.wgsl_values.specs.declared.view.MemView.{MemView, Member, Index, the_lemmas as view_lemmas}
use Rattle.wgsl_values.specs.declared.view.MemView.TheVariants.{Whole}
use Rattle.wgsl_values.proofs.lemmas.Views.{steps_of-Member, steps_of-Index}

pub reverse_before : (x : Step) (xs ys : List Step) → reverse (x ∷ xs) ++ ys ≡ reverse xs ++ (x ∷ ys)
reverse_before x xs ys = grind (arith, common_steps)

pub steps_of_whole : steps_of Whole ≡ []
steps_of_whole = search (rules, view_lemmas)

pub turned_member : (n : String Global) (rest : Box MemView Global) (ys : List Step) → reverse (steps_of (Member n rest)) ++ ys ≡ reverse (steps_of rest.value) ++ (member (string_bytes n) ∷ ys)
turned_member n rest ys = rw (steps_of-Member n rest) (reverse_before (member (string_bytes n)) (steps_of rest.value) ys)

pub turned_index : (i : ℕ) (rest : Box MemView Global) (ys : List Step) → reverse (steps_of (Index i rest)) ++ ys ≡ reverse (steps_of rest.value) ++ (index i ∷ ys)
turned_index i rest ys = rw (steps_of-Index i rest) (reverse_before (index i) (steps_of rest.value) ys)

pub ruleset turned = (turned_member, turned_index, steps_of-Member, steps_of-Index, steps_of_whole)
