-- The declarations that are told.
use Rattle.std.proofs.Common.{◌≡◌, ◌+◌, ℕ, List, [], ◌∷◌, ◌++◌, length, sym, subst, ◌∙◌, arith}
use Rattle.wgsl_eval.specs.Answers.{meaning_at}
use Rattle.wgsl_eval.specs.Evaluated.{IsItem, IsItemAt}
use Rattle.wgsl_eval.specs.Evaluators.{Setting}
use Rattle.wgsl_eval.specs.Lists.{AllFrom}
use Rattle.wgsl_eval.specs.declared.answer.Answer.{Answer}
use Rattle.wgsl_eval.specs.declared.declarations.Item.{Item}
use Rattle.wgsl_eval.proofs.Told.{all_pushed}

pub items_pushed : (s : Setting) (i : ℕ) (items all : List Item) (item : Item) (m : Answer) → i ≡ length items → m ≡ meaning_at s.meanings i
    → IsItem s.source m i item → all ≡ items ++ item ∷ [] → AllFrom (IsItemAt s) 0 items → AllFrom (IsItemAt s) 0 all
items_pushed s i items all item m e is h put before =
    let P : Answer → Type 0 = λ x. IsItem s.source x i item in
    let Q : ℕ → Type 0 = λ n. IsItemAt s n item in
    let R : List Item → Type 0 = λ xs. AllFrom (IsItemAt s) 0 xs in
    let first : length items ≡ 0 + length items = omega arith in
    subst R (sym put) (all_pushed (IsItemAt s) 0 items item before (subst Q (e ∙ first) (subst P is h)))
