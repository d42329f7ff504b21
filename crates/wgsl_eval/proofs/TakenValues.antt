-- The values of a call, taken from its arguments one after the other.
use Rattle.std.proofs.Common.{◌≡◌, ◌∙◌, List, [], ◌∷◌, ◌++◌, map, All, Some, sym, ap, subst, append_assoc}
use Rattle.std.proofs.lemmas.List.Elements.{All-head, All-push, All-tail, All-same}
use Rattle.wgsl_rules.specs.Values.{IsStorable}
use Rattle.wgsl_values.specs.View.{value_of}
use Rattle.wgsl_values.specs.declared.instance.Instance.{Instance}
use Rattle.wgsl_eval.proofs.Each.{each_of-appended}
use Rattle.wgsl_eval.specs.Answers.{AreAnswers, AreSound, IsAnswer, value_in}
use Rattle.wgsl_eval.specs.Calls.{values_of}
use Rattle.wgsl_eval.specs.declared.answer.Answer.{Answer}
use Rattle.wgsl_eval.specs.declared.answer.Answer.TheVariants as answers
use Rattle.wgsl_eval.specs.declared.answer.Value.{Value}

all-middle : (P : Answer → Type 0) (xs : List Answer) (a : Answer) (more : List Answer) → All P (xs ++ a ∷ more) → P a
all-middle P [] a more h = All-head P a more h
all-middle P (x ∷ xs) a more h = all-middle P xs a more (All-tail P x (xs ++ a ∷ more) h)

pub taken-all : (all taken rest more : List Answer) (a : Answer) → taken ++ rest ≡ all → rest ≡ a ∷ more → (taken ++ a ∷ []) ++ more ≡ all
taken-all all taken rest more a h k = append_assoc taken (a ∷ []) more ∙ ap (λ xs. taken ++ xs) (sym k) ∙ h

taken-sound : (all taken rest more : List Answer) (a : Answer) → AreAnswers all → taken ++ rest ≡ all → rest ≡ a ∷ more → IsAnswer a
taken-sound all taken rest more a sound h k =
    all-middle IsAnswer taken a more (All-same IsAnswer (taken ++ a ∷ more) all (ap (λ xs. taken ++ xs) (sym k) ∙ h) sound)

pub taken-stored : (all taken rest more : List Answer) (a : Answer) (v : Value) (is js : List Instance) → AreAnswers all → taken ++ rest ≡ all → rest ≡ a ∷ more
    → a ≡ answers.Value v → AreSound is → js ≡ is ++ v.instance ∷ [] → AreSound js
taken-stored all taken rest more a v is js sound h k e before added =
    let Q : List Instance → Type 0 = λ xs. AreSound xs in
    let stored : IsAnswer (answers.Value v) = (let P : Answer → Type 0 = λ x. IsAnswer x in subst P e (taken-sound all taken rest more a sound h k)) in
    subst Q (sym added) (All-push (λ i. IsStorable (value_of i)) is v.instance before stored)

pub taken-values : (taken : List Answer) (is js : List Instance) (a : Answer) (v : Value) → a ≡ answers.Value v → js ≡ is ++ v.instance ∷ []
    → values_of taken ≡ Some (map value_of is) → values_of (taken ++ a ∷ []) ≡ Some (map value_of js)
taken-values taken is js a v h added k =
    each_of-appended value_in value_of taken is a v.instance k (ap value_in h) ∙ ap (λ xs. Some (map value_of xs)) (sym added)
