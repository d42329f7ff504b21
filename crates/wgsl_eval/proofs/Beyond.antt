-- What WGSL does not have: it stays as it is, or is a fault.
use Rattle.std.specs.declared.alloc.AllocError.{AllocError}
use Rattle.std.proofs.Common.{◌≡◌, ℕ, Bool, true, false, List, Option, Some, None, Result, Ok, Err, IfOk, MatchBool, refl, sym, ap, subst, ◌∙◌}
use Rattle.wgsl_rules.specs.Types.{Ty}
use Rattle.wgsl_rules.specs.Values.{Val}
use Rattle.wgsl_rules.specs.View.{type_view}
use Rattle.wgsl_source.specs.Names.{Names}
use Rattle.wgsl_source.specs.declared.names.Predeclared.{Predeclared}
use Rattle.wgsl_eval.proofs.Answered.{fault-with}
use Rattle.wgsl_eval.specs.Answers.{IsFault, IsValueWith, value_in}
use Rattle.wgsl_eval.specs.Calls.{IsLanguageType, IsTypeOr}
use Rattle.wgsl_eval.specs.Given.{IsLanguageName, language_value}
use Rattle.wgsl_eval.specs.Meanings.{IsLimited}
use Rattle.wgsl_eval.specs.TypeNames.{predeclared_type}
use Rattle.wgsl_eval.specs.declared.answer.Answer.{Answer}
use Rattle.wgsl_eval.specs.declared.answer.Answer.TheVariants as answers
use Rattle.wgsl_eval.specs.declared.sized.SizedType.{SizedType}

-- the answer itself, or a fault
abbrev pub IsThatOr : Bool → Answer → Answer → Type 0
IsThatOr b given a = MatchBool b (IsFault a) (a ≡ given)

with-one : (P : Val → Type 0) (b : Bool) (given a : Answer) → IsValueWith P given → IsThatOr b given a → IsValueWith P a
with-one P true given a h k = fault-with P a k
with-one P false given a h k = let Q : Answer → Type 0 = λ x. IsValueWith P x in subst Q (sym k) h

pub beyond-with : (P : Val → Type 0) (b : Bool) (given : Answer) (r : Result Answer AllocError) → IsValueWith P given → IfOk r (IsThatOr b given) → IfOk r (IsValueWith P)
beyond-with P b given (Ok a) h k = with-one P b given a h k
beyond-with P b given (Err e) h k = tt

fault-type : (t : Ty) (a : Answer) → IsFault a → IsTypeOr t a
fault-type t (answers.Wrong m g) h = h
fault-type t a h = absurd h

type-one : (t : Ty) (b : Bool) (given a : Answer) → IsTypeOr t given → IsThatOr b given a → IsTypeOr t a
type-one t true given a h k = fault-type t a k
type-one t false given a h k = let Q : Answer → Type 0 = λ x. IsTypeOr t x in subst Q (sym k) h

pub limited-type : (t : Ty) (u : SizedType) (a : Answer) → type_view u.ty ≡ t → IsLimited u a → IsTypeOr t a
limited-type t u (answers.Type v) e h = let P : SizedType → Type 0 = λ x. type_view x.ty ≡ t in subst P (sym h) e
limited-type t u (answers.Wrong m g) e h = h
limited-type t u a e h = absurd h

-- a type that is not too large
pub limited-types : (t : Ty) (u : SizedType) (r : Result Answer AllocError) → type_view u.ty ≡ t → IfOk r (IsLimited u) → IfOk r (IsTypeOr t)
limited-types t u (Ok a) e h = limited-type t u a e h
limited-types t u (Err x) e h = tt

pub beyond-type : (t : Ty) (b : Bool) (given : Answer) (r : Result Answer AllocError) → IsTypeOr t given → IfOk r (IsThatOr b given) → IfOk r (IsTypeOr t)
beyond-type t b given (Ok a) h k = type-one t b given a h k
beyond-type t b given (Err e) h k = tt

language-one : (o : Option Ty) (u : SizedType) (b : Bool) (a : Answer) → Some (type_view u.ty) ≡ o → IsThatOr b (answers.Type u) a → IsLanguageType o a
language-one o u b a e h =
    let P : Option Ty → Type 0 = λ p. IsLanguageType p a in
    subst P e (type-one (type_view u.ty) b (answers.Type u) a refl h)

-- a type that the language names
pub beyond-language : (o : Option Ty) (u : SizedType) (b : Bool) (r : Result Answer AllocError) → Some (type_view u.ty) ≡ o → IfOk r (IsThatOr b (answers.Type u)) → IfOk r (IsLanguageType o)
beyond-language o u b (Ok a) e h = language-one o u b a e h
beyond-language o u b (Err x) e h = tt

-- ---- names of the language

pub name-value : (word : List ℕ) (v : Val) (a : Answer) → language_value word ≡ Some v → value_in a ≡ Some v → IsLanguageName word a
name-value word v (answers.Value w) e k = let P : Option Val → Type 0 = λ o. language_value word ≡ o in subst P (sym k) e
name-value word v a e k = absurd (cc)

named-one : (word : List ℕ) (p : Predeclared) (o : Option Ty) (a : Answer) → Names word p → o ≡ predeclared_type p → language_value word ≡ None → IsLanguageType o a → IsLanguageName word a
named-one word p None (answers.Wrong m g) n e k h = (h, k)
named-one word p None a n e k h = absurd h
named-one word p (Some t) (answers.Type u) n e k h = (p, n, sym e ∙ ap Some (sym h))
named-one word p (Some t) (answers.Wrong m g) n e k h = (h, k)
named-one word p (Some t) a n e k h = absurd h

pub type-name : (word text : List ℕ) (p : Predeclared) (r : Result Answer AllocError) → text ≡ word → Names text p → language_value text ≡ None → IfOk r (IsLanguageType (predeclared_type p))
    → IfOk r (IsLanguageName word)
type-name word text p (Ok a) e n k h =
    let P : List ℕ → Type 0 = λ xs. Names xs p in
    named-one word p (predeclared_type p) a (subst P e n) refl (ap language_value (sym e) ∙ k) h
type-name word text p (Err x) e n k h = tt

fault-named : (word : List ℕ) (a : Answer) → language_value word ≡ None → IsFault a → IsLanguageName word a
fault-named word (answers.Wrong m g) e h = (h, e)
fault-named word a e h = absurd h

-- a name that nothing has
pub fault-name : (word text : List ℕ) (r : Result Answer AllocError) → text ≡ word → language_value text ≡ None → IfOk r IsFault → IfOk r (IsLanguageName word)
fault-name word text (Ok a) e k h = fault-named word a (ap language_value (sym e) ∙ k) h
fault-name word text (Err x) e k h = tt
