-- What template lists and calls give.
use Rattle.std.specs.declared.alloc.AllocError.{AllocError}
use Rattle.std.proofs.Common.{◌≡◌, ◌∙◌, ◌⊎◌, inl, inr, ℕ, Bool, true, false, List, [], ◌∷◌, ◌++◌, Option, Some, None, Result, Ok, Err, IfOk, MatchOption, refl, sym, ap, subst}
use Rattle.std.specs.Prelude.{IsTrue, codes}
use Rattle.wgsl_functions.specs.Names.{IsNameOf}
use Rattle.wgsl_functions.specs.declared.builtin.Builtin.{Builtin}
use Rattle.wgsl_functions.specs.declared.parameters.Dialect.{Dialect}
use Rattle.wgsl_apply.specs.Literals.{natural_of}
use Rattle.wgsl_rules.specs.InCommon.{prepended}
use Rattle.wgsl_rules.specs.Types.{Ty}
use Rattle.wgsl_rules.specs.Values.{Val}
use Rattle.wgsl_source.specs.Names.{Names}
use Rattle.wgsl_source.specs.Readings.{Outline, first_named}
use Rattle.wgsl_source.specs.declared.names.Generator.{Generator}
use Rattle.wgsl_source.specs.declared.names.Generator.TheVariants as generators
use Rattle.wgsl_source.specs.declared.names.Predeclared.{Predeclared}
use Rattle.wgsl_source.specs.declared.names.Predeclared.TheVariants as named
use Rattle.wgsl_values.specs.View.{value_of}
use Rattle.wgsl_eval.proofs.Answered.{fault-maybe}
use Rattle.wgsl_eval.specs.Answers.{IsFault, IsSkippedFor, IsUnready}
use Rattle.wgsl_eval.specs.Calls.{AreValues, IsBitcastOf, IsCallOf, IsCounted, IsForValues, IsFunctionCall, IsGenerated, IsGeneratedOf, IsLanguageCall, IsLanguageType, IsNoValue, IsOfType, IsOfValuesOf, IsSomeCall, IsTemplateOf, IsTypeCall, values_of}
use Rattle.wgsl_eval.specs.Constructors.{MayBe}
use Rattle.wgsl_eval.specs.Evaluators.{Setting}
use Rattle.wgsl_eval.specs.Opaque.{is_opaque}
use Rattle.wgsl_eval.specs.Reasons.{has_floats}
use Rattle.wgsl_eval.specs.TypeNames.{predeclared_type}
use Rattle.wgsl_eval.specs.declared.answer.Answer.{Answer}
use Rattle.wgsl_eval.specs.declared.answer.Answer.TheVariants as answers
use Rattle.wgsl_eval.specs.declared.answer.Need.TheVariants as needs
use Rattle.wgsl_eval.specs.declared.answer.Value.{Value}
use Rattle.wgsl_eval.specs.declared.call.Arguments.{Arguments}
use Rattle.wgsl_eval.specs.declared.call.Arguments.TheVariants as arguments

-- ---- the values of a call

-- where one is no value there are no values
no-values : (given : List Answer) (a : Answer) → IsNoValue given a → values_of given ≡ None
no-values [] a h = absurd h
no-values (answers.Value v ∷ given) a h = ap (prepended (Some (value_of v.instance))) (no-values given a h)
no-values (answers.Named n ∷ given) a h = refl
no-values (answers.Type t ∷ given) a h = refl
no-values (answers.Bitcast t ∷ given) a h = refl
no-values (answers.Variable v ∷ given) a h = refl
no-values (answers.Skipped s ∷ given) a h = refl
no-values (answers.Wrong m g ∷ given) a h = refl
no-values (answers.Faulty ∷ given) a h = refl

-- what is said of the values
pub for-values : (given : List Answer) (P : List Val → Answer → Type 0) (vs : List Val) (a : Answer) → values_of given ≡ Some vs → P vs a → IsForValues given P a
for-values given P vs a e h = let Q : Option (List Val) → Type 0 = λ o. MatchOption o (IsNoValue given a) (λ ws. P ws a) in subst Q (sym e) h

pub all-for-values : (given : List Answer) (P : List Val → Answer → Type 0) (vs : List Val) (r : Result Answer AllocError) → values_of given ≡ Some vs → IfOk r (P vs) → IfOk r (IsForValues given P)
all-for-values given P vs (Ok a) e h = for-values given P vs a e h
all-for-values given P vs (Err x) e h = tt

-- what there is in their place
pub no-values-for : (given : List Answer) (P : List Val → Answer → Type 0) (a : Answer) → IsNoValue given a → IsForValues given P a
no-values-for given P a h =
    let Q : Option (List Val) → Type 0 = λ o. MatchOption o (IsNoValue given a) (λ ws. P ws a) in
    subst Q (sym (no-values given a h)) h

rest-of : (o : Option (List Val)) (x : Val) (ws : List Val) → prepended (Some x) o ≡ Some ws → (rest : List Val) × (o ≡ Some rest)
rest-of None x ws e = absurd (cc)
rest-of (Some rest) x ws e = (rest, refl)

first-is : (a : Answer) (more : List Answer) (b : Answer) → ((v : Value) → a ≡ answers.Value v → ⊥) → IsUnready a b → IsNoValue (a ∷ more) b
first-is (answers.Value v) more b n h = absurd (n v refl)
first-is (answers.Named k) more b n h = h
first-is (answers.Type t) more b n h = h
first-is (answers.Bitcast t) more b n h = h
first-is (answers.Variable v) more b n h = h
first-is (answers.Skipped s) more b n h = h
first-is (answers.Wrong m g) more b n h = h
first-is answers.Faulty more b n h = h

no-value-at : (taken : List Answer) (ws : List Val) (a : Answer) (more : List Answer) (b : Answer) → values_of taken ≡ Some ws → IsNoValue (a ∷ more) b
    → IsNoValue (taken ++ a ∷ more) b
no-value-at [] ws a more b e h = h
no-value-at (answers.Value v ∷ taken) ws a more b e h =
    let r = rest-of (values_of taken) (value_of v.instance) ws e in
    no-value-at taken r.0 a more b r.1 h
no-value-at (answers.Named k ∷ taken) ws a more b e h = absurd (cc)
no-value-at (answers.Type t ∷ taken) ws a more b e h = absurd (cc)
no-value-at (answers.Bitcast t ∷ taken) ws a more b e h = absurd (cc)
no-value-at (answers.Variable v ∷ taken) ws a more b e h = absurd (cc)
no-value-at (answers.Skipped s ∷ taken) ws a more b e h = absurd (cc)
no-value-at (answers.Wrong m g ∷ taken) ws a more b e h = absurd (cc)
no-value-at (answers.Faulty ∷ taken) ws a more b e h = absurd (cc)

-- the first of the arguments that is no value
pub no-value-among : (all taken rest more : List Answer) (ws : List Val) (a b : Answer) → taken ++ rest ≡ all → rest ≡ a ∷ more → values_of taken ≡ Some ws
    → ((v : Value) → a ≡ answers.Value v → ⊥) → IsUnready a b → IsNoValue all b
no-value-among all taken rest more ws a b e k values n h =
    let P : List Answer → Type 0 = λ xs. IsNoValue xs b in
    subst P (ap (λ xs. taken ++ xs) (sym k) ∙ e) (no-value-at taken ws a more b values (first-is a more b n h))

-- ---- calls of answers

-- a type of floats is called with values
pub float-call : (given : List Answer) (t : Ty) (f : List Val → Option Val) (vs : List Val) (b : Bool) (a : Answer) → values_of given ≡ Some vs → b ≡ has_floats t → b ≡ true
    → IsSkippedFor needs.Float a → IsForValues given (IsOfType t f) a
float-call given t f vs b a e is h k = for-values given (IsOfType t f) vs a e (rw (sym is ∙ h) k)

made-one : (t : Ty) (f : List Val → Option Val) (vs : List Val) (a : Answer) → has_floats t ≡ false → MayBe (f vs) a → IsOfType t f vs a
made-one t f vs a e h = rw e h

-- a type of none is
pub made-call : (given : List Answer) (t : Ty) (f : List Val → Option Val) (vs : List Val) (b : Bool) (r : Result Answer AllocError) → values_of given ≡ Some vs → b ≡ has_floats t → b ≡ false
    → IfOk r (MayBe (f vs)) → IfOk r (IsForValues given (IsOfType t f))
made-call given t f vs b (Ok a) e is h k = for-values given (IsOfType t f) vs a e (made-one t f vs a (sym is ∙ h) k)
made-call given t f vs b (Err x) e is h k = tt

pub some-call : (d : Dialect) (P : Answer → Type 0) (callee : Answer) (given : List Answer) (r : Result Answer AllocError) → P callee → IfOk r (IsCallOf d callee given)
    → IfOk r (IsSomeCall d P given)
some-call d P callee given (Ok a) h k = (callee, h, k)
some-call d P callee given (Err x) h k = tt

-- in a dialect that stays
pub some-call-at : (d e : Dialect) (P : Answer → Type 0) (callee : Answer) (given : List Answer) (r : Result Answer AllocError) → e ≡ d → P callee → IfOk r (IsCallOf e callee given)
    → IfOk r (IsSomeCall d P given)
some-call-at d e P callee given r same h k =
    let Q : Dialect → Type 0 = λ x. IfOk r (IsCallOf x callee given) in
    some-call d P callee given r h (subst Q same k)

-- a type by its name, which is no generator
pub typed-call : (s : Setting) (e : Dialect) (p : Predeclared) (callee : Answer) (given : List Answer) (r : Result Answer AllocError) → ((g : Generator) → p ≡ named.Generator g → ⊥)
    → e ≡ s.dialect → IsLanguageType (predeclared_type p) callee → IfOk r (IsCallOf e callee given) → IfOk r (IsTypeCall s p given)
typed-call s e (named.Generator g) callee given r n same h k = absurd (n g refl)
typed-call s e (named.Scalar x) callee given r n same h k = some-call-at s.dialect e (IsLanguageType (predeclared_type (named.Scalar x))) callee given r same h k
typed-call s e (named.Vec m x) callee given r n same h k = some-call-at s.dialect e (IsLanguageType (predeclared_type (named.Vec m x))) callee given r same h k
typed-call s e (named.Mat m q x) callee given r n same h k = some-call-at s.dialect e (IsLanguageType (predeclared_type (named.Mat m q x))) callee given r same h k

-- what there is in place of the values
pub other-for : (given : List Answer) (x : Arguments) (P : List Val → Answer → Type 0) (a : Answer) → AreValues given x → x ≡ arguments.Other a → IsForValues given P a
other-for given x P a h e = let Q : Arguments → Type 0 = λ y. AreValues given y in no-values-for given P a (subst Q e h).0

-- ---- calls of functions

pub counted-call : (given : List Answer) (f : List Val → Option Val) (vs : List Val) (r : Result Answer AllocError) → values_of given ≡ Some vs → IfOk r (MayBe (f vs)) → IfOk r (IsOfValuesOf f given)
counted-call given f vs r e h = all-for-values given (λ ws. MayBe (f ws)) vs r e h

-- a call with another count of values
pub uncounted-call : (given : List Answer) (f : List Val → Option Val) (vs : List Val) (r : Result Answer AllocError) → values_of given ≡ Some vs → IfOk r IsFault → IfOk r (IsOfValuesOf f given)
uncounted-call given f vs (Ok a) e h = for-values given (λ ws. MayBe (f ws)) vs a e (fault-maybe (f vs) a h)
uncounted-call given f vs (Err x) e h = tt

-- ---- calls of names

-- no declaration is found by the word
pub undeclared : (o : Outline) (word text : List ℕ) (found : Option ℕ) → text ≡ word → found ≡ first_named o text → ((number : ℕ) → found ≡ Some number → ⊥) → first_named o word ≡ None
undeclared o word text (Some number) same is none = absurd (none number refl)
undeclared o word text None same is none = ap (first_named o) (sym same) ∙ sym is

pub function-call : (s : Setting) (word text : List ℕ) (f : Builtin) (given : List Answer) (r : Result Answer AllocError) → text ≡ word → IsNameOf f text
    → IfOk r (IsFunctionCall s f given) → IfOk r (IsLanguageCall s word given)
function-call s word text f given (Ok a) e n h = let P : List ℕ → Type 0 = λ xs. IsNameOf f xs in inr (inl (f, subst P e n, h))
function-call s word text f given (Err x) e n h = tt

pub type-call : (s : Setting) (word text : List ℕ) (p : Predeclared) (given : List Answer) (r : Result Answer AllocError) → text ≡ word → Names text p
    → IfOk r (IsTypeCall s p given) → IfOk r (IsLanguageCall s word given)
type-call s word text p given (Ok a) e n h = let P : List ℕ → Type 0 = λ xs. Names xs p in inr (inr (p, subst P e n, h))
type-call s word text p given (Err x) e n h = tt

pub fault-call : (s : Setting) (word : List ℕ) (given : List Answer) (r : Result Answer AllocError) → IfOk r IsFault → IfOk r (IsLanguageCall s word given)
fault-call s word given (Ok a) h = inl h
fault-call s word given (Err x) h = tt

-- ---- template lists

pub fault-template : (word : List ℕ) (given : List Answer) (r : Result Answer AllocError) → IfOk r IsFault → IfOk r (IsTemplateOf word given)
fault-template word given (Ok a) h = inl h
fault-template word given (Err x) h = tt

pub bitcast-template : (word text : List ℕ) (given : List Answer) (r : Result Answer AllocError) → text ≡ word → text ≡ codes "bitcast" → IfOk r (IsBitcastOf given) → IfOk r (IsTemplateOf word given)
bitcast-template word text given (Ok a) e k h = inr (inl (sym e ∙ k, h))
bitcast-template word text given (Err x) e k h = tt

pub generator-template : (word text : List ℕ) (p : Predeclared) (g : Generator) (given : List Answer) (r : Result Answer AllocError) → text ≡ word → Names text p → p ≡ named.Generator g
    → IfOk r (IsGenerated g given) → IfOk r (IsTemplateOf word given)
generator-template word text p g given (Ok a) e n k h =
    let P : List ℕ → Type 0 = λ xs. Names xs p in
    let Q : Predeclared → Type 0 = λ q. Names word q in
    inr (inr (inl (g, subst Q k (subst P e n), h)))
generator-template word text p g given (Err x) e n k h = tt

pub opaque-template : (word text : List ℕ) (given : List Answer) (b : Bool) (a : Answer) → text ≡ word → b ≡ is_opaque text → b ≡ true → IsSkippedFor needs.Opaque a → IsTemplateOf word given a
opaque-template word text given b a e is h k =
    let P : List ℕ → Type 0 = λ xs. IsTrue (is_opaque xs) in
    let Q : Bool → Type 0 = λ x. IsTrue x in
    inr (inr (inr (subst P e (subst Q is (subst Q (sym h) refl)), k)))

-- ---- generators

pub fault-generated : (g : Generator) (given : List Answer) (r : Result Answer AllocError) → IfOk r IsFault → IfOk r (IsGenerated g given)
fault-generated g given (Ok a) h = inl h
fault-generated g given (Err x) h = tt

pub one-generated : (g : Generator) (given : List Answer) (inner : Answer) (r : Result Answer AllocError) → given ≡ inner ∷ [] → IfOk r (IsGeneratedOf g inner None) → IfOk r (IsGenerated g given)
one-generated g given inner (Ok a) e h = inr (inl (inner, e, h))
one-generated g given inner (Err x) e h = tt

counted-fault : (inner : Answer) (o : Option ℕ) (a : Answer) → IsFault a → MatchOption o (IsFault a) (λ n. IsFault a ⊎ IsGeneratedOf generators.Array inner (Some n) a)
counted-fault inner None a h = h
counted-fault inner (Some n) a h = inl h

-- a count that is no number from 1 on
pub fault-counted : (inner count : Answer) (v : Value) (r : Result Answer AllocError) → count ≡ answers.Value v → IfOk r IsFault → IfOk r (IsCounted inner count)
fault-counted inner count v (Ok a) e h =
    let P : Answer → Type 0 = λ x. IsCounted inner x a in
    subst P (sym e) (counted-fault inner (natural_of (value_of v.instance)) a h)
fault-counted inner count v (Err x) e h = tt

pub two-generated : (g : Generator) (given : List Answer) (inner count : Answer) (r : Result Answer AllocError) → g ≡ generators.Array → given ≡ inner ∷ count ∷ []
    → IfOk r (IsCounted inner count) → IfOk r (IsGenerated g given)
two-generated g given inner count (Ok a) k e h = inr (inr (inner, count, k, e, h))
two-generated g given inner count (Err x) k e h = tt
