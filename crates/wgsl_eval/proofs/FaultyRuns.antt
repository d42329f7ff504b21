-- What the answers of an expression tell: a fault, or that a step of it is to blame.
use Rattle.std.proofs.Common.{◌≡◌, ◌≤◌, ◌+◌, ◌-◌, ◌<◌, ◌⊎◌, inl, inr, ℕ, zero, suc, Bool, true, false, List, [], ◌∷◌, ◌++◌, length, length-append, length-take, Option, Some, None, MatchBool, refl, sym, subst, ◌∙◌, arith, ltb-true, leb-true}
use Rattle.std.specs.Prelude.{◌&&◌, All, Any, Contains, IsTrue, nat_le, nat_lt, slice_index_or}
use Rattle.std.proofs.lemmas.Bool.{cases_eq}
use Rattle.std.proofs.lemmas.List.Elements.{All-get_or, All-head, All-push, All-tail, All-take}
use Rattle.std.proofs.lemmas.Option.{unwrap_or-slice_get}
use Rattle.wgsl_apply.specs.Literals.{natural_of}
use Rattle.wgsl_functions.specs.Functions.{count_of}
use Rattle.wgsl_functions.specs.declared.builtin.Builtin.{Builtin}
use Rattle.wgsl_functions.specs.declared.parameters.Dialect.{Dialect}
use Rattle.wgsl_rules.specs.Types.{Ty}
use Rattle.wgsl_rules.specs.Values.{Val}
use Rattle.wgsl_rules.specs.View.{type_view}
use Rattle.wgsl_rules.specs.declared.syntax.BinaryOperator.{BinaryOperator}
use Rattle.wgsl_rules.specs.declared.syntax.ShaderStage.{ShaderStage}
use Rattle.wgsl_rules.specs.declared.syntax.UnaryOperator.{UnaryOperator}
use Rattle.wgsl_rules.proofs.lemmas.Known.{and-both as both}
use Rattle.wgsl_apply.specs.Calls.{operated, prefixed}
use Rattle.wgsl_apply.specs.Standard.{is_against}
use Rattle.wgsl_scalar.specs.Literals.{literal_of}
use Rattle.wgsl_source.specs.Readings.{Outline, extent_at, first_named, steps_in, word_at}
use Rattle.wgsl_source.specs.declared.expression.Callee.TheVariants as callees
use Rattle.wgsl_source.specs.declared.expression.Span.{Span}
use Rattle.wgsl_source.specs.declared.expression.Step.{Step}
use Rattle.wgsl_source.specs.declared.expression.Step.TheVariants as steps
use Rattle.wgsl_source.specs.declared.literal.Literal.{Literal}
use Rattle.wgsl_source.specs.declared.literal.Literal.TheVariants as literals
use Rattle.wgsl_source.specs.declared.names.Generator.{Generator}
use Rattle.wgsl_source.specs.declared.names.Generator.TheVariants as generators
use Rattle.wgsl_source.specs.declared.names.Predeclared.{Predeclared}
use Rattle.wgsl_source.specs.declared.names.Predeclared.TheVariants as named
use Rattle.wgsl_values.specs.View.{value_of}
use Rattle.wgsl_eval.specs.Answers.{IsFault, IsFaultOf, IsSkippedFor, IsSkippedOr, meaning_at, value_in}
use Rattle.wgsl_eval.specs.Calls.{IsBitcastOf, IsCall, IsCallOf, IsCopy, IsCounted, IsForValues, IsFunctionCall, IsGenerated, IsGeneratedOf, IsLanguageCall, IsLanguageType, IsNoValue, IsNotCounted, IsOfType, IsSomeCall, IsTemplate, IsTemplateOf, IsTypeCall, IsTypeOr, bitcast_alone, function_of, values_of}
use Rattle.wgsl_eval.specs.Constructors.{IsInferred, IsMatrixOf, MayBe, are_floats, common_scalars, constructed, inferred_of, matrix_of}
use Rattle.wgsl_eval.specs.Evaluators.{Setting, is_obeyed}
use Rattle.wgsl_eval.specs.Faulty.{IsBlamed, IsFaulty, IsFaultyAt, IsToBlame, IsUnfilled, NamesOne, find_theirs, taken_by}
use Rattle.wgsl_eval.specs.Given.{IsGiven, IsJudged, IsLanguageName, IsNamed, IsOfLiteral, IsOfOne, IsOfTwo, IsOfValues, IsRefused, UnlessRefused, below, is_decided, is_placeholder, last_ones, rest_of, top, without}
use Rattle.wgsl_eval.specs.Parts.{IsElement, IsElementOf, IsMember, IsMemberOf}
use Rattle.wgsl_eval.specs.Reasons.{has_floats, is_wide, need_of}
use Rattle.wgsl_eval.specs.Runs.{IsFound, IsRun}
use Rattle.wgsl_eval.specs.TypeNames.{generated_type, predeclared_type}
use Rattle.wgsl_eval.specs.declared.answer.Answer.{Answer}
use Rattle.wgsl_eval.specs.declared.answer.Answer.TheVariants as answers
use Rattle.wgsl_eval.specs.declared.answer.Guard.TheVariants as guards
use Rattle.wgsl_eval.specs.declared.answer.Value.{Value}
use Rattle.wgsl_eval.specs.declared.answer.Need.TheVariants as needs
use Rattle.wgsl_eval.proofs.FaultyAnswers.{Tells, TellsValue, fault-tells, fault_of-tells, is-tells, no_type-tells, of_bool, of_option, of_result, one-tells, same-tells, skipped-tells, skipped_or-tells, some_and, unready-tells, value-tells, with-tells}

-- ---- the answers that a step takes

abbrev pub AllTell : Type 0 → List Answer → Type 0
AllTell R = All (Tells R)

-- there are so many, or R holds
abbrev pub Enough : Type 0 → ℕ → List Answer → Type 0
Enough R n before = (n ≤ length before) ⊎ R

enough : (R P Q : Type 0) → (P → Q) → P ⊎ R → Q ⊎ R
enough R P Q f h = elim h [ inl p ↦ inl (f p) | inr r ↦ inr r ]

top-tells : (R : Type 0) (before : List Answer) → Enough R 1 before → AllTell R before → Tells R (top before)
top-tells R [] h all = elim h [ inl one ↦ absurd (omega arith) | inr r ↦ r ]
top-tells R (x ∷ xs) h all =
    let P : Answer → Type 0 = λ a. Tells R a in
    subst P (sym (unwrap_or-slice_get (x ∷ xs) (length (x ∷ xs) - 1) answers.Faulty)) (All-get_or P (x ∷ xs) (length (x ∷ xs) - 1) answers.Faulty (omega arith) all)

below-tells : (R : Type 0) (before : List Answer) → AllTell R before → AllTell R (below before)
below-tells R before all = All-take (Tells R) (length before - 1) before all

length-below : (before : List Answer) → length (below before) ≡ length before - 1
length-below before = rw length-take (omega arith)

without-tells : (R : Type 0) (n : ℕ) (before : List Answer) → AllTell R before → AllTell R (without n before)
without-tells R zero before all = all
without-tells R (suc n) before all = without-tells R n (below before) (below-tells R before all)

length-without : (n : ℕ) (before : List Answer) → length (without n before) ≡ length before - n
length-without zero before = omega arith
length-without (suc n) before = length-without n (below before) ∙ omega (arith, length-below before)

last-tell : (R : Type 0) (n : ℕ) (before : List Answer) → Enough R n before → AllTell R before → AllTell R (last_ones n before)
last-tell R zero before h all = λ k d l. absurd (omega arith)
last-tell R (suc n) before h all =
    All-push (Tells R) (last_ones n (below before)) (top before)
    (last-tell R n (below before) (enough R (suc n ≤ length before) (n ≤ length (below before)) (λ k. omega (arith, length-below before)) h) (below-tells R before all))
    (top-tells R before (enough R (suc n ≤ length before) (1 ≤ length before) (λ k. omega arith) h) all)

-- the last two
two-tell : (R : Type 0) (before : List Answer) → Enough R 2 before → AllTell R before → Tells R (top (below before)) × Tells R (top before)
two-tell R before h all = (
  top-tells R (below before) (enough R (2 ≤ length before) (1 ≤ length (below before)) (λ k. omega (arith, length-below before)) h) (below-tells R before all),
  top-tells R before (enough R (2 ≤ length before) (1 ≤ length before) (λ k. omega arith) h) all,
)

rest-tells : (R : Type 0) (step : Step) (before : List Answer) → AllTell R before → AllTell R (rest_of step before)
rest-tells R (steps.Name token) before all = all
rest-tells R (steps.Number token) before all = all
rest-tells R (steps.Unary op token) before all = below-tells R before all
rest-tells R (steps.Binary op token) before all = below-tells R (below before) (below-tells R before all)
rest-tells R (steps.Template token n) before all = without-tells R n before all
rest-tells R (steps.Call token callees.Name n) before all = without-tells R n before all
rest-tells R (steps.Call token callees.Answer n) before all = below-tells R (without n before) (without-tells R n before all)
rest-tells R (steps.Member token) before all = below-tells R before all
rest-tells R (steps.Index token) before all = below-tells R (below before) (below-tells R before all)

length-rest : (step : Step) (before : List Answer) → length (rest_of step before) ≡ length before - taken_by step
length-rest (steps.Name token) before = omega arith
length-rest (steps.Number token) before = omega arith
length-rest (steps.Unary op token) before = length-below before
length-rest (steps.Binary op token) before = omega (arith, length-below (below before), length-below before)
length-rest (steps.Template token n) before = length-without n before
length-rest (steps.Call token callees.Name n) before = length-without n before
length-rest (steps.Call token callees.Answer n) before = omega (arith, length-below (without n before), length-without n before)
length-rest (steps.Member token) before = length-below before
length-rest (steps.Index token) before = omega (arith, length-below (below before), length-below before)

-- ---- names

copy-tells : (R : Type 0) (m a : Answer) → IsCopy m a → (IsFaulty m → R) → Tells R a
copy-tells R m (answers.Wrong message guard) h f = h
copy-tells R (answers.Value v) (answers.Named n) h f = absurd h
copy-tells R (answers.Value v) answers.Faulty h f = absurd h
copy-tells R (answers.Value v) a h f = tt
copy-tells R (answers.Type t) (answers.Named n) h f = absurd h
copy-tells R (answers.Type t) answers.Faulty h f = absurd h
copy-tells R (answers.Type t) a h f = tt
copy-tells R (answers.Skipped s) (answers.Named n) h f = absurd h
copy-tells R (answers.Skipped s) answers.Faulty h f = absurd h
copy-tells R (answers.Skipped s) a h f = tt
copy-tells R (answers.Variable v) (answers.Named n) h f = absurd h
copy-tells R (answers.Variable v) answers.Faulty h f = absurd h
copy-tells R (answers.Variable v) a h f = tt
copy-tells R (answers.Named n) a h f = same-tells R answers.Faulty a h (f tt)
copy-tells R (answers.Bitcast t) a h f = same-tells R answers.Faulty a h (f tt)
copy-tells R (answers.Wrong m g) a h f = same-tells R answers.Faulty a h (f tt)
copy-tells R answers.Faulty a h f = same-tells R answers.Faulty a h (f tt)

language-tells : (R : Type 0) (name : List ℕ) (a : Answer) → IsLanguageName name a → (IsTrue (is_placeholder name) → R) → Tells R a
language-tells R name (answers.Named n) h f = absurd h
language-tells R name answers.Faulty h f = f h
language-tells R name (answers.Wrong m g) h f = h.0
language-tells R name a h f = tt

name-tells : (R : Type 0) (s : Setting) (word : List ℕ) (a : Answer) → IsNamed s word a → (NamesOne s.source (IsFaultyAt s) word ⊎ IsUnfilled s.source word → R) → Tells R a
name-tells R s word a h f =
    of_option (first_named s.source word) (IsLanguageName word a) (λ number. IsCopy (meaning_at s.meanings number) a) (Tells R a) h
    (λ none given. language-tells R word a given (λ is. f (inr (none, is))))
    (λ number some copied. copy-tells R (meaning_at s.meanings number) a copied
    (λ faulty. f (inl (some_and (first_named s.source word) (IsFaultyAt s) number some faulty))))

-- ---- numbers

literal-tells : (R : Type 0) (s : Setting) (x : Literal) (a : Answer) → IsOfLiteral s x a → TellsValue R a
literal-tells R s (literals.Integer x) a h =
    of_bool (is_wide x && is_obeyed s.dialect s.is_strict) (IsFault a) (value_in a ≡ Some (literal_of x)) (TellsValue R a) h
    (fault-tells R a) (is-tells R (literal_of x) a)
literal-tells R s literals.Float a h = skipped-tells R needs.Float a h
literal-tells R s literals.Wrong a h = fault-tells R a h

-- ---- operators

decide-contains : (xs : List ℕ) (x : ℕ) → Contains xs x ⊎ ¬ Contains xs x
decide-contains [] x = inr (λ c. let within : c.0 < 0 = c.1 in absurd (omega arith))
decide-contains (y ∷ ys) x =
    elim (cases_eq y x) [
      | inl same ↦ inl (zero, omega arith, same)
      | inr apart ↦ elim (decide-contains ys x) [
        | inl there ↦ inl (suc there.0, (let within : there.0 < length ys = there.1 in omega arith), there.2)
        | inr none ↦ inr (λ c. go c.0 c.1 c.2 apart none)
      ]
    ]
  where
    go : (k : ℕ) → k < length (y ∷ ys) → slice_index_or (y ∷ ys) k x ≡ x → ¬ (y ≡ x) → ¬ Contains ys x → ⊥
    go zero h e apart none = apart e
    go (suc k) h e apart none = none (k, (let within : suc k < suc (length ys) = h in omega arith), e)

refused-or : (R : Type 0) (o : Outline) (token : ℕ) (a : Answer) (given : Type 0) → UnlessRefused o token a given → (IsRefused o token → R) → (given → Tells R a) → Tells R a
refused-or R o token a given h refused taken =
    elim (decide-contains o.refused (extent_at o token).start) [
      | inl is ↦ same-tells R answers.Faulty a (h.refused is) (refused is)
      | inr is_not ↦ taken (h.taken is_not)
    ]

of_one-tells : (R : Type 0) (op : UnaryOperator) (operand a : Answer) → IsOfOne op operand a → Tells R operand → TellsValue R a
of_one-tells R op (answers.Value v) a h l =
    of_result (prefixed op (value_of v.instance)) (λ w. value_in a ≡ Some w) (λ _. IsFault a) (TellsValue R a) h
    (λ w value. is-tells R w a value) (λ e fault. fault-tells R a fault)
of_one-tells R op (answers.Named n) a h l = unready-tells R (answers.Named n) a h l
of_one-tells R op (answers.Type t) a h l = unready-tells R (answers.Type t) a h l
of_one-tells R op (answers.Bitcast t) a h l = unready-tells R (answers.Bitcast t) a h l
of_one-tells R op (answers.Variable v) a h l = unready-tells R (answers.Variable v) a h l
of_one-tells R op (answers.Skipped s) a h l = unready-tells R (answers.Skipped s) a h l
of_one-tells R op (answers.Wrong m g) a h l = unready-tells R (answers.Wrong m g) a h l
of_one-tells R op answers.Faulty a h l = unready-tells R answers.Faulty a h l

of_values-tells : (R : Type 0) (stage : ShaderStage) (is_strict : Bool) (op : BinaryOperator) (v w : Val) (a : Answer) → IsOfValues stage is_strict op v w a → TellsValue R a
of_values-tells R stage is_strict op v w a h =
    of_result (operated op stage v w) (λ x. IsJudged (is_strict && is_against op stage v w) x a) (λ _. IsFault a) (TellsValue R a) h
    (λ x judged. of_bool (is_strict && is_against op stage v w) (IsFaultOf true a) (value_in a ≡ Some x) (TellsValue R a) judged
    (fault_of-tells R true a) (is-tells R x a))
    (λ e fault. fault-tells R a fault)

passed-tells : (R : Type 0) (b : Bool) (v : Val) (x a : Answer) → MatchBool b (value_in a ≡ Some v) (a ≡ x) → Tells R x → Tells R a
passed-tells R true v x a h l = value-tells R a (is-tells R v a h)
passed-tells R false v x a h l = same-tells R x a h l

of_two-tells : (R : Type 0) (s : Setting) (op : BinaryOperator) (left right a : Answer) → IsOfTwo s op left right a → Tells R left → Tells R right → Tells R a
of_two-tells R s op (answers.Value v) (answers.Value w) a h l r =
    value-tells R a (of_values-tells R s.stage s.is_strict op (value_of v.instance) (value_of w.instance) a h)
of_two-tells R s op (answers.Value v) (answers.Wrong m guards.Guarded) a h l r =
    passed-tells R (is_decided op (value_of v.instance)) (value_of v.instance) (answers.Wrong m guards.Guarded) a h r
of_two-tells R s op (answers.Value v) (answers.Wrong m guards.Never) a h l r = value-tells R a (unready-tells R (answers.Wrong m guards.Never) a h r)
of_two-tells R s op (answers.Value v) (answers.Named n) a h l r = value-tells R a (unready-tells R (answers.Named n) a h r)
of_two-tells R s op (answers.Value v) (answers.Type t) a h l r = value-tells R a (unready-tells R (answers.Type t) a h r)
of_two-tells R s op (answers.Value v) (answers.Bitcast t) a h l r = value-tells R a (unready-tells R (answers.Bitcast t) a h r)
of_two-tells R s op (answers.Value v) (answers.Variable w) a h l r = value-tells R a (unready-tells R (answers.Variable w) a h r)
of_two-tells R s op (answers.Value v) (answers.Skipped k) a h l r = value-tells R a (unready-tells R (answers.Skipped k) a h r)
of_two-tells R s op (answers.Value v) answers.Faulty a h l r = value-tells R a (unready-tells R answers.Faulty a h r)
of_two-tells R s op (answers.Named n) right a h l r = value-tells R a (unready-tells R (answers.Named n) a h l)
of_two-tells R s op (answers.Type t) right a h l r = value-tells R a (unready-tells R (answers.Type t) a h l)
of_two-tells R s op (answers.Bitcast t) right a h l r = value-tells R a (unready-tells R (answers.Bitcast t) a h l)
of_two-tells R s op (answers.Variable w) right a h l r = value-tells R a (unready-tells R (answers.Variable w) a h l)
of_two-tells R s op (answers.Skipped k) right a h l r = value-tells R a (unready-tells R (answers.Skipped k) a h l)
of_two-tells R s op (answers.Wrong m g) right a h l r = value-tells R a (unready-tells R (answers.Wrong m g) a h l)
of_two-tells R s op answers.Faulty right a h l r = value-tells R a (unready-tells R answers.Faulty a h l)

-- ---- template lists

type_or-tells : (R : Type 0) (t : Ty) (a : Answer) → IsTypeOr t a → Tells R a
type_or-tells R t (answers.Type u) h = tt
type_or-tells R t (answers.Wrong m g) h = h
type_or-tells R t a h = absurd h

generated_of-tells : (R : Type 0) (g : Generator) (inner : Answer) (count : Option ℕ) (a : Answer) → IsGeneratedOf g inner count a → Tells R inner → Tells R a
generated_of-tells R g (answers.Type t) count a h l = type_or-tells R (generated_type g (type_view t.ty) count) a h
generated_of-tells R g (answers.Named n) count a h l = one-tells R a (no_type-tells R (answers.Named n) a h l)
generated_of-tells R g (answers.Value v) count a h l = one-tells R a (no_type-tells R (answers.Value v) a h l)
generated_of-tells R g (answers.Bitcast t) count a h l = one-tells R a (no_type-tells R (answers.Bitcast t) a h l)
generated_of-tells R g (answers.Variable v) count a h l = one-tells R a (no_type-tells R (answers.Variable v) a h l)
generated_of-tells R g (answers.Skipped s) count a h l = one-tells R a (no_type-tells R (answers.Skipped s) a h l)
generated_of-tells R g (answers.Wrong m w) count a h l = one-tells R a (no_type-tells R (answers.Wrong m w) a h l)
generated_of-tells R g answers.Faulty count a h l = one-tells R a (no_type-tells R answers.Faulty a h l)

not_counted-tells : (R : Type 0) (count a : Answer) → IsNotCounted count a → Tells R count → TellsValue R a
not_counted-tells R (answers.Skipped s) a h l = let P : Answer → Type 0 = λ x. TellsValue R x in subst P (sym h) tt
not_counted-tells R (answers.Named n) a h l = unready-tells R (answers.Named n) a h l
not_counted-tells R (answers.Value v) a h l = unready-tells R (answers.Value v) a h l
not_counted-tells R (answers.Type t) a h l = unready-tells R (answers.Type t) a h l
not_counted-tells R (answers.Bitcast t) a h l = unready-tells R (answers.Bitcast t) a h l
not_counted-tells R (answers.Variable v) a h l = unready-tells R (answers.Variable v) a h l
not_counted-tells R (answers.Wrong m w) a h l = unready-tells R (answers.Wrong m w) a h l
not_counted-tells R answers.Faulty a h l = unready-tells R answers.Faulty a h l

counted-tells : (R : Type 0) (inner count a : Answer) → IsCounted inner count a → Tells R inner → Tells R count → Tells R a
counted-tells R inner (answers.Value v) a h i c =
    of_option (natural_of (value_of v.instance)) (IsFault a) (λ n. IsFault a ⊎ IsGeneratedOf generators.Array inner (Some n) a) (Tells R a) h
    (λ none fault. value-tells R a (fault-tells R a fault))
    (λ n some made. elim made [
      | inl fault ↦ value-tells R a (fault-tells R a fault)
      | inr of ↦ generated_of-tells R generators.Array inner (Some n) a of i
    ])
counted-tells R inner (answers.Named n) a h i c = value-tells R a (not_counted-tells R (answers.Named n) a h c)
counted-tells R inner (answers.Type t) a h i c = value-tells R a (not_counted-tells R (answers.Type t) a h c)
counted-tells R inner (answers.Bitcast t) a h i c = value-tells R a (not_counted-tells R (answers.Bitcast t) a h c)
counted-tells R inner (answers.Variable v) a h i c = value-tells R a (not_counted-tells R (answers.Variable v) a h c)
counted-tells R inner (answers.Skipped s) a h i c = value-tells R a (not_counted-tells R (answers.Skipped s) a h c)
counted-tells R inner (answers.Wrong m w) a h i c = value-tells R a (not_counted-tells R (answers.Wrong m w) a h c)
counted-tells R inner answers.Faulty a h i c = value-tells R a (not_counted-tells R answers.Faulty a h c)

first-tells : (R : Type 0) (given : List Answer) (x : Answer) (more : List Answer) → given ≡ x ∷ more → AllTell R given → Tells R x
first-tells R given x more e all = let Q : List Answer → Type 0 = λ xs. AllTell R xs in All-head (Tells R) x more (subst Q e all)

second-tells : (R : Type 0) (given : List Answer) (x y : Answer) (more : List Answer) → given ≡ x ∷ y ∷ more → AllTell R given → Tells R y
second-tells R given x y more e all =
    let Q : List Answer → Type 0 = λ xs. AllTell R xs in
    All-head (Tells R) y more (All-tail (Tells R) x (y ∷ more) (subst Q e all))

generated-tells : (R : Type 0) (g : Generator) (given : List Answer) (a : Answer) → IsGenerated g given a → AllTell R given → Tells R a
generated-tells R g given a h all =
    elim h [
      | inl fault ↦ value-tells R a (fault-tells R a fault)
      | inr made ↦ elim made [
        | inl one ↦ generated_of-tells R g one.0 None a one.2 (first-tells R given one.0 [] one.1 all)
        | inr two ↦ counted-tells R two.0 two.1 a two.4 (first-tells R given two.0 (two.1 ∷ []) two.3 all) (second-tells R given two.0 two.1 [] two.3 all)
      ]
    ]

bitcast_of-tells : (R : Type 0) (given : List Answer) (a : Answer) → IsBitcastOf given a → Tells R a
bitcast_of-tells R given (answers.Bitcast t) h = tt
bitcast_of-tells R given (answers.Wrong m g) h = h
bitcast_of-tells R given a h = absurd h

template_of-tells : (R : Type 0) (word : List ℕ) (given : List Answer) (a : Answer) → IsTemplateOf word given a → AllTell R given → Tells R a
template_of-tells R word given a h all =
    elim h [
      | inl fault ↦ value-tells R a (fault-tells R a fault)
      | inr some ↦ elim some [
        | inl cast ↦ bitcast_of-tells R given a cast.1
        | inr other ↦ elim other [
          | inl made ↦ generated-tells R made.0 given a made.2 all
          | inr opaque ↦ value-tells R a (skipped-tells R needs.Opaque a opaque.1)
        ]
      ]
    ]

template-tells : (R : Type 0) (s : Setting) (word : List ℕ) (given : List Answer) (a : Answer) → IsTemplate s word given a → AllTell R given → Tells R a
template-tells R s word given a h all =
    of_option (first_named s.source word) (IsTemplateOf word given a) (λ number. IsFault a) (Tells R a) h
    (λ none of. template_of-tells R word given a of all)
    (λ number some fault. value-tells R a (fault-tells R a fault))

-- ---- calls

no_value-tells : (R : Type 0) (given : List Answer) (a : Answer) → IsNoValue given a → AllTell R given → TellsValue R a
no_value-tells R [] a h all = absurd h
no_value-tells R (answers.Value v ∷ given) a h all = no_value-tells R given a h (All-tail (Tells R) (answers.Value v) given all)
no_value-tells R (answers.Named n ∷ given) a h all = unready-tells R (answers.Named n) a h (All-head (Tells R) (answers.Named n) given all)
no_value-tells R (answers.Type t ∷ given) a h all = unready-tells R (answers.Type t) a h tt
no_value-tells R (answers.Bitcast t ∷ given) a h all = unready-tells R (answers.Bitcast t) a h tt
no_value-tells R (answers.Variable v ∷ given) a h all = unready-tells R (answers.Variable v) a h tt
no_value-tells R (answers.Skipped s ∷ given) a h all = unready-tells R (answers.Skipped s) a h tt
no_value-tells R (answers.Wrong m g ∷ given) a h all = unready-tells R (answers.Wrong m g) a h (All-head (Tells R) (answers.Wrong m g) given all)
no_value-tells R (answers.Faulty ∷ given) a h all = unready-tells R answers.Faulty a h (All-head (Tells R) answers.Faulty given all)

for_values-tells : (R : Type 0) (given : List Answer) (P : List Val → Answer → Type 0) (a : Answer) → IsForValues given P a
    → ((vs : List Val) → P vs a → TellsValue R a) → AllTell R given → TellsValue R a
for_values-tells R given P a h of all =
    of_option (values_of given) (IsNoValue given a) (λ vs. P vs a) (TellsValue R a) h
    (λ _ wanting. no_value-tells R given a wanting all) (λ vs _ p. of vs p)

of_type-tells : (R : Type 0) (t : Ty) (f : List Val → Option Val) (vs : List Val) (a : Answer) → IsOfType t f vs a → TellsValue R a
of_type-tells R t f vs a h =
    of_bool (has_floats t) (IsSkippedFor needs.Float a) (MayBe (f vs) a) (TellsValue R a) h
    (skipped-tells R needs.Float a) (with-tells R (λ v. f vs ≡ Some v) a)

call_of-tells : (R : Type 0) (d : Dialect) (callee : Answer) (given : List Answer) (a : Answer) → IsCallOf d callee given a → Tells R callee → AllTell R given → Tells R a
call_of-tells R d (answers.Type t) given a h l all =
    value-tells R a (for_values-tells R given (IsOfType (type_view t.ty) (constructed (type_view t.ty))) a h
    (λ vs of. of_type-tells R (type_view t.ty) (constructed (type_view t.ty)) vs a of) all)
call_of-tells R d (answers.Bitcast t) given a h l all =
    value-tells R a (for_values-tells R given (IsOfType (type_view t.ty) (bitcast_alone d (type_view t.ty))) a h
    (λ vs of. of_type-tells R (type_view t.ty) (bitcast_alone d (type_view t.ty)) vs a of) all)
call_of-tells R d (answers.Value v) given a h l all = value-tells R a (fault-tells R a h)
call_of-tells R d (answers.Named n) given a h l all = same-tells R (answers.Named n) a h l
call_of-tells R d (answers.Variable v) given a h l all = same-tells R (answers.Variable v) a h tt
call_of-tells R d (answers.Skipped s) given a h l all = same-tells R (answers.Skipped s) a h tt
call_of-tells R d (answers.Wrong m g) given a h l all = same-tells R (answers.Wrong m g) a h l
call_of-tells R d answers.Faulty given a h l all = same-tells R answers.Faulty a h l

function-tells : (R : Type 0) (s : Setting) (f : Builtin) (given : List Answer) (a : Answer) → IsFunctionCall s f given a → AllTell R given → TellsValue R a
function-tells R s f given a h all =
    of_option (count_of f) (IsSkippedFor (need_of f) a) (λ n. IsForValues given (λ vs. MayBe (function_of s.dialect f s.stage vs)) a) (TellsValue R a) h
    (λ none skipped. skipped-tells R (need_of f) a skipped)
    (λ n some of. for_values-tells R given (λ vs. MayBe (function_of s.dialect f s.stage vs)) a of
    (λ vs. with-tells R (λ v. function_of s.dialect f s.stage vs ≡ Some v) a) all)

matrix-tells : (R : Type 0) (d : Dialect) (columns rows : ℕ) (vs : List Val) (a : Answer) → IsMatrixOf d columns rows vs a → TellsValue R a
matrix-tells R d columns rows vs a h =
    of_bool (are_floats d vs) (IsSkippedOr needs.Float a) (MayBe (Some (matrix_of columns rows vs)) a) (TellsValue R a) h
    (skipped_or-tells R needs.Float a) (with-tells R (λ v. Some (matrix_of columns rows vs) ≡ Some v) a)

inferred-tells : (R : Type 0) (d : Dialect) (g : Generator) (vs : List Val) (a : Answer) → IsInferred d g vs a → TellsValue R a
inferred-tells R d (generators.Mat c r) vs a h =
    of_option (common_scalars c r vs) (IsFault a) (λ ws. IsMatrixOf d c r ws a) (TellsValue R a) h
    (λ none fault. fault-tells R a fault) (λ ws some of. matrix-tells R d c r ws a of)
inferred-tells R d (generators.Vec n) vs a h = with-tells R (λ v. inferred_of (generators.Vec n) vs ≡ Some v) a h
inferred-tells R d generators.Array vs a h = with-tells R (λ v. inferred_of generators.Array vs ≡ Some v) a h
inferred-tells R d generators.Atomic vs a h = with-tells R (λ v. inferred_of generators.Atomic vs ≡ Some v) a h

language_type-tells : (R : Type 0) (o : Option Ty) (a : Answer) → IsLanguageType o a → Tells R a
language_type-tells R None a h = value-tells R a (fault-tells R a h)
language_type-tells R (Some t) a h = type_or-tells R t a h

some_language-tells : (R : Type 0) (d : Dialect) (o : Option Ty) (given : List Answer) (a : Answer) → IsSomeCall d (IsLanguageType o) given a → AllTell R given → Tells R a
some_language-tells R d o given a h all = call_of-tells R d h.0 given a h.2 (language_type-tells R o h.0 h.1) all

type_call-tells : (R : Type 0) (s : Setting) (p : Predeclared) (given : List Answer) (a : Answer) → IsTypeCall s p given a → AllTell R given → Tells R a
type_call-tells R s (named.Generator g) given a h all =
    value-tells R a (for_values-tells R given (IsInferred s.dialect g) a h (λ vs of. inferred-tells R s.dialect g vs a of) all)
type_call-tells R s (named.Scalar k) given a h all = some_language-tells R s.dialect (predeclared_type (named.Scalar k)) given a h all
type_call-tells R s (named.Vec n k) given a h all = some_language-tells R s.dialect (predeclared_type (named.Vec n k)) given a h all
type_call-tells R s (named.Mat c r k) given a h all = some_language-tells R s.dialect (predeclared_type (named.Mat c r k)) given a h all

language_call-tells : (R : Type 0) (s : Setting) (word : List ℕ) (given : List Answer) (a : Answer) → IsLanguageCall s word given a → AllTell R given → Tells R a
language_call-tells R s word given a h all =
    elim h [
      | inl fault ↦ value-tells R a (fault-tells R a fault)
      | inr some ↦ elim some [
        | inl function ↦ value-tells R a (function-tells R s function.0 given a function.2 all)
        | inr type ↦ type_call-tells R s type.0 given a type.2 all
      ]
    ]

call-tells : (R : Type 0) (s : Setting) (word : List ℕ) (given : List Answer) (a : Answer) → IsCall s word given a → (NamesOne s.source (IsFaultyAt s) word → R) → AllTell R given → Tells R a
call-tells R s word given a h f all =
    of_option (first_named s.source word) (IsLanguageCall s word given a) (λ number. IsSomeCall s.dialect (IsCopy (meaning_at s.meanings number)) given a) (Tells R a) h
    (λ none call. language_call-tells R s word given a call all)
    (λ number some call. call_of-tells R s.dialect call.0 given a call.2
    (copy-tells R (meaning_at s.meanings number) call.0 call.1 (λ faulty. f (some_and (first_named s.source word) (IsFaultyAt s) number some faulty))) all)

-- ---- parts

member-tells : (R : Type 0) (name : List ℕ) (v a : Answer) → IsMemberOf name v a → Tells R v → TellsValue R a
member-tells R name (answers.Value v) a h l = with-tells R (IsMember name (value_of v.instance)) a h
member-tells R name (answers.Named n) a h l = unready-tells R (answers.Named n) a h l
member-tells R name (answers.Type t) a h l = unready-tells R (answers.Type t) a h l
member-tells R name (answers.Bitcast t) a h l = unready-tells R (answers.Bitcast t) a h l
member-tells R name (answers.Variable v) a h l = unready-tells R (answers.Variable v) a h l
member-tells R name (answers.Skipped s) a h l = unready-tells R (answers.Skipped s) a h l
member-tells R name (answers.Wrong m g) a h l = unready-tells R (answers.Wrong m g) a h l
member-tells R name answers.Faulty a h l = unready-tells R answers.Faulty a h l

index-tells : (R : Type 0) (i : Answer) (v : Value) (a : Answer) → IsElementOf (answers.Value v) i a → Tells R i → TellsValue R a
index-tells R (answers.Value i) v a h l = with-tells R (IsElement (value_of v.instance) (value_of i.instance)) a h
index-tells R (answers.Named n) v a h l = unready-tells R (answers.Named n) a h l
index-tells R (answers.Type t) v a h l = unready-tells R (answers.Type t) a h l
index-tells R (answers.Bitcast t) v a h l = unready-tells R (answers.Bitcast t) a h l
index-tells R (answers.Variable w) v a h l = unready-tells R (answers.Variable w) a h l
index-tells R (answers.Skipped s) v a h l = unready-tells R (answers.Skipped s) a h l
index-tells R (answers.Wrong m g) v a h l = unready-tells R (answers.Wrong m g) a h l
index-tells R answers.Faulty v a h l = unready-tells R answers.Faulty a h l

element-tells : (R : Type 0) (v i a : Answer) → IsElementOf v i a → Tells R v → Tells R i → TellsValue R a
element-tells R (answers.Value v) i a h l r = index-tells R i v a h r
element-tells R (answers.Named n) i a h l r = unready-tells R (answers.Named n) a h l
element-tells R (answers.Type t) i a h l r = unready-tells R (answers.Type t) a h l
element-tells R (answers.Bitcast t) i a h l r = unready-tells R (answers.Bitcast t) a h l
element-tells R (answers.Variable w) i a h l r = unready-tells R (answers.Variable w) a h l
element-tells R (answers.Skipped s) i a h l r = unready-tells R (answers.Skipped s) a h l
element-tells R (answers.Wrong m g) i a h l r = unready-tells R (answers.Wrong m g) a h l
element-tells R answers.Faulty i a h l r = unready-tells R answers.Faulty a h l

-- ---- a step

given-tells : (R : Type 0) (s : Setting) (step : Step) (before : List Answer) (a : Answer) → IsGiven s step before a
    → (IsToBlame s.source (IsFaultyAt s) step → R) → Enough R (taken_by step) before → AllTell R before → Tells R a
given-tells R s (steps.Name token) before a h blamed there all = name-tells R s (word_at s.source token) a h blamed
given-tells R s (steps.Number token) before a h blamed there all = value-tells R a (literal-tells R s h.0 a h.2)
given-tells R s (steps.Unary op token) before a h blamed there all =
    refused-or R s.source token a (IsOfOne op (top before) a) h blamed
    (λ of. value-tells R a (of_one-tells R op (top before) a of (top-tells R before there all)))
given-tells R s (steps.Binary op token) before a h blamed there all =
    let two = two-tell R before there all in
    refused-or R s.source token a (IsOfTwo s op (top (below before)) (top before) a) h blamed
    (λ of. of_two-tells R s op (top (below before)) (top before) a of two.0 two.1)
given-tells R s (steps.Template token n) before a h blamed there all =
    template-tells R s (word_at s.source token) (last_ones n before) a h (last-tell R n before there all)
given-tells R s (steps.Call token callees.Name n) before a h blamed there all =
    call-tells R s (word_at s.source token) (last_ones n before) a h blamed (last-tell R n before there all)
given-tells R s (steps.Call token callees.Answer n) before a h blamed there all =
    call_of-tells R s.dialect (top (without n before)) (last_ones n before) a h
    (top-tells R (without n before) (enough R (n + 1 ≤ length before) (1 ≤ length (without n before)) (λ k. omega (arith, length-without n before)) there) (without-tells R n before all))
    (last-tell R n before (enough R (n + 1 ≤ length before) (n ≤ length before) (λ k. omega arith) there) all)
given-tells R s (steps.Member token) before a h blamed there all =
    value-tells R a (member-tells R (word_at s.source token) (top before) a h (top-tells R before there all))
given-tells R s (steps.Index token) before a h blamed there all =
    let two = two-tell R before there all in
    value-tells R a (element-tells R (top (below before)) (top before) a h two.0 two.1)

-- ---- all steps

pub any-here : {X : Type 0} (P : X → Type 0) (x : X) (xs : List X) → P x → Any P (x ∷ xs)
any-here P x xs p = (zero, x, omega arith, refl, p)

pub any-there : {X : Type 0} (P : X → Type 0) (x : X) (xs : List X) → Any P xs → Any P (x ∷ xs)
any-there P x xs h = (suc h.0, h.1, (let within : h.0 < length xs = h.2 in omega arith), h.3, h.4)

run-tells : (R : Type 0) (s : Setting) (ss : List Step) (before after : List Answer) → IsRun s ss before after → (find_theirs (length before) ss ≡ true) ⊎ R
    → (Any (IsToBlame s.source (IsFaultyAt s)) ss → R) → AllTell R before → Tells R (top after)
run-tells R s [] before after h whole blamed all =
    let P : List Answer → Type 0 = λ xs. Tells R (top xs) in
    subst P (sym h) (top-tells R before (enough R (nat_lt 0 (length before) ≡ true) (1 ≤ length before) (ltb-true 0 (length before)) whole) all)
run-tells R s (step ∷ ss) before after h whole blamed all =
    let rest = rest_of step before in
    let here = nat_le (taken_by step) (length before) in
    let later = find_theirs (length before - taken_by step + 1) ss in
    let count : length before - taken_by step + 1 ≡ length (rest ++ h.0 ∷ []) = rw length-append (omega (arith, length-rest step before)) in
    let Q : ℕ → Type 0 = λ n. find_theirs n ss ≡ true in
    let taken : Enough R (taken_by step) before =
    enough R ((here && later) ≡ true) (taken_by step ≤ length before) (λ k. leb-true (taken_by step) (length before) (both here later k).0) whole in
    let left : (find_theirs (length (rest ++ h.0 ∷ [])) ss ≡ true) ⊎ R =
    enough R ((here && later) ≡ true) (find_theirs (length (rest ++ h.0 ∷ [])) ss ≡ true) (λ k. subst Q count (both here later k).1) whole in
    run-tells R s ss (rest ++ h.0 ∷ []) after h.2 left
    (λ there. blamed (any-there (IsToBlame s.source (IsFaultyAt s)) step ss there))
    (All-push (Tells R) rest h.0 (rest-tells R step before all)
    (given-tells R s step before h.0 h.1 (λ is. blamed (any-here (IsToBlame s.source (IsFaultyAt s)) step ss is)) taken all))

-- an expression is a fault, or is to blame where it is faulty
pub found-tells : (s : Setting) (span : Span) (a : Answer) → IsFound s span a → Tells (IsBlamed s.source (IsFaultyAt s) span) a
found-tells s span a h =
    let P : Answer → Type 0 = λ x. Tells (IsBlamed s.source (IsFaultyAt s) span) x in
    subst P (sym h.last) (run-tells (IsBlamed s.source (IsFaultyAt s) span) s (steps_in s.source span) [] h.after h.run
    (whole (find_theirs 0 (steps_in s.source span)) refl) (λ is. inr is) (λ k d within. absurd (omega arith)))
  where
    whole : (b : Bool) → find_theirs 0 (steps_in s.source span) ≡ b → (find_theirs 0 (steps_in s.source span) ≡ true) ⊎ IsBlamed s.source (IsFaultyAt s) span
    whole true e = inl e
    whole false e = inr (inl (λ is. absurd (cc)))
