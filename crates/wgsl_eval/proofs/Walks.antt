-- Walks over steps and declarations, one after the other.
use Rattle.std.proofs.Common.{◌≡◌, ℕ, Bool, true, false, Result, Ok, Err, IfOk, MatchBool, suc, ◌+◌, ◌<◌, List, [], ◌∷◌, ◌++◌, Global, Vec, length, get_or, drop, refl, sym, ap, ◌∙◌, subst, add-one, append-nil, append_assoc, drop-cons}
use Rattle.std.proofs.Math.Seq.{drop-length}
use Rattle.wgsl_rules.specs.Values.{Val}
use Rattle.wgsl_values.specs.View.{value_of}
use Rattle.wgsl_rules.specs.declared.syntax.ShaderStage.{ShaderStage}
use Rattle.wgsl_source.specs.Readings.{Outline}
use Rattle.wgsl_source.specs.declared.module.Declared.{Declared}
use Rattle.wgsl_source.specs.declared.module.Declared.TheVariants as declareds
use Rattle.wgsl_source.specs.declared.expression.Span.{Span}
use Rattle.wgsl_source.specs.declared.expression.Step.{Step}
use Rattle.wgsl_eval.specs.Answers.{AreAnswers}
use Rattle.wgsl_eval.specs.Assertions.{AreAsserted, IsAsserted, IsAssertion, IsTold, is_truth}
use Rattle.wgsl_eval.specs.Evaluated.{AreDeclarations, AreDeclarationsWith, AreItems, IsEvaluated, IsEvaluatedWith, setting_with, values_of}
use Rattle.wgsl_eval.specs.Evaluation.{has_value, has_value_among, name_at, value_names, value_names_among}
use Rattle.wgsl_eval.specs.Evaluators.{Setting}
use Rattle.wgsl_eval.specs.Given.{IsGiven, rest_of}
use Rattle.wgsl_eval.specs.Meanings.{AreDeclared, IsFoundAt}
use Rattle.wgsl_eval.specs.Messages.{AreTold}
use Rattle.wgsl_eval.specs.Runs.{IsRun}
use Rattle.wgsl_eval.specs.declared.answer.Answer.{Answer}
use Rattle.wgsl_eval.specs.declared.answer.Answer.TheVariants as answers
use Rattle.wgsl_eval.specs.declared.assertions.Assertion.{Assertion}
use Rattle.wgsl_eval.specs.declared.assertions.Assertion.TheVariants as asserts
use Rattle.wgsl_eval.specs.declared.declarations.Declarations.{Declarations}
use Rattle.wgsl_eval.specs.declared.evaluation.Evaluation.{Evaluation}
use Rattle.wgsl_eval.specs.declared.given.Given.{Given}
use Rattle.wgsl_eval.specs.declared.settings.Settings.{Settings}
use Rattle.wgsl_eval.proofs.Told.{told_alike}

dropped_at : {A : Type 0} (xs : List A) (i : ℕ) (d : A) → i < length xs → drop i xs ≡ get_or xs i d ∷ drop (i + 1) xs
dropped_at xs i d h = rw add-one (drop-cons xs i d h)

dropped : {A : Type 0} (xs : List A) (i : ℕ) (x : A) → i < length xs → get_or xs i x ≡ x → drop i xs ≡ x ∷ drop (i + 1) xs
dropped xs i x h e = rw add-one (drop-cons xs i x h ∙ ap (λ y. y ∷ drop (suc i) xs) e)

-- the answers so far, with those of the steps that are left, are those of all steps
pub record IsRunSoFar (s : Setting) (all : List Step) (i : ℕ) (now : List Answer) : Type 0 where
  pub ran : (after : List Answer) → IsRun s (drop i all) now after → IsRun s all [] after

pub more : (s : Setting) (all : List Step) (i : ℕ) (now : List Answer) (d : Step) (a : Answer)
    → i < length all → IsRunSoFar s all i now → IsGiven s (get_or all i d) now a → IsRunSoFar s all (i + 1) (rest_of (get_or all i d) now ++ a ∷ [])
more s all i now d a h so_far given = record {
  ran = λ after r.
      let P : List Step → Type 0 = λ ss. IsRun s ss now after in
      so_far.ran after (subst P (sym (dropped_at all i d h)) (a, given, r));
}

pub run_all : (s : Setting) (all : List Step) (now : List Answer) → IsRunSoFar s all (length all) now → IsRun s all [] now
run_all s all now so_far =
    let P : List Step → Type 0 = λ ss. IsRun s ss now now in
    so_far.ran now (subst P (sym (drop-length all)) refl)

-- the declarations so far, with those that are left, are all of them
pub record AreDeclaredSoFar (s : Setting) (all : List ℕ) (i : ℕ) (now : Setting) : Type 0 where
  pub declared : (after : Setting) → AreDeclared now (drop i all) after → AreDeclared s all after

pub declared_none : (s : Setting) (all : List ℕ) → AreDeclaredSoFar s all 0 s
declared_none s all = record { declared = λ after r. r }

pub declared_more : (s : Setting) (all : List ℕ) (i n : ℕ) (now next : Setting)
    → i < length all → get_or all i n ≡ n → AreDeclaredSoFar s all i now → IsFoundAt now n next → AreDeclaredSoFar s all (i + 1) next
declared_more s all i n now next h e so_far placed = record {
  declared = λ after r.
      let P : List ℕ → Type 0 = λ ns. AreDeclared now ns after in
      so_far.declared after (subst P (sym (dropped all i n h e)) (next, placed, r));
}

pub declared_all : (s : Setting) (all : List ℕ) (now : Setting) → AreDeclaredSoFar s all (length all) now → AreDeclared s all now
declared_all s all now so_far =
    let P : List ℕ → Type 0 = λ ns. AreDeclared now ns now in
    so_far.declared now (subst P (sym (drop-length all)) refl)

-- the source and the stage stay
pub same_source : (ns : List ℕ) (s after : Setting) → AreDeclared s ns after → after.source ≡ s.source
same_source [] s after e = ap (λ (x : Setting). x.source) e
same_source (n ∷ ns) s after d = same_source ns d.0 after d.2 ∙ d.1.others.source

pub same_stage : (ns : List ℕ) (s after : Setting) → AreDeclared s ns after → after.stage ≡ s.stage
same_stage [] s after e = ap (λ (x : Setting). x.stage) e
same_stage (n ∷ ns) s after d = same_stage ns d.0 after d.2 ∙ d.1.others.stage

pub same_given : (ns : List ℕ) (s after : Setting) → AreDeclared s ns after → after.given ≡ s.given
same_given [] s after e = ap (λ (x : Setting). x.given) e
same_given (n ∷ ns) s after d = same_given ns d.0 after d.2 ∙ d.1.others.given

-- ---- assertions

-- the assertions so far, with those that are left, are all of them
pub record AreAssertedSoFar (s : Setting) (all : List Span) (i : ℕ) (found : List Assertion) (now : Setting) : Type 0 where
  pub asserted : (left : List Assertion) (last : Setting) → AreAsserted now (drop i all) left last → AreAsserted s all (found ++ left) last

pub asserted_none : (s : Setting) (all : List Span) → AreAssertedSoFar s all 0 [] s
asserted_none s all = record { asserted = λ left last r. r }

pub asserted_more : (s : Setting) (all : List Span) (i : ℕ) (d : Span) (found more : List Assertion) (a : Assertion) (now next : Setting)
    → i < length all → more ≡ found ++ a ∷ [] → AreAssertedSoFar s all i found now → IsAsserted now (get_or all i d) a next → AreAssertedSoFar s all (i + 1) more next
asserted_more s all i d found more a now next h added so_far one = record {
  asserted = λ left last r.
      let P : List Span → Type 0 = λ ss. AreAsserted now ss (a ∷ left) last in
      let Q : List Assertion → Type 0 = λ xs. AreAsserted s all xs last in
      let same : found ++ a ∷ left ≡ more ++ left = sym (append_assoc found (a ∷ []) left) ∙ ap (λ xs. xs ++ left) (sym added) in
      subst Q same (so_far.asserted (a ∷ left) last (subst P (sym (dropped_at all i d h)) (next, one, r)));
}

pub asserted_all : (s : Setting) (all : List Span) (found : List Assertion) (now : Setting) → AreAssertedSoFar s all (length all) found now → AreAsserted s all found now
asserted_all s all found now so_far =
    let P : List Span → Type 0 = λ ss. AreAsserted now ss [] now in
    let Q : List Assertion → Type 0 = λ xs. AreAsserted s all xs now in
    subst Q (append-nil found) (so_far.asserted [] now (subst P (sym (drop-length all)) refl))

-- all but the faults stays
abbrev pub IsLike : Setting → Setting → Type 0
IsLike s t = t ≡ record s { faults = t.faults }

like_itself : (s t : Setting) → t ≡ s → IsLike s t
like_itself s t e = let P : Setting → Type 0 = λ u. IsLike s u in subst P (sym e) refl

like_told : (s t : Setting) → IsTold s t → IsLike s t
like_told s t h = let P : Setting → Type 0 = λ u. IsLike s u in subst P (sym h.told) refl

like_both : (s t u : Setting) → IsLike s t → IsLike t u → IsLike s u
like_both s t u h k = k ∙ ap (λ (x : Setting). record x { faults = u.faults }) h

held_like : (s t : Setting) (v : Val) (b : Bool) (a : Assertion) → MatchBool b ((a ≡ asserts.Holds) × (t ≡ s)) ((a ≡ asserts.Faulty) × IsTold s t) → IsLike s t
held_like s t v true a h = like_itself s t h.1
held_like s t v false a h = like_told s t h.1

assertion_like : (s t : Setting) (x : Answer) (a : Assertion) → IsAssertion s x a t → IsLike s t
assertion_like s t (answers.Value v) a h = held_like s t (value_of v.instance) (is_truth (value_of v.instance)) a h
assertion_like s t (answers.Skipped k) a h = like_itself s t h.1
assertion_like s t (answers.Wrong m g) a h = let P : Setting → Type 0 = λ u. IsLike s u in subst P (sym h.1) refl
assertion_like s t answers.Faulty a h = like_itself s t h.1
assertion_like s t (answers.Type u) a h = like_told s t h.1
assertion_like s t (answers.Bitcast u) a h = like_told s t h.1
assertion_like s t (answers.Variable v) a h = like_told s t h.1
assertion_like s t (answers.Named n) a h = like_told s t h.1

pub asserted_like : (s : Setting) (spans : List Span) (xs : List Assertion) (t : Setting) → AreAsserted s spans xs t → IsLike s t
asserted_like s [] [] t h = like_itself s t h
asserted_like s (span ∷ spans) (a ∷ xs) t h =
    like_both s h.0 t (assertion_like s h.0 h.1.0 a h.1.2) (asserted_like h.0 spans xs t h.2)
asserted_like s [] (a ∷ xs) t h = absurd h
asserted_like s (span ∷ spans) [] t h = absurd h

-- the meanings are answers still
pub asserted_answers : (s t : Setting) (span : Span) (a : Assertion) → IsAsserted s span a t → AreAnswers s.meanings → AreAnswers t.meanings
asserted_answers s t span a h k =
    let P : List Answer → Type 0 = λ ms. AreAnswers ms in
    let like : IsLike s t = assertion_like s t h.0 a h.2 in
    subst P (sym (ap (λ (x : Setting). x.meanings) like)) k

-- ---- all that is told

-- the same declarations have values
same_names : (ns : List ℕ) (s t u : Setting) → AreDeclared s ns t → IsLike t u
    → value_names_among s.source s.given s.stage 0 s.source.declared ≡ value_names_among u.source u.given u.stage 0 u.source.declared
same_names ns s t u d e =
    let source : u.source ≡ s.source = ap (λ (x : Setting). x.source) e ∙ same_source ns s t d in
    let given : u.given ≡ s.given = ap (λ (x : Setting). x.given) e ∙ same_given ns s t d in
    let stage : u.stage ≡ s.stage = ap (λ (x : Setting). x.stage) e ∙ same_stage ns s t d in
    sym (ap (λ o. value_names_among o u.given u.stage 0 o.declared) source
    ∙ ap (λ vs. value_names_among s.source vs u.stage 0 s.source.declared) given
    ∙ ap (λ g. value_names_among s.source s.given g 0 s.source.declared) stage)

-- from nothing that is known to all that is told
pub named : {T E : Type 0} (o : Outline) (given : List Given) (settings : Settings) (f : T → List ℕ) (s t u : Setting) (found : List Assertion) (r : Result T E)
    → s ≡ setting_with o given settings → AreDeclared s s.source.order t → AreAsserted t t.source.asserts found u
    → IfOk r (λ x. f x ≡ value_names_among u.source u.given u.stage 0 u.source.declared) → IfOk r (λ x. f x ≡ value_names_among o given settings.stage 0 o.declared)
named o given settings f s t u found (Err x) e d asserted h = tt
named o given settings f s t u found (Ok x) e d asserted h =
    h ∙ sym (same_names s.source.order s t u d (asserted_like t t.source.asserts found u asserted)) ∙ ap (λ (v : Setting). value_names_among v.source v.given v.stage 0 v.source.declared) e

has_alike : (o : Outline) (stage : ShaderStage) (number : ℕ) (d : Declared) → has_value_among o [] stage number d ≡ has_value stage d
has_alike o stage number (declareds.Const ty value) = refl
has_alike o stage number (declareds.Override ty value) = refl
has_alike o stage number (declareds.Alias ty) = refl
has_alike o stage number (declareds.Struct first end) = refl
has_alike o stage number (declareds.Variable v) = refl
has_alike o stage number declareds.Function = refl

-- the names where a host gives nothing
pub named_before : {T E : Type 0} (o : Outline) (given : List Given) (stage : ShaderStage) (f : T → List ℕ) (r : Result T E) → given ≡ []
    → IfOk r (λ x. f x ≡ value_names_among o given stage 0 o.declared) → IfOk r (λ x. f x ≡ value_names o stage 0 o.declared)
named_before o given stage f (Err x) none h = tt
named_before o given stage f (Ok x) none h =
    h ∙ ap (λ vs. value_names_among o vs stage 0 o.declared) none
    ∙ told_alike (has_value_among o [] stage) (λ number. has_value stage) (name_at o) 0 o.declared (has_alike o stage)

pub evaluated : {E : Type 0} (o : Outline) (given : List Given) (settings : Settings) (s t u : Setting) (found : Vec Assertion Global) (r : Result Evaluation E)
    → s ≡ setting_with o given settings → AreDeclared s s.source.order t → AreAsserted t t.source.asserts found.items u
    → IfOk r (λ e. e.values.items ≡ values_of u 0 u.source.declared) → IfOk r (λ e. e.asserts ≡ found) → IfOk r (λ e. AreTold u.faults e.messages.items)
    → IfOk r (IsEvaluatedWith o given settings)
evaluated o given settings s t u found (Err x) e d asserted h k m = tt
evaluated o given settings s t u found (Ok x) e d asserted h k m =
    let P : Setting → Type 0 = λ v. AreDeclared v v.source.order t in
    let source : t.source ≡ o = same_source s.source.order s t d ∙ ap (λ (v : Setting). v.source) e in
    let Q : Outline → Type 0 = λ p. AreAsserted t p.asserts found.items u in
    let R : Vec Assertion Global → Type 0 = λ xs. AreAsserted t o.asserts xs.items u in
    let like : IsLike t u = asserted_like t t.source.asserts found.items u asserted in
    record {
      after = t;
      declared = subst P e d;
      last = u;
      asserts = subst R (sym k) (subst Q source asserted);
      values = h ∙ ap (λ (p : Outline). values_of u 0 p.declared) (ap (λ (v : Setting). v.source) like ∙ source);
      messages = m;
    }

-- where a host gives nothing
pub evaluated_before : {E : Type 0} (o : Outline) (given : List Given) (settings : Settings) (r : Result Evaluation E) → given ≡ []
    → IfOk r (IsEvaluatedWith o given settings) → IfOk r (IsEvaluated o settings)
evaluated_before o given settings r none h = let P : List Given → Type 0 = λ vs. IfOk r (IsEvaluatedWith o vs settings) in subst P none h

pub declared : {E : Type 0} (o : Outline) (given : List Given) (settings : Settings) (s t : Setting) (r : Result Declarations E)
    → s ≡ setting_with o given settings → AreDeclared s s.source.order t
    → IfOk r (λ d. AreItems t d.items.items) → IfOk r (λ d. AreTold t.faults d.messages.items) → IfOk r (AreDeclarationsWith o given settings)
declared o given settings s t (Err x) e d h m = tt
declared o given settings s t (Ok x) e d h m =
    let P : Setting → Type 0 = λ v. AreDeclared v v.source.order t in
    record { after = t; declared = subst P e d; items = h; messages = m }

pub declared_before : {E : Type 0} (o : Outline) (given : List Given) (settings : Settings) (r : Result Declarations E) → given ≡ []
    → IfOk r (AreDeclarationsWith o given settings) → IfOk r (AreDeclarations o settings)
declared_before o given settings r none h = let P : List Given → Type 0 = λ vs. IfOk r (AreDeclarationsWith o vs settings) in subst P none h
