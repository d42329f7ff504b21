-- What is told of declarations and assertions is a fault, and is told in what is told of all.
use Rattle.std.proofs.Common.{◌≡◌, ◌≤◌, ◌+◌, inl, inr, ℕ, zero, suc, Bool, true, false, cond, List, [], ◌∷◌, ◌++◌, length, Option, Some, None, MatchBool, refl, sym, ap, subst, arith}
use Rattle.std.specs.Prelude.{All, Contains, count_by, if◌then◌else◌, nat_lt, slice_get}
use Rattle.std.proofs.lemmas.List.Elements.{All-append, All-cons, All-head, All-nil, All-push, All-tail, Contains-append_left}
use Rattle.std.proofs.lemmas.List.Sorted.{Contains-permutation, sum_by-IsPermutation}
use Rattle.std.proofs.lemmas.List.Sums.{sum_by-append, sum_by-cons}
use Rattle.wgsl_source.specs.declared.expression.Span.{Span}
use Rattle.wgsl_source.specs.declared.module.Declared.{Declared}
use Rattle.wgsl_source.specs.declared.module.Declared.TheVariants as declareds
use Rattle.wgsl_values.specs.View.{value_of}
use Rattle.wgsl_eval.specs.Answers.{IsAnswer}
use Rattle.wgsl_eval.specs.Assertions.{AreAsserted, IsAssertion, IsTold, is_truth}
use Rattle.wgsl_eval.specs.Evaluation.{name_at}
use Rattle.wgsl_eval.specs.Evaluators.{Setting}
use Rattle.wgsl_eval.specs.Faulty.{IsBlamed, IsFaultyAt, is_fault, is_severe}
use Rattle.wgsl_eval.specs.Lists.{AllFrom}
use Rattle.wgsl_eval.specs.Meanings.{AreDeclared, AreOthers, IsDeclared, IsFoundAt, with_fault}
use Rattle.wgsl_eval.specs.Messages.{AreTold, IsFaultMessage, added, all_added, fault_in, faults_with}
use Rattle.wgsl_eval.specs.Structures.{AreFaultsOf, IsFoundMember, IsFoundNumber, behind_first, fault_of, faults_of}
use Rattle.wgsl_eval.specs.declared.answer.Answer.{Answer}
use Rattle.wgsl_eval.specs.declared.answer.Answer.TheVariants as answers
use Rattle.wgsl_eval.specs.declared.assertions.Assertion.{Assertion}
use Rattle.wgsl_eval.specs.declared.assertions.Assertion.TheVariants as asserts
use Rattle.wgsl_eval.specs.declared.message.Message.{Message}
use Rattle.wgsl_eval.specs.declared.structure.FoundMember.{FoundMember}
use Rattle.wgsl_eval.specs.declared.structure.FoundMember.TheVariants as founds
use Rattle.wgsl_eval.proofs.FaultyAnswers.{Tells, TellsOne, of_option}
use Rattle.wgsl_eval.proofs.FaultyChains.{decide_second}
use Rattle.wgsl_eval.proofs.FaultyDeclarations.{OneBlamed, declared-tells}
use Rattle.wgsl_eval.proofs.FaultyRuns.{found-tells}

abbrev pub AreFaults : List Message → Type 0
AreFaults = All IsFaultMessage

added-faults : (faults : List Message) (m : Message) → AreFaults faults → IsFaultMessage m → AreFaults (added faults m)
added-faults faults m all h = go (nat_lt (length faults) 100)
  where
    go : (b : Bool) → AreFaults (if b then faults ++ m ∷ [] else faults)
    go true = All-push IsFaultMessage faults m all h
    go false = all

all_added-faults : (faults ms : List Message) → AreFaults faults → AreFaults ms → AreFaults (all_added faults ms)
all_added-faults faults [] all more = all
all_added-faults faults (m ∷ ms) all more =
    added-faults (all_added faults ms) m (all_added-faults faults ms all (All-tail IsFaultMessage m ms more)) (All-head IsFaultMessage m ms more)

with-faults : (R : Type 0) (faults : List Message) (a : Answer) → AreFaults faults → TellsOne R a → AreFaults (faults_with faults a)
with-faults R faults (answers.Wrong m g) all h = added-faults faults m all h
with-faults R faults (answers.Value v) all h = all
with-faults R faults (answers.Named n) all h = all
with-faults R faults (answers.Type t) all h = all
with-faults R faults (answers.Bitcast t) all h = all
with-faults R faults (answers.Variable v) all h = all
with-faults R faults (answers.Skipped k) all h = all
with-faults R faults answers.Faulty all h = all

-- ---- members

answer-faults : (a : Answer) → IsAnswer a → AreFaults (fault_in a)
answer-faults (answers.Wrong m g) h = All-cons IsFaultMessage m [] h (All-nil IsFaultMessage)
answer-faults (answers.Value v) h = All-nil IsFaultMessage
answer-faults (answers.Named n) h = All-nil IsFaultMessage
answer-faults (answers.Type t) h = All-nil IsFaultMessage
answer-faults (answers.Bitcast t) h = All-nil IsFaultMessage
answer-faults (answers.Variable v) h = All-nil IsFaultMessage
answer-faults (answers.Skipped k) h = All-nil IsFaultMessage
answer-faults answers.Faulty h = All-nil IsFaultMessage

nothing-answer : (a : Answer) → ◌≡◌ {A = FoundMember} (founds.Other a) (founds.Other answers.Faulty) → IsAnswer a
nothing-answer a e =
    let same : a ≡ answers.Faulty = cc in
    let P : Answer → Type 0 = λ x. IsAnswer x in
    subst P (sym same) tt

member-faults : (s : Setting) (number : ℕ) (f : FoundMember) → IsFoundNumber s number f → AreFaults (fault_of f)
member-faults s number (founds.Member m of) h = All-nil IsFaultMessage
member-faults s number (founds.Other a) h =
    answer-faults a (of_option (slice_get s.source.fields number) (founds.Other a ≡ founds.Other answers.Faulty) (λ field. IsFoundMember s field (founds.Other a)) (IsAnswer a) h
    (λ none same. nothing-answer a same) (λ field some found. found.0))

members-faults : (s : Setting) (number : ℕ) (fs : List FoundMember) → AllFrom (IsFoundNumber s) number fs → AreFaults (faults_of fs)
members-faults s number [] h = All-nil IsFaultMessage
members-faults s number (f ∷ fs) h = All-append IsFaultMessage (fault_of f) (faults_of fs) (member-faults s number f h.0) (members-faults s (number + 1) fs h.1)

of-faults : (s : Setting) (first end : ℕ) (faults : List Message) → AreFaultsOf s first end faults → AreFaults faults
of-faults s first end faults h =
    let P : List Message → Type 0 = λ ms. AreFaults ms in
    subst P (sym h.are) (members-faults s first h.members h.found)

behind-faults : (faults : List Message) → AreFaults faults → AreFaults (behind_first faults)
behind-faults [] all = All-nil IsFaultMessage
behind-faults (m ∷ ms) all = All-tail IsFaultMessage m ms all

none-faults : (others : List Message) → others ≡ [] → AreFaults others
none-faults others e = let P : List Message → Type 0 = λ ms. AreFaults ms in subst P (sym e) (All-nil IsFaultMessage)

others-faults : (s : Setting) (d : Option Declared) (a : Answer) (others : List Message) → AreOthers s d a others → AreFaults others
others-faults s (Some (declareds.Struct first end)) (answers.Wrong m g) others h =
    let P : List Message → Type 0 = λ ms. AreFaults ms in
    subst P (sym h.2) (behind-faults h.0 (of-faults s first end h.0 h.1))
others-faults s (Some (declareds.Struct first end)) (answers.Skipped k) others h = of-faults s first end others h
others-faults s (Some (declareds.Struct first end)) answers.Faulty others h = of-faults s first end others h
others-faults s (Some (declareds.Struct first end)) (answers.Value v) others h = none-faults others h
others-faults s (Some (declareds.Struct first end)) (answers.Named n) others h = none-faults others h
others-faults s (Some (declareds.Struct first end)) (answers.Type t) others h = none-faults others h
others-faults s (Some (declareds.Struct first end)) (answers.Bitcast t) others h = none-faults others h
others-faults s (Some (declareds.Struct first end)) (answers.Variable v) others h = none-faults others h
others-faults s (Some (declareds.Const ty value)) a others h = none-faults others h
others-faults s (Some (declareds.Override ty value)) a others h = none-faults others h
others-faults s (Some (declareds.Alias ty)) a others h = none-faults others h
others-faults s (Some (declareds.Variable v)) a others h = none-faults others h
others-faults s (Some declareds.Function) a others h = none-faults others h
others-faults s None a others h = none-faults others h

-- ---- declarations

found-faults : (s : Setting) (name : ℕ) (d : Option Declared) (a : Answer) (others : List Message) → IsDeclared s name d a → AreOthers s d a others → AreFaults s.faults
    → AreFaults (faults_with (all_added s.faults others) a)
found-faults s name (Some d) a others h k all =
    with-faults (OneBlamed s _) (all_added s.faults others) a (all_added-faults s.faults others all (others-faults s (Some d) a others k)) (declared-tells s name d a h)
found-faults s name None a others h k all =
    let P : Answer → Type 0 = λ x. AreFaults (faults_with (all_added s.faults others) x) in
    subst P (sym h) (all_added-faults s.faults others all (others-faults s None a others k))

one-faults : (s t : Setting) (number : ℕ) → IsFoundAt s number t → AreFaults s.faults → AreFaults t.faults
one-faults s t number h all =
    let P : List Message → Type 0 = λ ms. AreFaults ms in
    elim (decide_second s.source number) [
      | inl second ↦ subst P (sym (ap (λ (u : Setting). u.faults) (h.second second))) all
      | inr first ↦
          let found = h.first first in
          subst P (sym found.5) (found-faults s (name_at s.source number) (slice_get s.source.declared number) found.0 found.1 found.2 found.3 all)
    ]

pub declared-faults : (ns : List ℕ) (s t : Setting) → AreDeclared s ns t → AreFaults s.faults → AreFaults t.faults
declared-faults [] s t h all =
    let P : List Message → Type 0 = λ ms. AreFaults ms in
    subst P (sym (ap (λ (u : Setting). u.faults) h)) all
declared-faults (n ∷ ns) s t h all = declared-faults ns h.0 t h.2 (one-faults s h.0 n h.1 all)

-- ---- assertions

same-faults : (s t : Setting) → t ≡ s → AreFaults s.faults → AreFaults t.faults
same-faults s t e all =
    let P : List Message → Type 0 = λ ms. AreFaults ms in
    subst P (sym (ap (λ (u : Setting). u.faults) e)) all

fault-faults : (s t : Setting) (m : Message) → IsFaultMessage m → t ≡ with_fault s m → AreFaults s.faults → AreFaults t.faults
fault-faults s t m h e all =
    let P : List Message → Type 0 = λ ms. AreFaults ms in
    subst P (sym (ap (λ (u : Setting). u.faults) e)) (added-faults s.faults m all h)

told-faults : (s t : Setting) → IsTold s t → AreFaults s.faults → AreFaults t.faults
told-faults s t h all = fault-faults s t h.message h.fault h.told all

held-faults : (s t : Setting) (b : Bool) (a : Assertion) → MatchBool b ((a ≡ asserts.Holds) × (t ≡ s)) ((a ≡ asserts.Faulty) × IsTold s t) → AreFaults s.faults → AreFaults t.faults
held-faults s t true a h all = same-faults s t h.1 all
held-faults s t false a h all = told-faults s t h.1 all

assertion-faults : (s t : Setting) (span : Span) (x : Answer) (a : Assertion) → Tells (IsBlamed s.source (IsFaultyAt s) span) x → IsAssertion s x a t → AreFaults s.faults → AreFaults t.faults
assertion-faults s t span (answers.Value v) a f h all = held-faults s t (is_truth (value_of v.instance)) a h all
assertion-faults s t span (answers.Skipped k) a f h all = same-faults s t h.1 all
assertion-faults s t span (answers.Wrong m g) a f h all = fault-faults s t m f h.1 all
assertion-faults s t span answers.Faulty a f h all = same-faults s t h.1 all
assertion-faults s t span (answers.Type u) a f h all = told-faults s t h.1 all
assertion-faults s t span (answers.Bitcast u) a f h all = told-faults s t h.1 all
assertion-faults s t span (answers.Variable v) a f h all = told-faults s t h.1 all
assertion-faults s t span (answers.Named n) a f h all = told-faults s t h.1 all

pub asserted-faults : (s : Setting) (spans : List Span) (xs : List Assertion) (t : Setting) → AreAsserted s spans xs t → AreFaults s.faults → AreFaults t.faults
asserted-faults s [] [] t h all = same-faults s t h all
asserted-faults s (span ∷ spans) (a ∷ xs) t h all =
    asserted-faults h.0 spans xs t h.2 (assertion-faults s h.0 span h.1.0 a (found-tells s span h.1.0 h.1.1) h.1.2 all)
asserted-faults s [] (a ∷ xs) t h all = absurd h
asserted-faults s (span ∷ spans) [] t h all = absurd h

-- ---- what is told of all

all-counted : (faults : List Message) → AreFaults faults → count_by is_fault faults ≡ length faults
all-counted [] all = refl
all-counted (m ∷ ms) all =
    let here : is_fault m ≡ true = ap is_severe (All-head IsFaultMessage m ms all) in
    let more : count_by is_fault ms ≡ length ms = all-counted ms (All-tail IsFaultMessage m ms all) in
    let both : count_by is_fault (m ∷ ms) ≡ cond (is_fault m) 1 0 + count_by is_fault ms = sum_by-cons (λ x. cond (is_fault x) 1 0) m ms in
    let one : cond (is_fault m) 1 0 ≡ suc zero = ap (λ b. cond b 1 0) here in
    omega (arith, both, one, more)

-- faults that are told in what is told of all
pub record AreAmong (faults messages : List Message) : Type 0 where
  pub count : length faults ≤ count_by is_fault messages
  pub told : (m : Message) → Contains faults m → Contains messages m

pub told-among : (faults messages : List Message) → AreFaults faults → AreTold faults messages → AreAmong faults messages
told-among faults messages all h =
    let f : Message → ℕ = λ m. cond (is_fault m) 1 0 in
    let same : count_by is_fault messages ≡ count_by is_fault (faults ++ h.0) = sum_by-IsPermutation f (faults ++ h.0) messages h.2 in
    let parts : count_by is_fault (faults ++ h.0) ≡ count_by is_fault faults + count_by is_fault h.0 = sum_by-append f faults h.0 in
    record {
      count = omega (arith, same, parts, all-counted faults all);
      told = λ m c. Contains-permutation (faults ++ h.0) messages m h.2 (Contains-append_left faults h.0 m c);
    }
