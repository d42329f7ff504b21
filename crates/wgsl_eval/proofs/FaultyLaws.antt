-- Declarations that are faulty are explained by what is told.
use Rattle.std.proofs.Common.{◌≡◌, ◌≤◌, ◌+◌, ◌<◌, ◌==◌, ◌⊎◌, inl, inr, ℕ, zero, suc, Bool, true, false, cond, List, [], ◌∷◌, ◌++◌, length, length-append, Option, Some, None, refl, sym, ap, subst, ◌∙◌, arith, lt-ltb, le-ltb, take, not, eq-eqb, ne_eqb, ◌≢◌}
use Rattle.std.specs.Prelude.{Any, Contains, MatchBool, IsSomeAnd, if◌then◌else◌, nat_lt, slice_get, slice_index_or, count_by}
use Rattle.std.specs.List.{position_or_len}
use Rattle.std.proofs.Math.ListN.{length-replicate}
use Rattle.std.proofs.lemmas.Bool.{cases_eq, cases_lt}
use Rattle.std.proofs.lemmas.List.Elements.{All-nil, Contains-append_cases}
use Rattle.std.proofs.lemmas.List.Sums.{sum_by-cons, sum_by-take-le}
use Rattle.std.proofs.lemmas.Option.{slice_get_within}
use Rattle.wgsl_rules.specs.declared.syntax.ShaderStage.{ShaderStage}
use Rattle.wgsl_values.specs.View.{value_of}
use Rattle.wgsl_source.specs.Orders.{IsOrderOf, times_in}
use Rattle.wgsl_source.specs.Readings.{Outline, first_named, steps_in, word_at}
use Rattle.wgsl_source.specs.declared.expression.Callee.TheVariants as callees
use Rattle.wgsl_source.specs.declared.expression.Span.{Span}
use Rattle.wgsl_source.specs.declared.expression.Step.{Step}
use Rattle.wgsl_source.specs.declared.expression.Step.TheVariants as steps
use Rattle.wgsl_source.specs.declared.module.Declared.{Declared}
use Rattle.wgsl_source.specs.declared.module.Declared.TheVariants as declareds
use Rattle.wgsl_eval.specs.Answers.{meaning_at, outcome_in}
use Rattle.wgsl_eval.specs.Assertions.{AreAsserted, IsAssertion, IsTold, is_truth}
use Rattle.wgsl_eval.specs.Evaluated.{AreDeclarationsWith, AreItems, IsItemAt, evaluated_at, kind_in, setting_with}
use Rattle.wgsl_eval.specs.Evaluation.{has_value_among, name_at}
use Rattle.wgsl_eval.specs.Evaluators.{Setting}
use Rattle.wgsl_eval.specs.Faulty.{IfBefore, IsBlamed, IsExplained, IsFaulty, IsFaultyAt, IsToBlame, IsToldAmong, IsFaultless, before_in, is_fault, is_severe, spans_of}
use Rattle.wgsl_eval.specs.Laws.{FaultyDeclarationsAreExplained, FaultyValuesAreExplained, IsFaultyItem, NothingIsFaultyUntold}
use Rattle.wgsl_eval.specs.Lists.{AllFrom, told_from}
use Rattle.wgsl_eval.specs.Meanings.{AreDeclared, IsDeclared, IsSecond, told}
use Rattle.wgsl_eval.specs.Messages.{AreTold, IsFaultMessage, added, all_added, faults_with}
use Rattle.wgsl_eval.specs.declared.answer.Answer.{Answer}
use Rattle.wgsl_eval.specs.declared.answer.Answer.TheVariants as answers
use Rattle.wgsl_eval.specs.declared.answer.Guard.{Guard}
use Rattle.wgsl_eval.specs.declared.answer.Skip.{Skip}
use Rattle.wgsl_eval.specs.declared.answer.Value.{Value}
use Rattle.wgsl_eval.specs.declared.assertions.Assertion.{Assertion}
use Rattle.wgsl_eval.specs.declared.assertions.Assertion.TheVariants as asserts
use Rattle.wgsl_eval.specs.declared.declarations.Declarations.{Declarations}
use Rattle.wgsl_eval.specs.declared.declarations.Item.{Item}
use Rattle.wgsl_eval.specs.declared.declarations.ItemKind.TheVariants as items
use Rattle.wgsl_eval.specs.declared.evaluation.Evaluated.{Evaluated}
use Rattle.wgsl_eval.specs.declared.evaluation.Outcome.TheVariants as outcomes
use Rattle.wgsl_eval.specs.declared.given.Given.{Given}
use Rattle.wgsl_eval.specs.declared.message.Message.{Message}
use Rattle.wgsl_eval.specs.declared.message.Severity.{Severity}
use Rattle.wgsl_eval.specs.declared.message.Severity.TheVariants as severities
use Rattle.wgsl_eval.specs.declared.settings.Settings.{Settings}
use Rattle.wgsl_eval.specs.declared.sized.SizedType.{SizedType}
use Rattle.wgsl_eval.specs.declared.variable.Variable.{Variable}
use Rattle.wgsl_eval.proofs.FaultyAnswers.{TellsValue, some_and}
use Rattle.wgsl_eval.proofs.FaultyChains.{AreKept, Turn, added-there, decide_second, kept-both, kept-declared, kept-fault, kept-same, meaning_kept, same_count, same_meaning, times-contains, turn_of}
use Rattle.wgsl_eval.proofs.FaultyDeclarations.{const-tells, declared-tells, overridden-tells}
use Rattle.wgsl_eval.proofs.FaultyRuns.{any-here, any-there}
use Rattle.wgsl_eval.proofs.FaultyMessages.{AreAmong, AreFaults, asserted-faults, declared-faults, told-among}
use Rattle.wgsl_eval.proofs.Walks.{IsLike, asserted_like, same_source}

-- ---- a declaration by itself

-- it is a fault, or one of its expressions is to blame
abbrev pub IsOwnOrBlamed : Setting → Option Declared → Answer → Type 0
IsOwnOrBlamed s d a =
    ((m : Message) × (guard : Guard) × IsFaultMessage m × (a ≡ answers.Wrong m guard)) ⊎ Any (IsBlamed s.source (IsFaultyAt s)) (spans_of s.source d)

faulty-why : (s : Setting) (name : ℕ) (d : Declared) (a : Answer) → IsDeclared s name (Some d) a → IsFaulty (told a) → IsOwnOrBlamed s (Some d) a
faulty-why s name d (answers.Wrong m guard) h f = inl (m, guard, declared-tells s name d (answers.Wrong m guard) h, refl)
faulty-why s name d (answers.Named n) h f = inr (declared-tells s name d (answers.Named n) h)
faulty-why s name d (answers.Bitcast t) h f = inr (declared-tells s name d (answers.Bitcast t) h)
faulty-why s name d answers.Faulty h f = inr (declared-tells s name d answers.Faulty h)
faulty-why s name d a h f = absurd f

-- a declaration that may have a value
abbrev pub MayHaveValue : Declared → Type 0
MayHaveValue (declareds.Const ty value) = Unit {0}
MayHaveValue (declareds.Override ty value) = Unit {0}
MayHaveValue d = ⊥

may-tells : (s : Setting) (name : ℕ) (d : Declared) (a : Answer) → MayHaveValue d → IsDeclared s name (Some d) a
    → TellsValue (Any (IsBlamed s.source (IsFaultyAt s)) (spans_of s.source (Some d))) a
may-tells s name (declareds.Const ty value) a v h = const-tells s name ty value a h
may-tells s name (declareds.Override ty value) a v h = overridden-tells s name ty value a h
may-tells s name d a v h = absurd v

outcome-why : (s : Setting) (name : ℕ) (d : Declared) (a : Answer) → MayHaveValue d → IsDeclared s name (Some d) a → outcome_in (told a) ≡ outcomes.Faulty
    → IsOwnOrBlamed s (Some d) a
outcome-why s name d (answers.Wrong m guard) v h f = inl (m, guard, may-tells s name d (answers.Wrong m guard) v h, refl)
outcome-why s name d (answers.Value w) v h f = absurd (cc)
outcome-why s name d (answers.Skipped k) v h f = absurd (cc)
outcome-why s name d (answers.Named n) v h f = inr (may-tells s name d (answers.Named n) v h)
outcome-why s name d (answers.Type t) v h f = inr (may-tells s name d (answers.Type t) v h)
outcome-why s name d (answers.Bitcast t) v h f = inr (may-tells s name d (answers.Bitcast t) v h)
outcome-why s name d (answers.Variable w) v h f = inr (may-tells s name d (answers.Variable w) v h)
outcome-why s name d answers.Faulty v h f = inr (may-tells s name d answers.Faulty v h)

-- ---- what is faulty now is faulty then

any-map : {X : Type 0} (P Q : X → Type 0) (xs : List X) → ((x : X) → P x → Q x) → Any P xs → Any Q xs
any-map P Q xs f h = (h.0, h.1, h.2, h.3, f h.1 h.4)

names-map : (o : Option ℕ) (P Q : ℕ → Type 0) → ((k : ℕ) → P k → Q k) → IsSomeAnd o P → IsSomeAnd o Q
names-map None P Q f h = h
names-map (Some k) P Q f h = f k h

to_blame-map : (o : Outline) (P Q : ℕ → Type 0) (step : Step) → ((k : ℕ) → P k → Q k) → IsToBlame o P step → IsToBlame o Q step
to_blame-map o P Q (steps.Name token) f h =
    elim h [
      | inl names ↦ inl (names-map (first_named o (word_at o token)) P Q f names)
      | inr unfilled ↦ inr unfilled
    ]
to_blame-map o P Q (steps.Call token callees.Name n) f h = names-map (first_named o (word_at o token)) P Q f h
to_blame-map o P Q (steps.Call token callees.Answer n) f h = h
to_blame-map o P Q (steps.Number token) f h = h
to_blame-map o P Q (steps.Unary op token) f h = h
to_blame-map o P Q (steps.Binary op token) f h = h
to_blame-map o P Q (steps.Template token n) f h = h
to_blame-map o P Q (steps.Member token) f h = h
to_blame-map o P Q (steps.Index token) f h = h

pub blamed-map : (o : Outline) (P Q : ℕ → Type 0) (span : Span) → ((k : ℕ) → P k → Q k) → IsBlamed o P span → IsBlamed o Q span
blamed-map o P Q span f h =
    elim h [
      | inl part ↦ inl part
      | inr step ↦ inr (any-map (IsToBlame o P) (IsToBlame o Q) (steps_in o span) (λ x. to_blame-map o P Q x f) step)
    ]

-- ---- a declaration among all

is_one : (number count : ℕ) → number < count → ◌≡◌ {A = ℕ} (if nat_lt number count then 1 else 0) 1
is_one number count h = ap (λ b. if b then 1 else 0) (lt-ltb number count h)

one_at_most : (k count : ℕ) → (if nat_lt k count then 1 else 0) ≤ 1
one_at_most k count = go (nat_lt k count)
  where
    go : (b : Bool) → (if b then 1 else 0) ≤ 1
    go true = omega arith
    go false = omega arith

within-order : (o : Outline) (number k : ℕ) → IsOrderOf o.order (length o.declared) → Contains (before_in o number) k → k < length o.declared
within-order o number k ordered c =
    elim (cases_lt k (length o.declared)) [
      | inl within ↦ within
      | inr past ↦
          let none : times_in k o.order ≡ 0 = ordered k ∙ ap (λ b. if b then 1 else 0) (le-ltb k (length o.declared) past) in
          absurd (omega (arith, times-contains (before_in o number) k c, sum_by-take-le (λ n. cond (n == k) 1 0) o.order (position_or_len (λ n. n == number) o.order), none))
    ]

module _ (o : Outline) (given : List Given) (settings : Settings) (last : Setting) (messages : List Message)
    (ordered : IsOrderOf o.order (length o.declared)) (declared : AreDeclared (setting_with o given settings) o.order last)
    (among : AreAmong last.faults messages) where
  own-told : (number : ℕ) (before next : Setting) (others : List Message) (m : Message) (guard : Guard)
      → next.faults ≡ faults_with (all_added before.faults others) (answers.Wrong m guard) → AreKept next.faults last.faults → IsToldAmong messages m
  own-told number before next others m guard e more = λ few.
      let faults = all_added before.faults others in
      let P : List Message → Type 0 = λ fs. AreKept fs last.faults in
      let later : AreKept (added faults m) last.faults = subst P e more in
      let fewer : length faults < 100 = go faults m (omega (arith, among.count, later.count, few)) in
      among.told m (later.told m (added-there faults m fewer))
    where
      by : (b : Bool) (faults : List Message) (m : Message) → length (if b then faults ++ m ∷ [] else faults) < 100 → length faults < 100
      by true faults m h = omega (arith, length-append faults (m ∷ []))
      by false faults m h = h

      go : (faults : List Message) (m : Message) → length (added faults m) < 100 → length faults < 100
      go faults m h = by (nat_lt (length faults) 100) faults m h

  -- why the declaration of the number is what it is
  pub explained : (Q : Answer → Type 0) (P : ℕ → Type 0) (number : ℕ) (d : Declared) → slice_get o.declared number ≡ Some d
      → ((s : Setting) (name : ℕ) (a : Answer) → IsDeclared s name (Some d) a → Q (told a) → IsOwnOrBlamed s (Some d) a)
      → ((k : ℕ) → k < length o.declared → IsFaultyAt last k → P k) → Q (meaning_at last.meanings number)
      → IsExplained (setting_with o given settings) P messages number
  explained Q P number d is why lead q =
      let start = setting_with o given settings in
      let within : number < length o.declared = slice_get_within o.declared number d is in
      let turn : Turn start o.order last number = turn_of o.order start last number declared (ordered number ∙ is_one number (length o.declared) within) in
      let source : turn.before.source ≡ o = same_source (before_in o number) start turn.before turn.first in
      elim (decide_second o number) [
        | inl second ↦ inl second
        | inr first ↦ inr (
            let R : Outline → Type 0 = λ p. ¬ IsSecond p number in
            let found = turn.found.first (subst R (sym source) first) in
            let a : Answer = found.0 in
            let S : Outline → Type 0 = λ p. IsDeclared turn.before (name_at p number) (slice_get p.declared number) a in
            let here : IsDeclared turn.before (name_at o number) (slice_get o.declared number) a = subst S source found.2 in
            let T : Option Declared → Type 0 = λ x. IsDeclared turn.before (name_at o number) x a in
            let known : number < length turn.before.meanings =
            let all : length turn.before.meanings ≡ length o.declared = same_count (before_in o number) start turn.before turn.first ∙ length-replicate (length o.declared) answers.Faulty in
            omega arith in
            let meaning : meaning_at last.meanings number ≡ told a = same_meaning turn.rest turn.next last number turn.last turn.apart ∙ found.4 known in
            elim (why turn.before (name_at o number) a (subst T is here) (subst Q meaning q)) [
              | inl own ↦ inl (
                  let D : Answer → Type 0 = λ x. IsDeclared turn.before (name_at o number) (slice_get o.declared number) x in
                  let W : Answer → Type 0 = λ x. turn.next.faults ≡ faults_with (all_added turn.before.faults found.1) x in (
                    own.0,
                    record { fault = own.2; before = turn.before; declared = turn.first; guard = own.1; found = subst D own.3 here },
                    own-told number turn.before turn.next found.1 own.0 own.1 (subst W own.3 found.5) (kept-declared turn.rest turn.next last turn.last),
                  ))
              | inr blamed ↦ inr (
                  let X : Outline → Type 0 = λ p. Any (IsBlamed p (IsFaultyAt turn.before)) (spans_of p (Some d)) in
                  let Y : Option Declared → Type 0 = λ x. Any (IsBlamed o (IsFaultyAt turn.before)) (spans_of o x) in
                  let times : (k : ℕ) → times_in k o.order ≤ 1 = λ k.
                  let n : ℕ = if nat_lt k (length o.declared) then 1 else 0 in
                  let e : times_in k o.order ≡ n = ordered k in
                  let once : n ≤ 1 = one_at_most k (length o.declared) in
                  omega arith in
                  any-map (IsBlamed o (IsFaultyAt turn.before)) (IsBlamed o (IfBefore o number P)) (spans_of o (slice_get o.declared number))
                  (λ span. blamed-map o (IsFaultyAt turn.before) (IfBefore o number P) span
                  (λ k faulty c. lead k (within-order o number k ordered c) (let Z : Answer → Type 0 = λ x. IsFaulty x in
                  subst Z (sym (meaning_kept o.order start last number k turn (times k) c)) faulty)))
                  (subst Y (sym is) (subst X source blamed)))
            ])
      ]

-- ---- what is told

all_from : {A : Type 0} (P : ℕ → A → Type 0) (n k : ℕ) (xs : List A) (x : A) → AllFrom P n xs → slice_get xs k ≡ Some x → P (n + k) x
all_from P n k [] x h e = absurd (cc)
all_from {A} P n zero (y ∷ ys) x h e =
    let same : y ≡ x = cc in
    let Q : A → Type 0 = λ z. P n z in
    let R : ℕ → Type 0 = λ m. P m x in
    let e : n ≡ n + zero = omega arith in
    subst R e (subst Q same h.0)
all_from P n (suc k) (y ∷ ys) x h e =
    let R : ℕ → Type 0 = λ m. P m x in
    let e' : n + 1 + k ≡ n + suc k = omega arith in
    subst R e' (all_from P (n + 1) k ys x h.1 e)

item-at : (o : Option Item) (P : Item → Type 0) → IsSomeAnd o P → (item : Item) × (o ≡ Some item) × P item
item-at None P h = absurd h
item-at (Some item) P h = (item, refl, h)

declared-at : (xs : List Declared) (k : ℕ) → k < length xs → (d : Declared) × (slice_get xs k ≡ Some d)
declared-at [] k h = absurd (omega arith)
declared-at (x ∷ xs) zero h = (x, refl)
declared-at (x ∷ xs) (suc k) h = declared-at xs k (let more : suc k < suc (length xs) = h in omega arith)

slice-at : (xs : List Item) (k : ℕ) → k < length xs → (item : Item) × (slice_get xs k ≡ Some item)
slice-at [] k h = absurd (omega arith)
slice-at (x ∷ xs) zero h = (x, refl)
slice-at (x ∷ xs) (suc k) h = slice-at xs k (let more : suc k < suc (length xs) = h in omega arith)

no-value : (d : Option Declared) (v : Value) → kind_in d (answers.Value v) ≡ items.Faulty → ⊥
no-value (Some (declareds.Struct first end)) v e = absurd (cc)
no-value d v e = absurd (cc)

no-type : (d : Option Declared) (t : SizedType) → kind_in d (answers.Type t) ≡ items.Faulty → ⊥
no-type (Some (declareds.Struct first end)) t e = absurd (cc)
no-type d t e = absurd (cc)

no-variable : (d : Option Declared) (v : Variable) → kind_in d (answers.Variable v) ≡ items.Faulty → ⊥
no-variable (Some (declareds.Struct first end)) v e = absurd (cc)
no-variable d v e = absurd (cc)

no-skipped : (d : Option Declared) (k : Skip) → kind_in d (answers.Skipped k) ≡ items.Faulty → ⊥
no-skipped (Some (declareds.Struct first end)) k e = absurd (cc)
no-skipped d k e = absurd (cc)

is-named : (d : Option Declared) (n : ℕ) → kind_in d (answers.Named n) ≡ items.Faulty
is-named (Some (declareds.Struct first end)) n = refl
is-named d n = refl

is-bitcast : (d : Option Declared) (t : SizedType) → kind_in d (answers.Bitcast t) ≡ items.Faulty
is-bitcast (Some (declareds.Struct first end)) t = refl
is-bitcast d t = refl

is-wrong : (d : Option Declared) (m : Message) (g : Guard) → kind_in d (answers.Wrong m g) ≡ items.Faulty
is-wrong (Some (declareds.Struct first end)) m g = refl
is-wrong d m g = refl

is-faulty : (d : Option Declared) → kind_in d answers.Faulty ≡ items.Faulty
is-faulty (Some (declareds.Struct first end)) = refl
is-faulty d = refl

-- a declaration is told to be faulty where it was found to be so
kind-faulty : (d : Option Declared) (a : Answer) → kind_in d a ≡ items.Faulty → IsFaulty a
kind-faulty d (answers.Value v) e = no-value d v e
kind-faulty d (answers.Type t) e = no-type d t e
kind-faulty d (answers.Variable v) e = no-variable d v e
kind-faulty d (answers.Skipped k) e = no-skipped d k e
kind-faulty d a e = tt

faulty-kind : (d : Option Declared) (a : Answer) → IsFaulty a → kind_in d a ≡ items.Faulty
faulty-kind d (answers.Named n) f = is-named d n
faulty-kind d (answers.Bitcast t) f = is-bitcast d t
faulty-kind d (answers.Wrong m g) f = is-wrong d m g
faulty-kind d answers.Faulty f = is-faulty d
faulty-kind d a f = absurd f

-- ---- declarations

same_sources : (o : Outline) (given : List Given) (settings : Settings) (ns : List ℕ) (last : Setting) → AreDeclared (setting_with o given settings) ns last → last.source ≡ o
same_sources o given settings ns last h = same_source ns (setting_with o given settings) last h

-- what is known of an item
faulty-item : (s : Setting) (is : List Item) (k : ℕ) → AreItems s is → IsSomeAnd (slice_get is k) (λ item. item.kind ≡ items.Faulty) → IsFaultyAt s k
faulty-item s is k h f =
    let it = item-at (slice_get is k) (λ item. item.kind ≡ items.Faulty) f in
    let P : ℕ → Type 0 = λ n. IsItemAt s n it.0 in
    let e : 0 + k ≡ k = omega arith in
    let item : IsItemAt s k it.0 = subst P e (all_from (IsItemAt s) 0 k is it.0 h.1 it.1) in
    kind-faulty (slice_get s.source.declared k) (meaning_at s.meanings k) (sym item.kind ∙ it.2)

item-faulty : (s : Setting) (is : List Item) (k : ℕ) → AreItems s is → k < length is → IsFaultyAt s k → IsSomeAnd (slice_get is k) (λ item. item.kind ≡ items.Faulty)
item-faulty s is k h within f =
    let it = slice-at is k within in
    let P : ℕ → Type 0 = λ n. IsItemAt s n it.0 in
    let e : 0 + k ≡ k = omega arith in
    let item : IsItemAt s k it.0 = subst P e (all_from (IsItemAt s) 0 k is it.0 h.1 it.1) in
    some_and (slice_get is k) (λ x. x.kind ≡ items.Faulty) it.0 it.1 (item.kind ∙ faulty-kind (slice_get s.source.declared k) (meaning_at s.meanings k) f)

item-within : (o : Outline) (given : List Given) (settings : Settings) (d : Declarations) (number : ℕ) → AreDeclarationsWith o given settings d → IsFaultyItem d number → number < length o.declared
item-within o given settings d number h faulty =
    let source : h.after.source ≡ o = same_sources o given settings o.order h.after h.declared in
    let it = item-at (slice_get d.items.items number) (λ item. item.kind ≡ items.Faulty) faulty in
    let count : length d.items.items ≡ length o.declared = h.items.0 ∙ ap (λ (p : Outline). length p.declared) source in
    omega (arith, slice_get_within d.items.items number it.0 it.1, count)

declared-among : (o : Outline) (given : List Given) (settings : Settings) (last : Setting) (messages : List Message) → AreDeclared (setting_with o given settings) o.order last
    → AreTold last.faults messages → AreAmong last.faults messages
declared-among o given settings last messages h told =
    told-among last.faults messages (declared-faults o.order (setting_with o given settings) last h (All-nil IsFaultMessage)) told

-- the law of declarations
pub declarations-explained : FaultyDeclarationsAreExplained
declarations-explained o given settings d ordered h number faulty =
    let source : h.after.source ≡ o = same_sources o given settings o.order h.after h.declared in
    let count : length d.items.items ≡ length o.declared = h.items.0 ∙ ap (λ (p : Outline). length p.declared) source in
    let within : number < length o.declared = item-within o given settings d number h faulty in
    let declared = declared-at o.declared number within in
    explained o given settings h.after d.messages.items ordered h.declared (declared-among o given settings h.after d.messages.items h.declared h.messages)
    IsFaulty (IsFaultyItem d) number declared.0 declared.1
    (λ s name a is f. faulty-why s name declared.0 a is f)
    (λ k below f. item-faulty h.after d.items.items k h.items (omega (arith, count)) f)
    (faulty-item h.after d.items.items number h.items faulty)

-- ---- values

-- what is told of is told of one in the list
from-told : {A D : Type 0} (p : ℕ → D → Bool) (f : ℕ → A) (n : ℕ) (ds : List D) (v : A) → Contains (told_from p f n ds) v
    → (k : ℕ) × (d : D) × (slice_get ds k ≡ Some d) × (p (n + k) d ≡ true) × (f (n + k) ≡ v)
from-told p f n [] v c = let within : c.0 < 0 = c.1 in absurd (omega arith)
from-told {A} {D} p f n (d ∷ ds) v c =
    elim (Contains-append_cases (if p n d then f n ∷ [] else []) (told_from p f (n + 1) ds) v c) [
      | inl here ↦
          let found = first (p n d) here in
          let e : n ≡ n + zero = omega arith in
          let P : ℕ → Type 0 = λ k. p k d ≡ true in
          let Q : ℕ → Type 0 = λ k. f k ≡ v in
          (zero, d, refl, subst P e found.0, subst Q e found.1)
      | inr there ↦
          let more = from-told p f (n + 1) ds v there in
          let e : n + 1 + more.0 ≡ n + suc more.0 = omega arith in
          let P : ℕ → Type 0 = λ k. p k more.1 ≡ true in
          let Q : ℕ → Type 0 = λ k. f k ≡ v in
          (suc more.0, more.1, more.2, subst P e more.3, subst Q e more.4)
    ]
  where
    alone : (x : A) (k : ℕ) → k < length (x ∷ []) → slice_index_or (x ∷ []) k v ≡ v → x ≡ v
    alone x zero h e = e
    alone x (suc k) h e = absurd (let past : suc k < 1 = h in omega arith)

    first : (b : Bool) → Contains (if b then f n ∷ [] else []) v → (b ≡ true) × (f n ≡ v)
    first true c = (refl, alone (f n) c.0 c.1 c.2)
    first false c = absurd (let within : c.0 < 0 = c.1 in omega arith)

may_have-value : (o : Outline) (given : List Given) (stage : ShaderStage) (number : ℕ) (d : Declared) → has_value_among o given stage number d ≡ true → MayHaveValue d
may_have-value o given stage number (declareds.Const ty value) e = tt
may_have-value o given stage number (declareds.Override ty value) e = tt
may_have-value o given stage number d e = absurd (cc)

kept-held : (s t : Setting) (b : Bool) (a : Assertion) → MatchBool b ((a ≡ asserts.Holds) × (t ≡ s)) ((a ≡ asserts.Faulty) × IsTold s t) → AreKept s.faults t.faults
kept-held s t true a h = kept-same s.faults t.faults (ap (λ (u : Setting). u.faults) h.1)
kept-held s t false a h = kept-fault s t h.1.message h.1.told

kept-assertion : (s t : Setting) (x : Answer) (a : Assertion) → IsAssertion s x a t → AreKept s.faults t.faults
kept-assertion s t (answers.Value v) a h = kept-held s t (is_truth (value_of v.instance)) a h
kept-assertion s t (answers.Skipped k) a h = kept-same s.faults t.faults (ap (λ (u : Setting). u.faults) h.1)
kept-assertion s t (answers.Wrong m g) a h = kept-fault s t m h.1
kept-assertion s t answers.Faulty a h = kept-same s.faults t.faults (ap (λ (u : Setting). u.faults) h.1)
kept-assertion s t (answers.Type u) a h = kept-fault s t h.1.message h.1.told
kept-assertion s t (answers.Bitcast u) a h = kept-fault s t h.1.message h.1.told
kept-assertion s t (answers.Variable v) a h = kept-fault s t h.1.message h.1.told
kept-assertion s t (answers.Named n) a h = kept-fault s t h.1.message h.1.told

pub kept-asserted : (s : Setting) (spans : List Span) (xs : List Assertion) (t : Setting) → AreAsserted s spans xs t → AreKept s.faults t.faults
kept-asserted s [] [] t h = kept-same s.faults t.faults (ap (λ (u : Setting). u.faults) h)
kept-asserted s (span ∷ spans) (a ∷ xs) t h =
    kept-both s.faults (h.0).faults t.faults (kept-assertion s h.0 h.1.0 a h.1.2) (kept-asserted h.0 spans xs t h.2)
kept-asserted s [] (a ∷ xs) t h = absurd h
kept-asserted s (span ∷ spans) [] t h = absurd h

among-kept : (before faults messages : List Message) → AreKept before faults → AreAmong faults messages → AreAmong before messages
among-kept before faults messages h k = record { count = omega (arith, h.count, k.count); told = λ m c. k.told m (h.told m c) }

-- the law of values
pub values-explained : FaultyValuesAreExplained
values-explained o given settings e ordered h v told faulty =
    let like : IsLike h.after h.last = asserted_like h.after o.asserts e.asserts.items h.last h.asserts in
    let meanings : h.last.meanings ≡ h.after.meanings = ap (λ (s : Setting). s.meanings) like in
    let source : h.last.source ≡ o = ap (λ (s : Setting). s.source) like ∙ same_sources o given settings o.order h.after h.declared in
    let P : List Evaluated → Type 0 = λ vs. Contains vs v in
    let found = from-told (has_value_among h.last.source h.last.given h.last.stage) (evaluated_at h.last) 0 o.declared v (subst P h.values told) in
    let number : ℕ = found.0 in
    let same : 0 + number ≡ number = omega arith in
    let Q : ℕ → Type 0 = λ k. evaluated_at h.last k ≡ v in
    let is : evaluated_at h.last number ≡ v = subst Q same found.4 in
    let R : ℕ → Type 0 = λ k. has_value_among h.last.source h.last.given h.last.stage k found.1 ≡ true in
    let may : MayHaveValue found.1 = may_have-value h.last.source h.last.given h.last.stage number found.1 (subst R same found.3) in
    let outcome : outcome_in (meaning_at h.after.meanings number) ≡ outcomes.Faulty =
    ap (λ ms. outcome_in (meaning_at ms number)) (sym meanings) ∙ ap (λ (x : Evaluated). x.outcome) is ∙ faulty in
    let are : AreFaults h.last.faults =
    asserted-faults h.after o.asserts e.asserts.items h.last h.asserts (declared-faults o.order (setting_with o given settings) h.after h.declared (All-nil IsFaultMessage)) in
    let among : AreAmong h.last.faults e.messages.items = told-among h.last.faults e.messages.items are h.messages in
    let S : List Answer → ℕ → Type 0 = λ ms k. IsFaulty (meaning_at ms k) in (
      number,
      sym (ap (λ (x : Evaluated). x.token) is) ∙ ap (λ p. name_at p number) source,
      explained o given settings h.after e.messages.items ordered h.declared
          (among-kept h.after.faults h.last.faults e.messages.items (kept-asserted h.after o.asserts e.asserts.items h.last h.asserts) among)
          (λ a. outcome_in a ≡ outcomes.Faulty) (IsFaultyAt h.last) number found.1 found.2
          (λ s name a is f. outcome-why s name found.1 a may is f)
          (λ k below f. let T : List Answer → Type 0 = λ ms. S ms k in subst T (sym meanings) f)
          outcome,
    )

-- ---- nothing is faulty untold

-- the place of a number that stands in the front of a list
place-front : (xs : List ℕ) (count k : ℕ) → Contains (take count xs) k → position_or_len (λ n. n == k) xs < count
place-front xs count k c = go xs count c.0 c.1 c.2
  where
    here : (x : ℕ) (xs : List ℕ) → x ≡ k → position_or_len (λ n. n == k) (x ∷ xs) ≡ zero
    here x xs e = ap (λ b. cond (not b) (1 + position_or_len (λ n. n == k) xs) 0) (eq-eqb x k e)

    there : (x : ℕ) (xs : List ℕ) → x ≢ k → position_or_len (λ n. n == k) (x ∷ xs) ≡ 1 + position_or_len (λ n. n == k) xs
    there x xs e = ap (λ b. cond (not b) (1 + position_or_len (λ n. n == k) xs) 0) (ne_eqb x k e)

    go : (xs : List ℕ) (count at : ℕ) → at < length (take count xs) → slice_index_or (take count xs) at k ≡ k → position_or_len (λ n. n == k) xs < count
    go xs zero at within e = absurd (omega arith)
    go [] (suc count) at within e = absurd (omega arith)
    go (x ∷ xs) (suc count) zero within e = omega (arith, here x xs e)
    go (x ∷ xs) (suc count) (suc at) within e =
        elim (cases_eq x k) [
          | inl same ↦ omega (arith, here x xs same)
          | inr apart ↦ omega (arith, there x xs apart, go xs count at (let more : suc at < suc (length (take count xs)) = within in omega arith) e)
        ]

-- no fault is counted where there is none
none-counted : (messages : List Message) → ¬ Any IsFaultMessage messages → count_by is_fault messages ≡ zero
none-counted [] none = refl
none-counted (m ∷ ms) none =
    let more : count_by is_fault ms ≡ zero = none-counted ms (λ there. none (any-there IsFaultMessage m ms there)) in
    let parts : count_by is_fault (m ∷ ms) ≡ cond (is_fault m) 1 0 + count_by is_fault ms = sum_by-cons (λ x. cond (is_fault x) 1 0) m ms in
    omega (arith, parts, more, by m.severity refl)
  where
    by : (x : Severity) → m.severity ≡ x → cond (is_severe x) 1 0 ≡ zero
    by severities.Fault e = absurd (none (any-here IsFaultMessage m ms e))
    by severities.Warning e = refl
    by severities.Note e = refl

-- by the place in the order
none-faulty : (o : Outline) (given : List Given) (settings : Settings) (d : Declarations) → IsOrderOf o.order (length o.declared) → AreDeclarationsWith o given settings d
    → IsFaultless o → ¬ Any IsFaultMessage d.messages.items → (bound number : ℕ) → position_or_len (λ n. n == number) o.order < bound → ¬ IsFaultyItem d number
none-faulty o given settings d ordered h formed none zero number below = λ faulty. absurd (omega arith)
none-faulty o given settings d ordered h formed none (suc bound) number below = λ faulty.
    let well = formed number (item-within o given settings d number h faulty) in
    elim (declarations-explained o given settings d ordered h number faulty) [
      | inl second ↦ well.0 second
      | inr other ↦ elim other [
        | inl own ↦
            let few : count_by is_fault d.messages.items < 100 = omega (arith, none-counted d.messages.items none) in
            let told = own.2 few in
            none (told.0, own.0, told.1, told.2, own.1.fault)
        | inr blamed ↦ well.1 (any-map (IsBlamed o (IfBefore o number (IsFaultyItem d))) (IsBlamed o (λ k. ¬ Contains (before_in o number) k)) (spans_of o (slice_get o.declared number))
            (λ span. blamed-map o (IfBefore o number (IsFaultyItem d)) (λ k. ¬ Contains (before_in o number) k) span
            (λ k before c. none-faulty o given settings d ordered h formed none bound k
            (let first : position_or_len (λ n. n == k) o.order < position_or_len (λ n. n == number) o.order =
            place-front o.order (position_or_len (λ n. n == number) o.order) k c in omega arith)
            (before c)))
            blamed)
      ]
    ]

pub nothing-untold : NothingIsFaultyUntold
nothing-untold o given settings d ordered h formed none number =
    none-faulty o given settings d ordered h formed none (suc (position_or_len (λ n. n == number) o.order)) number (omega arith)
