-- Declarations that have their meanings one after the other: what each is found to be stays, and so does what is told.
use Rattle.std.proofs.Common.{◌≡◌, ◌≢◌, ◌≤◌, ◌+◌, ◌<◌, ◌==◌, ◌⊎◌, inl, inr, ℕ, zero, suc, Bool, true, false, cond, not, List, [], ◌∷◌, ◌++◌, length, length-append, take, Option, Some, None, refl, sym, ap, subst, ◌∙◌, arith, eq-eqb, ne_eqb, lt-ltb, one-add}
use Rattle.std.specs.Prelude.{Contains, IsSomeAnd, nat_lt, slice_index_or, unwrap_or, if◌then◌else◌}
use Rattle.std.specs.List.{before_first, position_or_len}
use Rattle.std.proofs.lemmas.Bool.{cases_eq}
use Rattle.std.proofs.lemmas.List.Elements.{Contains-append_left, Contains-push}
use Rattle.std.proofs.lemmas.List.Sums.{sum_by-append, sum_by-cons}
use Rattle.wgsl_source.specs.Orders.{times_in}
use Rattle.wgsl_source.specs.Readings.{Outline, first_named, word_at}
use Rattle.wgsl_eval.specs.Answers.{meaning_at}
use Rattle.wgsl_eval.specs.Evaluation.{name_at}
use Rattle.wgsl_eval.specs.Evaluators.{Setting}
use Rattle.wgsl_eval.specs.Meanings.{AreDeclared, IsFoundAt, IsSecond, with_fault}
use Rattle.wgsl_eval.specs.Messages.{added, all_added, faults_with}
use Rattle.wgsl_eval.specs.declared.answer.Answer.{Answer}
use Rattle.wgsl_eval.specs.declared.answer.Answer.TheVariants as answers
use Rattle.wgsl_eval.specs.declared.message.Message.{Message}

-- ---- how often a number stands in a list

times_more : (number n : ℕ) (ns : List ℕ) → times_in number (n ∷ ns) ≡ cond (n == number) 1 0 + times_in number ns
times_more number n ns = sum_by-cons (λ k. cond (k == number) 1 0) n ns

pub times_here : (number n : ℕ) (ns : List ℕ) → n ≡ number → times_in number (n ∷ ns) ≡ 1 + times_in number ns
times_here number n ns e = times_more number n ns ∙ ap (λ b. cond b 1 0 + times_in number ns) (eq-eqb n number e)

pub times_there : (number n : ℕ) (ns : List ℕ) → n ≢ number → times_in number (n ∷ ns) ≡ times_in number ns
times_there number n ns e = times_more number n ns ∙ ap (λ b. cond b 1 0 + times_in number ns) (ne_eqb n number e) ∙ omega arith

times-append : (number : ℕ) (xs ys : List ℕ) → times_in number (xs ++ ys) ≡ times_in number xs + times_in number ys
times-append number xs ys = sum_by-append (λ k. cond (k == number) 1 0) xs ys

pub times-contains : (xs : List ℕ) (number : ℕ) → Contains xs number → 1 ≤ times_in number xs
times-contains xs number c = go xs c.0 c.1 c.2
  where
    go : (xs : List ℕ) (k : ℕ) → k < length xs → slice_index_or xs k number ≡ number → 1 ≤ times_in number xs
    go [] k h e = absurd (omega arith)
    go (x ∷ xs) zero h e = omega (arith, times_here number x xs e)
    go (x ∷ xs) (suc k) h e =
        let more : 1 ≤ times_in number xs = go xs k (let within : suc k < suc (length xs) = h in omega arith) e in
        omega (arith, times_more number x xs)

-- ---- what is told stays told

-- all of these faults are among those
pub record AreKept (before after : List Message) : Type 0 where
  pub count : length before ≤ length after
  pub told : (m : Message) → Contains before m → Contains after m

pub kept-same : (before after : List Message) → after ≡ before → AreKept before after
kept-same before after e =
    let P : List Message → Type 0 = λ xs. AreKept before xs in
    subst P (sym e) (record { count = omega arith; told = λ m c. c })

pub kept-both : (a b c : List Message) → AreKept a b → AreKept b c → AreKept a c
kept-both a b c h k = record { count = omega (arith, h.count, k.count); told = λ m x. k.told m (h.told m x) }

kept-added : (faults : List Message) (m : Message) → AreKept faults (added faults m)
kept-added faults m = go (nat_lt (length faults) 100)
  where
    go : (b : Bool) → AreKept faults (if b then faults ++ m ∷ [] else faults)
    go true = record { count = rw length-append (omega arith); told = λ x c. Contains-append_left faults (m ∷ []) x c }
    go false = kept-same faults faults refl

-- where one fault more is told
pub kept-fault : (s t : Setting) (m : Message) → t ≡ with_fault s m → AreKept s.faults t.faults
kept-fault s t m e =
    let P : List Message → Type 0 = λ fs. AreKept s.faults fs in
    subst P (sym (ap (λ (u : Setting). u.faults) e)) (kept-added s.faults m)

kept-all_added : (faults ms : List Message) → AreKept faults (all_added faults ms)
kept-all_added faults [] = kept-same faults faults refl
kept-all_added faults (m ∷ ms) =
    kept-both faults (all_added faults ms) (added (all_added faults ms) m) (kept-all_added faults ms) (kept-added (all_added faults ms) m)

kept-with : (faults : List Message) (a : Answer) → AreKept faults (faults_with faults a)
kept-with faults (answers.Wrong m g) = kept-added faults m
kept-with faults (answers.Value v) = kept-same faults faults refl
kept-with faults (answers.Named n) = kept-same faults faults refl
kept-with faults (answers.Type t) = kept-same faults faults refl
kept-with faults (answers.Bitcast t) = kept-same faults faults refl
kept-with faults (answers.Variable v) = kept-same faults faults refl
kept-with faults (answers.Skipped s) = kept-same faults faults refl
kept-with faults answers.Faulty = kept-same faults faults refl

-- a fault that is added is there, where there are fewer than 100
pub added-there : (faults : List Message) (m : Message) → length faults < 100 → Contains (added faults m) m
added-there faults m h =
    let P : Bool → Type 0 = λ b. Contains (if b then faults ++ m ∷ [] else faults) m in
    subst P (sym (lt-ltb (length faults) 100 h)) (Contains-push faults m)

-- ---- declarations

pub decide_second : (o : Outline) (number : ℕ) → IsSecond o number ⊎ ¬ IsSecond o number
decide_second o number = go (first_named o (word_at o (name_at o number)))
  where
    go : (first : Option ℕ) → IsSomeAnd first (λ n. n ≢ number) ⊎ ¬ IsSomeAnd first (λ n. n ≢ number)
    go None = inr (λ h. h)
    go (Some n) = elim (cases_eq n number) [ inl same ↦ inr (λ h. h same) | inr apart ↦ inl apart ]

kept-found : (s : Setting) (number : ℕ) (t : Setting) → IsFoundAt s number t → AreKept s.faults t.faults
kept-found s number t h =
    elim (decide_second s.source number) [
      | inl second ↦ kept-same s.faults t.faults (ap (λ (u : Setting). u.faults) (h.second second))
      | inr first ↦
          let found = h.first first in
          let P : List Message → Type 0 = λ fs. AreKept s.faults fs in
          subst P (sym found.5) (kept-both s.faults (all_added s.faults found.1) (faults_with (all_added s.faults found.1) found.0)
          (kept-all_added s.faults found.1) (kept-with (all_added s.faults found.1) found.0))
    ]

pub kept-declared : (ns : List ℕ) (s t : Setting) → AreDeclared s ns t → AreKept s.faults t.faults
kept-declared [] s t h = kept-same s.faults t.faults (ap (λ (u : Setting). u.faults) h)
kept-declared (n ∷ ns) s t h = kept-both s.faults (h.0).faults t.faults (kept-found s n h.0 h.1) (kept-declared ns h.0 t h.2)

-- as many meanings are known
pub same_count : (ns : List ℕ) (s t : Setting) → AreDeclared s ns t → length t.meanings ≡ length s.meanings
same_count [] s t h = ap (λ (u : Setting). length u.meanings) h
same_count (n ∷ ns) s t h = same_count ns h.0 t h.2 ∙ h.1.others.count

-- what stands in no place of the list keeps its meaning
pub same_meaning : (ns : List ℕ) (s t : Setting) (k : ℕ) → AreDeclared s ns t → times_in k ns ≡ 0 → meaning_at t.meanings k ≡ meaning_at s.meanings k
same_meaning [] s t k h none = ap (λ (u : Setting). meaning_at u.meanings k) h
same_meaning (n ∷ ns) s t k h none =
    elim (cases_eq n k) [
      | inl same ↦ absurd (omega (arith, times_here k n ns same, none))
      | inr apart ↦
          let fewer : times_in k ns ≡ 0 = sym (times_there k n ns apart) ∙ none in
          same_meaning ns h.0 t k h.2 fewer
          ∙ ap (λ o. unwrap_or o answers.Faulty) (h.1.others.others k (λ e. apart (sym e)))
    ]

-- ---- the turn of one of them

before-here : (number n : ℕ) (ns : List ℕ) → n ≡ number → before_first (λ k. k == number) (n ∷ ns) ≡ []
before-here number n ns e =
    ap (λ b. take (cond (not b) (1 + position_or_len (λ k. k == number) ns) 0) (n ∷ ns)) (eq-eqb n number e)

before-there : (number n : ℕ) (ns : List ℕ) → n ≢ number → before_first (λ k. k == number) (n ∷ ns) ≡ n ∷ before_first (λ k. k == number) ns
before-there number n ns e =
    ap (λ b. take (cond (not b) (1 + position_or_len (λ k. k == number) ns) 0) (n ∷ ns)) (ne_eqb n number e)
    ∙ ap (λ k. take k (n ∷ ns)) (one-add (position_or_len (λ k. k == number) ns))

-- the settings around it
pub record Turn (s : Setting) (ns : List ℕ) (t : Setting) (number : ℕ) : Type 0 where
  pub before : Setting
  pub next : Setting
  pub rest : List ℕ
  pub first : AreDeclared s (before_first (λ k. k == number) ns) before
  pub found : IsFoundAt before number next
  pub last : AreDeclared next rest t
  pub apart : times_in number rest ≡ 0
  pub order : ns ≡ before_first (λ k. k == number) ns ++ number ∷ rest

pub turn_of : (ns : List ℕ) (s t : Setting) (number : ℕ) → AreDeclared s ns t → times_in number ns ≡ 1 → Turn s ns t number
turn_of [] s t number h once = absurd (omega arith)
turn_of (n ∷ ns) s t number h once =
    elim (cases_eq n number) [
      | inl same ↦
          let none = before-here number n ns same in
          let P : List ℕ → Type 0 = λ xs. AreDeclared s xs s in
          let Q : ℕ → Type 0 = λ k. IsFoundAt s k h.0 in
          let R : List ℕ → Type 0 = λ xs. n ∷ ns ≡ xs ++ number ∷ ns in
          record {
            before = s;
            next = h.0;
            rest = ns;
            first = subst P (sym none) refl;
            found = subst Q same h.1;
            last = h.2;
            apart = omega (arith, times_here number n ns same, once);
            order = subst R (sym none) (ap (λ k. k ∷ ns) same);
          }
      | inr apart ↦
          let turn = turn_of ns h.0 t number h.2 (sym (times_there number n ns apart) ∙ once) in
          let more = before-there number n ns apart in
          let P : List ℕ → Type 0 = λ xs. AreDeclared s xs turn.before in
          let R : List ℕ → Type 0 = λ xs. n ∷ ns ≡ xs ++ number ∷ turn.rest in
          record {
            before = turn.before;
            next = turn.next;
            rest = turn.rest;
            first = subst P (sym more) (h.0, h.1, turn.first);
            found = turn.found;
            last = turn.last;
            apart = turn.apart;
            order = subst R (sym more) (ap (λ xs. n ∷ xs) turn.order);
          }
    ]

-- what has its meaning before the turn keeps it
pub meaning_kept : (ns : List ℕ) (s t : Setting) (number k : ℕ) (turn : Turn s ns t number) → times_in k ns ≤ 1 → Contains (before_first (λ n. n == number) ns) k
    → meaning_at t.meanings k ≡ meaning_at turn.before.meanings k
meaning_kept ns s t number k turn once c =
    let front = before_first (λ n. n == number) ns in
    let all : times_in k ns ≡ times_in k front + times_in k (number ∷ turn.rest) =
    ap (times_in k) turn.order ∙ times-append k front (number ∷ turn.rest) in
    same_meaning (number ∷ turn.rest) turn.before t k (turn.next, turn.found, turn.last) (omega (arith, times-contains front k c, all, once))
