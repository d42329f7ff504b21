-- A search finds what is reached.
use Rattle.std.proofs.Common.{◌≡◌, ℕ, ◌+◌, ◌<◌, Bool, true, false, not, cond, zero, suc, List, [], ◌∷◌, ◌++◌, length, set, replicate, slice_get, get_or, inl, inr, ◌⊎◌, refl, ◌∙◌, ap, sym, subst, arith}
use Rattle.std.specs.Prelude.{count_by, ◌↔◌}
use Rattle.std.specs.List.{Contains}
use Rattle.std.proofs.lemmas.Bool.{cases_lt}
use Rattle.std.proofs.lemmas.List.{get_or_past, length-set, length-append, length-replicate}
use Rattle.std.proofs.lemmas.List.Elements.{Contains-push, Contains-push_cases, Contains-append_left, Contains-append_right}
use Rattle.std.proofs.lemmas.Option.{slice_get_within}
use Rattle.wgsl_interface.specs.Marks.{IsMarked, is_unmarked, marked, pending_after}
use Rattle.wgsl_interface.specs.Reach.{Names, Reaches, itself, named}
use Rattle.wgsl_interface.proofs.Marks.{marked_kept, marked_cases, set-marked, unmarked_within, count-marked}
use Rattle.wgsl_rules.proofs.lemmas.Slices.{slice_get-set_same}

-- what is known while a search goes on
pub record Searches (uses : List (List ℕ)) (from : ℕ) (marks : List Bool) (pending : List ℕ) : Type 0 where
  pub same : length marks ≡ length uses
  pub sound : (n : ℕ) → IsMarked marks n → Reaches uses from n
  pub waiting : (n : ℕ) → Contains pending n → IsMarked marks n
  pub closed : (one other : ℕ) → IsMarked marks one → Names uses one other → other < length uses → IsMarked marks other ⊎ Contains pending one

-- nothing is in an empty list
pub none_in : {X : Type 0} (x : X) → Contains [] x → ⊥
none_in x h = omega (arith, h.1)

-- the first, or one behind it
pub in_front : (x : ℕ) (xs : List ℕ) → Contains (x ∷ xs) x
in_front x xs = (0, omega arith, refl)

pub behind : (x : ℕ) (xs : List ℕ) (y : ℕ) → Contains xs y → Contains (x ∷ xs) y
behind x xs y h = Contains-append_right (x ∷ []) xs y h

pub front_cases : (x : ℕ) (xs : List ℕ) (y : ℕ) → Contains (x ∷ xs) y → (x ≡ y) ⊎ Contains xs y
front_cases x xs y (zero, h, e) = inl e
front_cases x xs y (suc k, h, e) = inr (k, omega arith, e)

-- one that is reached is marked
reaches_one : (uses : List (List ℕ)) (from : ℕ) (marks : List Bool) (pending : List ℕ) (d : ℕ) → Searches uses from marks pending → Reaches uses from d → (b : Bool) → b ≡ is_unmarked (slice_get marks d) → Searches uses from (set marks d true) (cond b (pending ++ d ∷ []) pending)
reaches_one uses from marks pending d s r false e =
    let P = λ (ms : List Bool). Searches uses from ms pending in
    subst P (sym (set-marked marks d (sym e))) s
reaches_one uses from marks pending d s r true e = record {
  same = length-set marks d true ∙ s.same;
  sound = λ n h. elim (marked_cases marks d n h) [ inl before ↦ s.sound n before | inr same ↦ subst (Reaches uses from) (sym same) r ];
  waiting = λ n h.
      elim (Contains-push_cases pending d n h) [
        | inl before ↦ marked_kept marks d n (s.waiting n before)
        | inr same ↦ subst (IsMarked (set marks d true)) same (slice_get-set_same marks d true (unmarked_within marks d (sym e)))
      ];
  closed = λ one other m names below.
      elim (marked_cases marks d one m) [
        | inl before ↦
            elim (s.closed one other before names below) [
              | inl found ↦ inl (marked_kept marks d other found)
              | inr waits ↦ inr (Contains-append_left pending (d ∷ []) one waits)
            ]
        | inr same ↦ inr (subst (Contains (pending ++ d ∷ [])) (sym same) (Contains-push pending d))
      ];
}

-- all of these are
pub reaches_all : (uses : List (List ℕ)) (from : ℕ) (marks : List Bool) (pending ns : List ℕ) → Searches uses from marks pending → ((n : ℕ) → Contains ns n → Reaches uses from n) → Searches uses from (marked marks ns) (pending_after marks pending ns)
reaches_all uses from marks pending [] s r = s
reaches_all uses from marks pending (n ∷ ns) s r =
    reaches_all uses from (set marks n true) (cond (is_unmarked (slice_get marks n)) (pending ++ n ∷ []) pending) ns (reaches_one uses from marks pending n s (r n (in_front n ns)) (is_unmarked (slice_get marks n)) refl)
    (λ m h. r m (behind n ns m h))

all_kept : (marks : List Bool) (ns : List ℕ) (n : ℕ) → IsMarked marks n → IsMarked (marked marks ns) n
all_kept marks [] n h = h
all_kept marks (m ∷ ns) n h = all_kept (set marks m true) ns n (marked_kept marks m n h)

-- and all of them that are declarations have a mark
pub all_marked : (marks : List Bool) (ns : List ℕ) (n : ℕ) → Contains ns n → n < length marks → IsMarked (marked marks ns) n
all_marked marks [] n h within = absurd (none_in n h)
all_marked marks (m ∷ ns) n h within =
    elim (front_cases m ns n h) [
      | inl same ↦ all_kept (set marks m true) ns n (subst (IsMarked (set marks m true)) same (slice_get-set_same marks m true (rw same within)))
      | inr later ↦ all_marked (set marks m true) ns n later (rw (length-set marks m true) within)
    ]

-- those that wait and those that have no mark are as many as before
one_left : (marks : List Bool) (pending : List ℕ) (d : ℕ) (b : Bool) → b ≡ is_unmarked (slice_get marks d) → length (cond b (pending ++ d ∷ []) pending) + count_by not (set marks d true) ≡ length pending + count_by not marks
one_left marks pending d false e = ap (λ (ms : List Bool). length pending + count_by not ms) (set-marked marks d (sym e))
one_left marks pending d true e = omega (arith, length-append pending (d ∷ []), count-marked marks d (sym e))

pub all_left : (marks : List Bool) (pending ns : List ℕ) → length (pending_after marks pending ns) + count_by not (marked marks ns) ≡ length pending + count_by not marks
all_left marks pending [] = refl
all_left marks pending (n ∷ ns) =
    all_left (set marks n true) (cond (is_unmarked (slice_get marks n)) (pending ++ n ∷ []) pending) ns
    ∙ one_left marks pending n (is_unmarked (slice_get marks n)) refl

-- what waits in front stays there
front-cond : (b : Bool) (d : ℕ) (xs ys : List ℕ) → cond b (d ∷ xs) (d ∷ ys) ≡ d ∷ cond b xs ys
front-cond true d xs ys = refl
front-cond false d xs ys = refl

pub front_stays : (marks : List Bool) (d : ℕ) (pending ns : List ℕ) → pending_after marks (d ∷ pending) ns ≡ d ∷ pending_after marks pending ns
front_stays marks d pending [] = refl
front_stays marks d pending (n ∷ ns) =
    let b : Bool = is_unmarked (slice_get marks n) in
    ap (λ (ps : List ℕ). pending_after (set marks n true) ps ns) (front-cond b d (pending ++ n ∷ []) pending)
    ∙ front_stays (set marks n true) d (cond b (pending ++ n ∷ []) pending) ns

-- from the last that waits to the front
to_front : (uses : List (List ℕ)) (from : ℕ) (marks : List Bool) (pending : List ℕ) (d : ℕ) → Searches uses from marks (pending ++ d ∷ []) → Searches uses from marks (d ∷ pending)
to_front uses from marks pending d s = record {
  same = s.same;
  sound = s.sound;
  waiting = λ n h.
      elim (front_cases d pending n h) [
        | inl same ↦ subst (IsMarked marks) same (s.waiting d (Contains-push pending d))
        | inr later ↦ s.waiting n (Contains-append_left pending (d ∷ []) n later)
      ];
  closed = λ one other m names below.
      elim (s.closed one other m names below) [
        | inl found ↦ inl found
        | inr waits ↦
            inr (elim (Contains-push_cases pending d one waits) [
              | inl before ↦ behind d pending one before
              | inr same ↦ subst (Contains (d ∷ pending)) same (in_front d pending)
            ])
      ];
}

-- one waits no more, since all that it names have marks
looked_at : (uses : List (List ℕ)) (from : ℕ) (marks : List Bool) (pending : List ℕ) (d : ℕ) → Searches uses from marks (d ∷ pending) → ((n : ℕ) → Names uses d n → n < length uses → IsMarked marks n) → Searches uses from marks pending
looked_at uses from marks pending d s all = record {
  same = s.same;
  sound = s.sound;
  waiting = λ n h. s.waiting n (behind d pending n h);
  closed = λ one other m names below.
      elim (s.closed one other m names below) [
        | inl found ↦ inl found
        | inr waits ↦
            elim (front_cases d pending one waits) [
              | inl same ↦ inl (all other (subst (λ (k : ℕ). Names uses k other) (sym same) names) below)
              | inr later ↦ inr later
            ]
      ];
}

-- a turn of the search
pub searches_on : (uses : List (List ℕ)) (from : ℕ) (marks : List Bool) (all pending : List ℕ) (d : ℕ) → all ≡ pending ++ d ∷ [] → Searches uses from marks all → Searches uses from (marked marks (get_or uses d [])) (pending_after marks pending (get_or uses d []))
searches_on uses from marks all pending d last s =
    let ns : List ℕ = get_or uses d [] in
    let before = to_front uses from marks pending d (subst (λ (ps : List ℕ). Searches uses from marks ps) last s) in
    let here : Reaches uses from d = before.sound d (before.waiting d (in_front d pending)) in
    let after = reaches_all uses from marks (d ∷ pending) ns before (λ n h. named here h) in
    let P = λ (ps : List ℕ). Searches uses from (marked marks ns) ps in
    looked_at uses from (marked marks ns) (pending_after marks pending ns) d (subst P (front_stays marks d pending ns) after) (λ n h below. all_marked marks ns n h (rw s.same below))

-- what is reached stays so in it
pub start_kept : (marks : List Bool) (ns : List ℕ) (count from : ℕ) → (from < count → IsMarked marks from) → from < count → IsMarked (marked marks ns) from
start_kept marks ns count from start below = all_kept marks ns from (start below)

-- the last that waits is a declaration
pub last_within : (uses : List (List ℕ)) (from count : ℕ) (marks : List Bool) (all pending : List ℕ) (d : ℕ) → length uses ≡ count → all ≡ pending ++ d ∷ [] → Searches uses from marks all → d < count
last_within uses from count marks all pending d same last s =
    let waits : Contains all d = subst (λ (ps : List ℕ). Contains ps d) (sym last) (Contains-push pending d) in
    subst (λ (k : ℕ). d < k) (s.same ∙ same) (slice_get_within marks d true (s.waiting d waits))

-- at first nothing has a mark
no_mark : (count n : ℕ) → IsMarked (replicate count false) n → ⊥
no_mark zero n h = cc
no_mark (suc count) zero h = cc
no_mark (suc count) (suc n) h = no_mark count n h

pub searches_first : (uses : List (List ℕ)) (from count : ℕ) → count ≡ length uses → Searches uses from (marked (replicate count false) (from ∷ [])) (pending_after (replicate count false) [] (from ∷ []))
searches_first uses from count same =
    let marks : List Bool = replicate count false in
    let nothing : Searches uses from marks [] = record {
      same = length-replicate count false ∙ same;
      sound = λ n h. absurd (no_mark count n h);
      waiting = λ n h. absurd (none_in n h);
      closed = λ one other m names below. absurd (no_mark count one m);
    } in
    reaches_all uses from marks [] (from ∷ []) nothing (λ n h. elim (front_cases from [] n h) [ inl same ↦ subst (Reaches uses from) same itself | inr later ↦ absurd (none_in n later) ])

pub start_first : (count from : ℕ) → from < count → IsMarked (marked (replicate count false) (from ∷ [])) from
start_first count from below = all_marked (replicate count false) (from ∷ []) from (in_front from []) (rw (length-replicate count false) below)

-- at last all that is reached has a mark
names_within : (uses : List (List ℕ)) (one other : ℕ) → Names uses one other → one < length uses
names_within uses one other names =
    elim (cases_lt one (length uses)) [
      | inl below ↦ below
      | inr past ↦ absurd (none_in other (subst (λ (ns : List ℕ). Contains ns other) (get_or_past uses one [] past) names))
    ]

all_reached : (uses : List (List ℕ)) (from : ℕ) (marks : List Bool) → Searches uses from marks [] → (from < length uses → IsMarked marks from) → {n : ℕ} → Reaches uses from n → n < length uses → IsMarked marks n
all_reached uses from marks s start itself below = start below
all_reached uses from marks s start (named {one} {other} r names) below =
    elim (s.closed one other (all_reached uses from marks s start r (names_within uses one other names)) names below) [
      | inl found ↦ found
      | inr waits ↦ absurd (none_in one waits)
    ]

-- and so the numbers that have a mark are those that are reached
pub numbers-reached : (uses : List (List ℕ)) (from count : ℕ) (marks : List Bool) (numbers : List ℕ) → count ≡ length uses → Searches uses from marks [] → (from < count → IsMarked marks from) → ((n : ℕ) → Contains numbers n ↔ IsMarked marks n) → (n : ℕ) → Contains numbers n ↔ ((n < count) × Reaches uses from n)
numbers-reached uses from count marks numbers same s start known n = (only, all) where
  only : Contains numbers n → (n < count) × Reaches uses from n
  only h =
      let m = (known n).0 h in
      (subst (λ (k : ℕ). n < k) (s.same ∙ sym same) (slice_get_within marks n true m), s.sound n m)

  all : (n < count) × Reaches uses from n → Contains numbers n
  all h = (known n).1 (all_reached uses from marks s (λ below. start (subst (λ (k : ℕ). from < k) (sym same) below)) h.1 (subst (λ (k : ℕ). n < k) same h.0))
