-- Marks of declarations, and numbers that rise.
use Rattle.std.proofs.Common.{◌≡◌, ◌≤◌, ℕ, ◌+◌, ◌<◌, Bool, true, false, not, cond, List, [], ◌∷◌, ◌++◌, length, length-append, set, slice_get, get_or, zero, suc, inl, inr, ◌⊎◌, refl, ◌∙◌, ap, sym, subst, arith}
use Rattle.std.specs.Prelude.{count_by, ◌↔◌}
use Rattle.std.proofs.Math.Seq.{get_or-append_seam}
use Rattle.std.specs.List.{Contains}
use Rattle.std.specs.List.Sorted.{IsStrictlyIncreasing}
use Rattle.std.proofs.lemmas.Bool.{cases_eq, cases_lt}
use Rattle.std.proofs.lemmas.List.{get_or_append_left}
use Rattle.std.proofs.lemmas.List.Elements.{Contains-get_or, Contains-push, Contains-push_cases, Contains-append_left}
use Rattle.std.proofs.lemmas.List.Sums.{sum_by-set}
use Rattle.std.proofs.lemmas.Option.{slice_get_within}
use Rattle.wgsl_interface.specs.Marks.{IsMarked, is_unmarked}
use Rattle.wgsl_rules.proofs.lemmas.Slices.{slice_get-set_same, slice_get-set_other}

-- what is marked stays so
pub marked_kept : (marks : List Bool) (d n : ℕ) → IsMarked marks n → IsMarked (set marks d true) n
marked_kept marks d n h =
    elim (cases_eq n d) [
      | inl same ↦
          ap (slice_get (set marks d true)) same
          ∙ slice_get-set_same marks d true (slice_get_within marks d true (sym (ap (slice_get marks) same) ∙ h))
      | inr apart ↦ slice_get-set_other marks d n true apart ∙ h
    ]

-- what becomes marked is that one
pub marked_cases : (marks : List Bool) (d n : ℕ) → IsMarked (set marks d true) n → IsMarked marks n ⊎ (n ≡ d)
marked_cases marks d n h =
    elim (cases_eq n d) [
      | inl same ↦ inr same
      | inr apart ↦ inl (sym (slice_get-set_other marks d n true apart) ∙ h)
    ]

-- a mark that is there, or no declaration
pub set-marked : (marks : List Bool) (d : ℕ) → is_unmarked (slice_get marks d) ≡ false → set marks d true ≡ marks
set-marked [] d h = refl
set-marked (true ∷ ms) zero h = refl
set-marked (false ∷ ms) zero h = absurd (cc)
set-marked (m ∷ ms) (suc d) h = ap (λ (xs : List Bool). m ∷ xs) (set-marked ms d h)

pub unmarked_within : (marks : List Bool) (d : ℕ) → is_unmarked (slice_get marks d) ≡ true → d < length marks
unmarked_within [] d h = absurd (cc)
unmarked_within (m ∷ ms) zero h = omega arith
unmarked_within (m ∷ ms) (suc d) h = let r = unmarked_within ms d h in omega arith

pub unmarked-get_or : (marks : List Bool) (d : ℕ) → is_unmarked (slice_get marks d) ≡ true → get_or marks d true ≡ false
unmarked-get_or [] d h = absurd (cc)
unmarked-get_or (true ∷ ms) zero h = absurd (cc)
unmarked-get_or (false ∷ ms) zero h = refl
unmarked-get_or (m ∷ ms) (suc d) h = unmarked-get_or ms d h

-- one mark more
pub count-marked : (marks : List Bool) (d : ℕ) → is_unmarked (slice_get marks d) ≡ true → count_by not (set marks d true) + 1 ≡ count_by not marks
count-marked marks d h =
    let f : Bool → ℕ = λ b. cond (not b) 1 0 in
    let e : count_by not (set marks d true) + f (get_or marks d true) ≡ count_by not marks + 0 = sum_by-set f marks d true true (unmarked_within marks d h) in
    let one : f (get_or marks d true) ≡ 1 = ap f (unmarked-get_or marks d h) in
    omega (arith, e, one)

-- a number above all comes behind them
pub rising_push : (xs : List ℕ) (y : ℕ) → IsStrictlyIncreasing xs → ((n : ℕ) → Contains xs n → n < y) → IsStrictlyIncreasing (xs ++ y ∷ [])
rising_push xs y rising below k within =
    elim (cases_lt (k + 1) (length xs)) [
      | inl inside ↦ rw (get_or_append_left xs (y ∷ []) 0 k (omega arith), get_or_append_left xs (y ∷ []) 0 (k + 1) inside) (rising k inside)
      | inr past ↦
          let last : k + 1 ≡ length xs = omega (arith, length-append xs (y ∷ [])) in
          let top : get_or (xs ++ y ∷ []) (k + 1) 0 ≡ y = ap (λ j. get_or (xs ++ y ∷ []) j 0) last ∙ get_or-append_seam xs y [] 0 in
          rw (get_or_append_left xs (y ∷ []) 0 k (omega arith), top) (below (get_or xs k 0) (Contains-get_or xs k 0 (omega arith)))
    ]

-- the numbers below i that have a mark, where i has one, and where it has none
pub numbers-marked : (marks : List Bool) (xs : List ℕ) (i : ℕ) → ((n : ℕ) → Contains xs n ↔ ((n < i) × IsMarked marks n)) → IsMarked marks i → (n : ℕ) → Contains (xs ++ i ∷ []) n ↔ ((n < i + 1) × IsMarked marks n)
numbers-marked marks xs i known here n = (only, all) where
  only : Contains (xs ++ i ∷ []) n → (n < i + 1) × IsMarked marks n
  only h =
      elim (Contains-push_cases xs i n h) [
        | inl before ↦ let k = (known n).0 before in (omega arith, k.1)
        | inr same ↦ (omega arith, subst (IsMarked marks) same here)
      ]

  all : (n < i + 1) × IsMarked marks n → Contains (xs ++ i ∷ []) n
  all h =
      elim (cases_eq i n) [
        | inl same ↦ subst (Contains (xs ++ i ∷ [])) same (Contains-push xs i)
        | inr apart ↦ Contains-append_left xs (i ∷ []) n ((known n).1 (omega arith, h.1))
      ]

pub numbers-unmarked : (marks : List Bool) (xs : List ℕ) (i : ℕ) → ((n : ℕ) → Contains xs n ↔ ((n < i) × IsMarked marks n)) → (IsMarked marks i → ⊥) → (n : ℕ) → Contains xs n ↔ ((n < i + 1) × IsMarked marks n)
numbers-unmarked marks xs i known none n = (only, all) where
  only : Contains xs n → (n < i + 1) × IsMarked marks n
  only h = let k = (known n).0 h in (omega arith, k.1)

  all : (n < i + 1) × IsMarked marks n → Contains xs n
  all h =
      elim (cases_eq n i) [
        | inl same ↦ absurd (none (subst (IsMarked marks) same h.1))
        | inr apart ↦ (known n).1 (omega arith, h.1)
      ]

-- and all of them
pub numbers-all : (marks : List Bool) (xs : List ℕ) (i : ℕ) → length marks ≤ i → ((n : ℕ) → Contains xs n ↔ ((n < i) × IsMarked marks n)) → (n : ℕ) → Contains xs n ↔ IsMarked marks n
numbers-all marks xs i end known n = (λ h. ((known n).0 h).1, λ m. (known n).1 (let within = slice_get_within marks n true m in omega arith, m))
