-- Each declaration has one place.
use Rattle.std.proofs.Common.{◌≡◌, ◌≢◌, ℕ, ◌+◌, ◌<◌, ◌==◌, nat_lt, true, false, cond, Some, List, [], ◌∷◌, ◌++◌, length, set, slice_get, inl, inr, eq-eqb, ne_eqb, lt-ltb, le-ltb, ◌∙◌, ap, sym, arith}
use Rattle.std.proofs.lemmas.Bool.{cases_eq, cases_lt}
use Rattle.std.proofs.lemmas.List.Sums.{sum_by_push}
use Rattle.std.proofs.lemmas.Option.{slice_get_past, slice_get_within}
use Rattle.wgsl_source.specs.Orders.{times_in, places_with}
use Rattle.wgsl_source.specs.declared.places.Mark.{Mark}
use Rattle.wgsl_source.specs.declared.places.Mark.TheVariants.{New, Begun, Done}
use Rattle.wgsl_rules.proofs.lemmas.Slices.{slice_get-set_same, slice_get-set_other}

other : (order : List ℕ) (marks : List Mark) (d : ℕ) (mark : Mark) (n : ℕ) → n ≢ d → times_in n order ≡ places_with (slice_get marks n) → times_in n order ≡ places_with (slice_get (set marks d mark) n)
other order marks d mark n apart once = once ∙ ap places_with (sym (slice_get-set_other marks d n mark apart))

-- a mark that gives no place
pub begun-once : (order : List ℕ) (marks : List Mark) (d : ℕ) → ((n : ℕ) → times_in n order ≡ places_with (slice_get marks n)) → slice_get marks d ≡ Some New → (n : ℕ) → times_in n order ≡ places_with (slice_get (set marks d Begun) n)
begun-once order marks d once new n =
    elim (cases_eq n d) [
      | inl same ↦
          once n
          ∙ ap (λ k. places_with (slice_get marks k)) same
          ∙ ap places_with new
          ∙ sym (ap (λ k. places_with (slice_get (set marks d Begun) k)) same ∙ ap places_with (slice_get-set_same marks d Begun (slice_get_within marks d New new)))
      | inr apart ↦ other order marks d Begun n apart (once n)
    ]

pushed : (n d : ℕ) (order : List ℕ) → times_in n (order ++ d ∷ []) ≡ times_in n order + cond (d == n) 1 0
pushed n d order = sum_by_push (λ k. cond (k == n) 1 0) order d

-- a place, and its mark
pub done-once : (order : List ℕ) (marks : List Mark) (d : ℕ) → ((n : ℕ) → times_in n order ≡ places_with (slice_get marks n)) → d < length marks → places_with (slice_get marks d) ≡ 0 → (n : ℕ) → times_in n (order ++ d ∷ []) ≡ places_with (slice_get (set marks d Done) n)
done-once order marks d once within none n =
    elim (cases_eq n d) [
      | inl same ↦
          let none_yet : times_in n order ≡ 0 = once n ∙ ap (λ k. places_with (slice_get marks k)) same ∙ none in
          let here : (d == n) ≡ true = eq-eqb d n (sym same) in
          let one : times_in n (order ++ d ∷ []) ≡ 1 = pushed n d order ∙ ap (λ b. times_in n order + cond b 1 0) here ∙ ap (λ k. k + 1) none_yet in
          one ∙ sym (ap (λ k. places_with (slice_get (set marks d Done) k)) same ∙ ap places_with (slice_get-set_same marks d Done within))
      | inr apart ↦
          let there : (d == n) ≡ false = ne_eqb d n (λ e. apart (sym e)) in
          let same : times_in n (order ++ d ∷ []) ≡ times_in n order = pushed n d order ∙ ap (λ b. times_in n order + cond b 1 0) there ∙ omega arith in
          same ∙ other order marks d Done n apart (once n)
    ]

-- all are done
pub all_done : (order : List ℕ) (marks : List Mark) (count : ℕ) → ((n : ℕ) → times_in n order ≡ places_with (slice_get marks n)) → length marks ≡ count → ((n : ℕ) → n < count → slice_get marks n ≡ Some Done) → (n : ℕ) → times_in n order ≡ cond (nat_lt n count) 1 0
all_done order marks count once same done n =
    elim (cases_lt n count) [
      | inl below ↦ once n ∙ ap places_with (done n below) ∙ sym (ap (λ b. cond b 1 0) (lt-ltb n count below))
      | inr past ↦
          once n
          ∙ ap places_with (slice_get_past marks n (omega arith))
          ∙ sym (ap (λ b. cond b 1 0) (le-ltb n count past))
    ]

-- a declaration that is done stays so where another becomes so
pub done-kept : (marks : List Mark) (d n : ℕ) → d < length marks → slice_get marks n ≡ Some Done → slice_get (set marks d Done) n ≡ Some Done
done-kept marks d n within done =
    elim (cases_eq n d) [
      | inl same ↦ ap (slice_get (set marks d Done)) same ∙ slice_get-set_same marks d Done within
      | inr apart ↦ slice_get-set_other marks d n Done apart ∙ done
    ]
