-- The last of the answers, one after the other.
use Rattle.std.proofs.Common.{◌≡◌, ◌∙◌, ℕ, zero, suc, ◌+◌, ◌-◌, List, [], ◌∷◌, ◌++◌, length, drop, reverse, ap, arith}
use Rattle.std.proofs.lemmas.Grind.{common_steps}
use Rattle.std.proofs.lemmas.List.{reverse-append}
use Rattle.std.proofs.lemmas.Option.{unwrap_or-slice_get}
use Rattle.wgsl_eval.specs.Answers.{meaning_at}
use Rattle.wgsl_eval.specs.Given.{below, top}
use Rattle.wgsl_eval.specs.declared.answer.Answer.{Answer}
use Rattle.wgsl_eval.specs.declared.answer.Answer.TheVariants as answers

-- ---- the last of those in another order is the first

pub top_pushed : (x : Answer) (xs : List Answer) → top (xs ++ x ∷ []) ≡ x
top_pushed x xs = unwrap_or-slice_get (xs ++ x ∷ []) (length (xs ++ x ∷ []) - 1) answers.Faulty ∙ grind (arith, common_steps)

pub below_pushed : (x : Answer) (xs : List Answer) → below (xs ++ x ∷ []) ≡ xs
below_pushed x xs = grind (arith, common_steps)

pub top_dropped : (ms : List Answer) (i : ℕ) → top (reverse (drop i ms)) ≡ meaning_at ms i
top_dropped [] i = grind (arith, common_steps)
top_dropped (m ∷ ms) zero = ap top (reverse-append (m ∷ []) ms) ∙ top_pushed m (reverse ms)
top_dropped (m ∷ ms) (suc i) = top_dropped ms i

pub below_dropped : (ms : List Answer) (i : ℕ) → below (reverse (drop i ms)) ≡ reverse (drop (i + 1) ms)
below_dropped [] i = grind (arith, common_steps)
below_dropped (m ∷ ms) zero = ap below (reverse-append (m ∷ []) ms) ∙ below_pushed m (reverse ms)
below_dropped (m ∷ ms) (suc i) =
    let e : suc (i + 1) ≡ suc i + 1 = omega arith in
    below_dropped ms i ∙ ap (λ k. reverse (drop k (m ∷ ms))) e
