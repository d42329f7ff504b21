-- A part of a line has no line feed.
use Rattle.std.proofs.Common.{◌≡◌, ℕ, ◌<◌, ◌≢◌, List, [], ◌∷◌, ◌++◌, Option, Some, None, MatchOption, All, Bor, unwrap_or, length, get_or, ◌∙◌, arith}
use Rattle.std.proofs.lemmas.Grind.{common_steps}
use Rattle.std.proofs.lemmas.List.{get_or_default, length_push}

-- without a carriage return at its end, where it has one
pub lacks_feed : (line : Bor (List ℕ)) (r : Option (Bor (List ℕ))) → MatchOption r ((front : List ℕ) → line.now ≢ front ++ (13 ∷ [])) (λ x. line.now ≡ x.now ++ (13 ∷ [])) → ((i : ℕ) → i < length line.now → get_or line.now i 0 ≢ 10) → (i : ℕ) → i < length (unwrap_or r line).now → get_or (unwrap_or r line).now i 0 ≢ 10
lacks_feed line None cut lacks i within = lacks i within
lacks_feed line (Some x) cut lacks i within =
    let longer : i < length line.now = grind (arith, common_steps, length_push x.now 13) in
    let h = lacks i longer in grind (arith, common_steps)

pub all_from_zero : (xs : List ℕ) → ((i : ℕ) → i < length xs → get_or xs i 0 ≢ 10) → All (λ b. b ≢ 10) xs
all_from_zero xs lacks = λ k d within e. lacks k within (get_or_default xs k 0 d within ∙ e)
