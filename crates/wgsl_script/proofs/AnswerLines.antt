-- The end of a line behind its text.
use Rattle.std.proofs.Common.{◌≡◌, ℕ, List, [], ◌∷◌, ◌++◌, Option, Some, None, IsSomeAnd, OnOk, option_map, Result, Ok, Err, is_ok, if◌then◌else◌, ap, ◌∙◌, append_assoc, codes}

pub ended : {X E : Type 0} (r : Result X E) (old mid new bytes : List ℕ) → new ≡ (if is_ok r then mid ++ 10 ∷ [] else mid) → mid ≡ old ++ bytes → OnOk r (new ≡ old ++ (bytes ++ 10 ∷ []))
ended (Ok x) old mid new bytes pushed is = pushed ∙ ap (λ (v : List ℕ). v ++ 10 ∷ []) is ∙ append_assoc old bytes (10 ∷ [])
ended (Err e) old mid new bytes pushed is = tt

pub refusal_ended : {X E : Type 0} (r : Result X E) (old mid new : List ℕ) (name : Option (List ℕ)) → new ≡ (if is_ok r then mid ++ 10 ∷ [] else mid) → IsSomeAnd name (λ n. mid ≡ old ++ (codes "refused " ++ n)) → OnOk r (IsSomeAnd (option_map (λ n. (codes "refused " ++ n) ++ 10 ∷ []) name) (λ line. new ≡ old ++ line))
refusal_ended r old mid new None pushed is = absurd is
refusal_ended r old mid new (Some name) pushed is = ended r old mid new (codes "refused " ++ name) pushed is
