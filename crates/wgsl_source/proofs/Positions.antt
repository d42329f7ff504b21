-- Where the first element stands that passes.
use Rattle.std.proofs.Common.{◌≡◌, ℕ, ◌+◌, ◌≤◌, ◌==◌, nat_lt, Bool, true, false, cond, not, Some, None, List, [], ◌∷◌, ◌++◌, length, map, refl, ◌∙◌, ap, arith}
use Rattle.std.proofs.lemmas.Grind.{common_steps}
use Rattle.std.proofs.lemmas.List.Folds.{position_or_len_push}
use Rattle.std.specs.List.{position, position_or_len, prefix_len}

pub prefix_len-map : {X Y : Type 0} (p : Y → Bool) (f : X → Y) (xs : List X) → prefix_len p (map f xs) ≡ prefix_len (λ x. p (f x)) xs
prefix_len-map p f [] = refl
prefix_len-map p f (x ∷ xs) = ap (λ n. cond (p (f x)) (1 + n) 0) (prefix_len-map p f xs)

pub first_or_last : (b : Bool) (n l : ℕ) → n ≤ l → cond (nat_lt (cond (n == l) (l + cond b 0 1) n) (l + 1)) (Some (cond (n == l) (l + cond b 0 1) n)) None ≡ cond (nat_lt n l) (Some n) (cond b (Some l) None)
first_or_last true n l h = grind (arith, common_steps)
first_or_last false n l h = grind (arith, common_steps)

pub cond_within : (b : Bool) (n m : ℕ) → n ≤ m → cond b (1 + n) 0 ≤ 1 + m
cond_within true n m h = omega arith
cond_within false n m h = omega arith

pub prefix_len-within : {X : Type 0} (p : X → Bool) (xs : List X) → prefix_len p xs ≤ length xs
prefix_len-within p [] = omega arith
prefix_len-within p (x ∷ xs) = grind (arith, common_steps, cond_within (p x) (prefix_len p xs) (length xs) (prefix_len-within p xs))

-- of one element more
pub position-push : {X : Type 0} (p : X → Bool) (xs : List X) (y : X) → position p (xs ++ (y ∷ [])) ≡ cond (nat_lt (position_or_len p xs) (length xs)) (Some (position_or_len p xs)) (cond (p y) (Some (length xs)) None)
position-push p xs y =
    let e = position_or_len_push p xs y in
    let l : length (xs ++ (y ∷ [])) ≡ length xs + 1 = grind (arith, common_steps) in
    ap (λ n. cond (nat_lt n (length (xs ++ (y ∷ [])))) (Some n) None) e
    ∙ ap (λ m. cond (nat_lt (cond (position_or_len p xs == length xs) (length xs + cond (p y) 0 1) (position_or_len p xs)) m) (Some (cond (position_or_len p xs == length xs) (length xs + cond (p y) 0 1) (position_or_len p xs))) None) l
    ∙ first_or_last (p y) (position_or_len p xs) (length xs) (prefix_len-within (λ x. not (p x)) xs)

-- of what a list is mapped to
pub position-map : {X Y : Type 0} (p : Y → Bool) (f : X → Y) (xs : List X) → position p (map f xs) ≡ position (λ x. p (f x)) xs
position-map p f xs =
    let e = prefix_len-map (λ y. not (p y)) f xs in
    let l : length (map f xs) ≡ length xs = grind (arith, common_steps) in
    ap (λ n. cond (nat_lt n (length (map f xs))) (Some n) None) e ∙ ap (λ m. cond (nat_lt (prefix_len (λ x. not (p (f x))) xs) m) (Some (prefix_len (λ x. not (p (f x))) xs)) None) l
