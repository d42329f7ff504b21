-- Where a byte first stands in a text.
use Rattle.std.proofs.Common.{◌≡◌, ◌≢◌, ◌<◌, ℕ, zero, suc, List, [], ◌∷◌, ◌++◌, length, get_or, eqb, not, Bool, true, false, refl, ap, subst, arith}
use Rattle.std.specs.Char.{digit_value}
use Rattle.std.specs.List.{list_all}
use Rattle.std.specs.Str.Parse.{AllDigits}
use Rattle.std.proofs.lemmas.List.Recursion.{and_at}

-- the byte stands nowhere in the text
abbrev pub Lacks : ℕ → List ℕ → Type 0
Lacks c xs = (i : ℕ) → i < length xs → get_or xs i 0 ≢ c

pub lacks-cons : (c x : ℕ) (xs : List ℕ) → x ≢ c → Lacks c xs → Lacks c (x ∷ xs)
lacks-cons c x xs differs lacks zero h = differs
lacks-cons c x xs differs lacks (suc i) h = lacks i (omega arith)

pub lacks-tail : (c x : ℕ) (xs : List ℕ) → Lacks c (x ∷ xs) → Lacks c xs
lacks-tail c x xs lacks i h = lacks (suc i) (omega arith)

-- the same by a test that computes
abbrev pub is_other : ℕ → ℕ → Bool
is_other c x = not (eqb x c)

pub lacks_tested : (c : ℕ) (xs : List ℕ) → eqb c c ≡ true → list_all (is_other c) xs ≡ true → Lacks c xs
lacks_tested c xs self e i h =
    λ is. let other : is_other c (get_or xs i 0) ≡ true = and_at (list_all (is_other c)) (is_other c) refl (λ _ _. refl) xs i 0 h e in
    let same : not (eqb c c) ≡ true = subst (λ (v : ℕ). is_other c v ≡ true) is other in
    let not_so : false ≡ true = subst (λ (v : Bool). not v ≡ true) self same in
    cc

pub lacks-append : (c : ℕ) (xs ys : List ℕ) → Lacks c xs → Lacks c ys → Lacks c (xs ++ ys)
lacks-append c [] ys f g = g
lacks-append c (x ∷ xs) ys f g = lacks-cons c x (xs ++ ys) (f 0 (omega arith)) (lacks-append c xs ys (lacks-tail c x xs f) g)

-- the byte stands there
pub lacks_not : (c : ℕ) (xs ys : List ℕ) → ¬ Lacks c (xs ++ (c ∷ ys))
lacks_not c [] ys none = none 0 (omega arith) refl
lacks_not c (x ∷ xs) ys none = lacks_not c xs ys (lacks-tail c x (xs ++ (c ∷ ys)) none)

-- what stands before the first, and what behind it
pub one_split : (c : ℕ) (xs ys us vs : List ℕ) → xs ++ (c ∷ ys) ≡ us ++ (c ∷ vs) → Lacks c xs → Lacks c us → (xs ≡ us) × (ys ≡ vs)
one_split c [] ys [] vs e f g = (refl, cc)
one_split c [] ys (u ∷ us) vs e f g = let h : u ≡ c = cc in absurd (g 0 (omega arith) h)
one_split c (x ∷ xs) ys [] vs e f g = let h : x ≡ c = cc in absurd (f 0 (omega arith) h)
one_split c (x ∷ xs) ys (u ∷ us) vs e f g =
    let rest : xs ++ (c ∷ ys) ≡ us ++ (c ∷ vs) = cc in
    let first : x ≡ u = cc in
    let split = one_split c xs ys us vs rest (lacks-tail c x xs f) (lacks-tail c u us g) in
    let is : xs ≡ us = split.0 in
    (cc, split.1)

-- digits hold no byte that is none
pub digits_lack : (c : ℕ) (ds : List ℕ) → 10 < digit_value c → AllDigits 10 ds → Lacks c ds
digits_lack c [] none digits i h = absurd (omega arith)
digits_lack c (d ∷ ds) none digits zero h = λ e. let v : digit_value d ≡ digit_value c = ap digit_value e in omega (arith, v, digits.0)
digits_lack c (d ∷ ds) none digits (suc i) h = digits_lack c ds none digits.1 i (omega arith)
