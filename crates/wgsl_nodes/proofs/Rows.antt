-- Numbers side by side in bytes.
use Rattle.std.proofs.Common.{◌≡◌, ℕ, zero, suc, ◌+◌, ◌*◌, ◌<◌, ◌≤◌, List, [], ◌∷◌, ◌++◌, length, drop, get_or, slice_set, Bool, true, refl, sym, ap, ◌∙◌, arith, add-one, drop-cons}
use Rattle.std.specs.Int.{bytes_low_first}
use Rattle.std.specs.List.{list_all}
use Rattle.std.proofs.Math.ListN.{drop_of_length-le}
use Rattle.wgsl_nodes.specs.Numbers.{number_at, numbers_at, overwritten, written_row}
use Rattle.wgsl_rules.proofs.lemmas.Known.{and-both}

-- ---- reading

numbers-more : (b : List ℕ) (at w n : ℕ) → numbers_at b at w (suc n) ≡ numbers_at b at w n ++ (number_at b (at + n * w) w ∷ [])
numbers-more b at w zero = ap (λ (k : ℕ). number_at b k w ∷ []) (omega arith)
numbers-more b at w (suc n) =
    let same : (at + w) + n * w ≡ at + suc n * w = grind arith in
    ap (λ (xs : List ℕ). number_at b at w ∷ xs) (numbers-more b (at + w) w n ∙ ap (λ (k : ℕ). numbers_at b (at + w) w n ++ (number_at b k w ∷ [])) same)

length-numbers : (b : List ℕ) (at w n : ℕ) → length (numbers_at b at w n) ≡ n
length-numbers b at w zero = refl
length-numbers b at w (suc n) = ap (λ (k : ℕ). suc k) (length-numbers b (at + w) w n)

set-behind : (xs ys : List ℕ) (y v : ℕ) → slice_set (xs ++ (y ∷ ys)) (length xs) v ≡ (xs ++ (v ∷ [])) ++ ys
set-behind [] ys y v = refl
set-behind (x ∷ xs) ys y v = ap (λ (zs : List ℕ). x ∷ zs) (set-behind xs ys y v)

-- one number more is read
pub row-step : (b first out : List ℕ) (at w i v : ℕ) → i < length first → out ≡ numbers_at b at w i ++ drop i first → v ≡ number_at b (at + i * w) w
    → slice_set out i v ≡ numbers_at b at w (i + 1) ++ drop (i + 1) first
row-step b first out at w i v h is e =
    let split : out ≡ numbers_at b at w i ++ (get_or first i 0 ∷ drop (suc i) first) = is ∙ ap (λ (xs : List ℕ). numbers_at b at w i ++ xs) (drop-cons first i 0 h) in
    let len = length-numbers b at w i in
    ap (λ (xs : List ℕ). slice_set xs i v) split
    ∙ ap (λ (k : ℕ). slice_set (numbers_at b at w i ++ (get_or first i 0 ∷ drop (suc i) first)) k v) (sym len)
    ∙ set-behind (numbers_at b at w i) (drop (suc i) first) (get_or first i 0) v
    ∙ ap (λ (x : ℕ). (numbers_at b at w i ++ (x ∷ [])) ++ drop (suc i) first) e
    ∙ ap (λ (xs : List ℕ). xs ++ drop (suc i) first) (sym (numbers-more b at w i))
    ∙ rw add-one refl

append-none : (xs : List ℕ) → xs ++ [] ≡ xs
append-none [] = refl
append-none (x ∷ xs) = ap (λ (ys : List ℕ). x ∷ ys) (append-none xs)

pub row-done : (b first out : List ℕ) (at w i n : ℕ) → n ≤ i → i ≤ n → n ≡ length first → out ≡ numbers_at b at w i ++ drop i first → out ≡ numbers_at b at w n
row-done b first out at w i n le ge len is =
    is ∙ ap (λ (xs : List ℕ). numbers_at b at w i ++ xs) (drop_of_length-le first {i = i} (omega arith)) ∙ append-none (numbers_at b at w i) ∙ ap (numbers_at b at w) (omega arith)

-- ---- writing

pub written-step : (b first : List ℕ) (at w i v : ℕ) (ns : List ℕ) → i < length ns → v ≡ get_or ns i 0 → written_row b (at + i * w) w (drop i ns) ≡ written_row first at w ns
    → written_row (overwritten b (at + i * w) (bytes_low_first 0 w v)) (at + (i + 1) * w) w (drop (i + 1) ns) ≡ written_row first at w ns
written-step b first at w i v ns h e is =
    let same : (at + i * w) + w ≡ at + (i + 1) * w = grind arith in
    let split : drop i ns ≡ v ∷ drop (i + 1) ns = drop-cons ns i 0 h ∙ ap (λ (x : ℕ). x ∷ drop (suc i) ns) (sym e) ∙ rw add-one refl in
    ap (λ (k : ℕ). written_row (overwritten b (at + i * w) (bytes_low_first 0 w v)) k w (drop (i + 1) ns)) (sym same)
    ∙ ap (λ (xs : List ℕ). written_row b (at + i * w) w xs) (sym split) ∙ is

pub written-done : (b first : List ℕ) (at w i : ℕ) (ns : List ℕ) → length ns ≤ i → written_row b (at + i * w) w (drop i ns) ≡ written_row first at w ns → b ≡ written_row first at w ns
written-done b first at w i ns le is = ap (λ (xs : List ℕ). written_row b (at + i * w) w xs) (sym (drop_of_length-le ns {i = i} le)) ∙ is

pub all-at : (p : ℕ → Bool) (xs : List ℕ) (i v : ℕ) → list_all p xs ≡ true → i < length xs → v ≡ get_or xs i 0 → p v ≡ true
all-at p [] i v h lt e = absurd (omega arith)
all-at p (x ∷ xs) zero v h lt e = ap p e ∙ (and-both (p x) (list_all p xs) h).0
all-at p (x ∷ xs) (suc i) v h lt e = all-at p xs i v (and-both (p x) (list_all p xs) h).1 (omega arith) e

pub inside : (i n w at len : ℕ) → i < n → at + n * w ≤ len → (at + i * w) + w ≤ len
inside i n w at len h le = grind arith
