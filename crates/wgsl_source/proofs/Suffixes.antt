-- Where a numeral ends, and whether it is hexadecimal.
use Rattle.std.proofs.Common.{◌≡◌, ℕ, ◌≤◌, ◌==◌, ◌&&◌, ◌||◌, true, false, cond, Some, List, [], ◌∷◌, ◌++◌, get_or, drop, take, inl, inr, ◌⊎◌, refl, ◌∙◌, ap, sym, subst, append_assoc, arith}
use Rattle.std.proofs.lemmas.Grind.{common_steps}
use Rattle.std.proofs.lemmas.List.{take-append-drop}
use Rattle.std.specs.Str.Parse.{AllDigits, IsNumeral}
use Rattle.wgsl_source.specs.Numbers.{EndsInDigit, IsHexadecimal, begins_hexadecimal, Reads}

-- ---- a numeral ends in a digit

pub last_digit : (radix : ℕ) (c : ℕ) (cs : List ℕ) → radix ≤ 16 → AllDigits radix (c ∷ cs) → EndsInDigit (c ∷ cs)
last_digit radix c [] small h = ([], c, refl, omega (arith, h.0))
last_digit radix c (d ∷ ds) small h =
    let g = last_digit radix d ds small h.1 in (c ∷ g.0, g.1, ap (λ xs. c ∷ xs) g.2, g.3)

pub ends_behind : (front digits : List ℕ) → EndsInDigit digits → EndsInDigit (front ++ digits)
ends_behind front digits ends = (front ++ ends.0, ends.1, ap (λ xs. front ++ xs) ends.2 ∙ sym (append_assoc front ends.0 (ends.1 ∷ [])), ends.3)

pub numeral_ends : (radix : ℕ) (ds : List ℕ) → radix ≤ 16 → IsNumeral radix ds → EndsInDigit ds
numeral_ends radix [] small h = absurd (omega (arith, h.0))
numeral_ends radix (c ∷ cs) small h = last_digit radix c cs small h.1

pub reads_ends : (radix n : ℕ) (ds : List ℕ) → radix ≤ 16 → Reads radix ds (Some n) → EndsInDigit ds
reads_ends radix n ds small h =
    let k : ℕ = cond (get_or ds 0 0 == 43) 1 0 in
    subst EndsInDigit (take-append-drop k ds) (ends_behind (take k ds) (drop k ds) (numeral_ends radix (drop k ds) small h.0.0))

-- ---- whether a text is hexadecimal

pub hexadecimal_front : (x y : ℕ) (rest : List ℕ) → (x == 48 && (y == 120 || y == 88)) ≡ true → (x ∷ y ∷ rest ≡ 48 ∷ 120 ∷ rest) ⊎ (x ∷ y ∷ rest ≡ 48 ∷ 88 ∷ rest)
hexadecimal_front x y rest e = grind (arith, common_steps)

pub is_hexadecimal : (text : List ℕ) → begins_hexadecimal text ≡ true → (digits : List ℕ) × IsHexadecimal text digits
is_hexadecimal [] e = absurd cc
is_hexadecimal (x ∷ []) e = absurd cc
is_hexadecimal (x ∷ y ∷ rest) e = (rest, hexadecimal_front x y rest e)

pub no_hexadecimal : (text : List ℕ) → begins_hexadecimal text ≡ false → (digits : List ℕ) → ¬ IsHexadecimal text digits
no_hexadecimal text e digits (inl p) = cc (sym e ∙ ap begins_hexadecimal p)
no_hexadecimal text e digits (inr p) = cc (sym e ∙ ap begins_hexadecimal p)
