-- Words that stand in groups by their first letters.
use Rattle.std.proofs.Common.{◌≡◌, ℕ, zero, suc, ◌+◌, ◌<◌, ◌≤◌, ◌≢◌, Bool, true, false, ◌||◌, Bor, List, length, get_or, [], ◌∷◌, map, refl, sym, ◌∙◌, ap, arith}
use Rattle.std.proofs.lemmas.Grind.{common_steps}
use Rattle.std.proofs.lemmas.List.Folds.{list_any-append}
use Rattle.std.specs.List.{list_all, list_any}
use Rattle.std.specs.Str.{bytes_eq}
use Rattle.wgsl_source.specs.Identifiers.{Group, words_in, begins_with, are_grouped, is_in_group, is_one_of}

texts : (group : List (Bor (List ℕ))) (word : List ℕ) → is_one_of (map (λ w. w.now) group) word ≡ list_any (λ known. bytes_eq known.now word) group
texts [] word = refl
texts (w ∷ ws) word = ap (λ b. bytes_eq w.now word || b) (texts ws word)

other_letter : (letter first : ℕ) (rest known : List ℕ) → begins_with letter known ≡ true → first ≢ letter → bytes_eq known (first ∷ rest) ≡ false
other_letter letter first rest [] begins other = refl
other_letter letter first rest (k ∷ ks) begins other = grind (arith, common_steps)

no_text : (letter : ℕ) (known : List ℕ) → begins_with letter known ≡ true → bytes_eq known [] ≡ false
no_text letter [] begins = grind (arith, common_steps)
no_text letter (k ∷ ks) begins = refl

misses : (letter first : ℕ) (rest : List ℕ) (group : List (Bor (List ℕ))) → list_all (λ w. begins_with letter w.now) group ≡ true → first ≢ letter → is_one_of (map (λ w. w.now) group) (first ∷ rest) ≡ false
misses letter first rest [] begin other = refl
misses letter first rest (w ∷ ws) begin other = grind (arith, common_steps, other_letter letter first rest w.now, misses letter first rest ws)

misses_empty : (letter : ℕ) (group : List (Bor (List ℕ))) → list_all (λ w. begins_with letter w.now) group ≡ true → is_one_of (map (λ w. w.now) group) [] ≡ false
misses_empty letter [] begin = refl
misses_empty letter (w ∷ ws) begin = grind (arith, common_steps, no_text letter w.now, misses_empty letter ws)

in_group_or_behind : (group : Group) (groups : List Group) (word : List ℕ) → is_one_of (words_in (group ∷ groups)) word ≡ (is_one_of (map (λ w. w.now) group.now) word || is_one_of (words_in groups) word)
in_group_or_behind group groups word = list_any-append (λ w. bytes_eq w word) (map (λ w. w.now) group.now) (words_in groups)

below : (letter first : ℕ) (rest : List ℕ) (groups : List Group) → are_grouped letter groups ≡ true → first < letter → is_one_of (words_in groups) (first ∷ rest) ≡ false
below letter first rest [] grouped less = refl
below letter first rest (g ∷ gs) grouped less = grind (arith, common_steps, in_group_or_behind g gs (first ∷ rest), misses letter first rest g.now, below (letter + 1) first rest gs)

empty : (letter : ℕ) (groups : List Group) → are_grouped letter groups ≡ true → is_one_of (words_in groups) [] ≡ false
empty letter [] grouped = refl
empty letter (g ∷ gs) grouped = grind (arith, common_steps, in_group_or_behind g gs [], misses_empty letter g.now, empty (letter + 1) gs)

grouped_word : (letter number first : ℕ) (rest : List ℕ) (groups : List Group) → are_grouped letter groups ≡ true → first ≡ letter + number → is_in_group groups number (first ∷ rest) ≡ is_one_of (words_in groups) (first ∷ rest)
grouped_word letter number first rest [] grouped same = refl
grouped_word letter zero first rest (g ∷ gs) grouped same =
    grind (arith, common_steps, in_group_or_behind g gs (first ∷ rest), texts g.now (first ∷ rest), below (letter + 1) first rest gs)
grouped_word letter (suc number) first rest (g ∷ gs) grouped same =
    grind (arith, common_steps, in_group_or_behind g gs (first ∷ rest), misses letter first rest g.now, grouped_word (letter + 1) number first rest gs)

-- ---- of a word by its first byte

pub found : (letter number : ℕ) (word : List ℕ) (groups : List Group) → are_grouped letter groups ≡ true → 0 < length word → get_or word 0 0 ≡ letter + number → is_in_group groups number word ≡ is_one_of (words_in groups) word
found letter number [] groups grouped some same = let no : ⊥ = omega (arith, some) in elim no [ ]
found letter number (first ∷ rest) groups grouped some same = grouped_word letter number first rest groups grouped same

pub not_found : (letter : ℕ) (word : List ℕ) (groups : List Group) → are_grouped letter groups ≡ true → get_or word 0 0 < letter → false ≡ is_one_of (words_in groups) word
not_found letter [] groups grouped less = sym (empty letter groups grouped)
not_found letter (first ∷ rest) groups grouped less = sym (below letter first rest groups grouped less)

-- ---- of a group by its number

pub in_some : (groups : List Group) (number : ℕ) (group : Group) (word : List ℕ) → number < length groups → ((d : Group) → group ≡ get_or groups number d) → list_any (λ known. bytes_eq known.now word) group.now ≡ is_in_group groups number word
in_some [] number group word less same = let no : ⊥ = omega (arith, less) in elim no [ ]
in_some (g ∷ gs) zero group word less same = ap (λ (x : Group). list_any (λ known. bytes_eq known.now word) x.now) (same g)
in_some (g ∷ gs) (suc number) group word less same = in_some gs number group word (omega (arith, less)) same

pub in_none : (groups : List Group) (number : ℕ) (word : List ℕ) → length groups ≤ number → false ≡ is_in_group groups number word
in_none [] number word less = refl
in_none (g ∷ gs) zero word less = let no : ⊥ = omega (arith, less) in elim no [ ]
in_none (g ∷ gs) (suc number) word less = in_none gs number word (omega (arith, less))

pub nothing_first : (word : List ℕ) → length word < 1 → get_or word 0 0 < 97
nothing_first [] none = omega arith
nothing_first (first ∷ rest) none = let no : ⊥ = omega (arith, none) in elim no [ ]

-- ---- two words before the groups

pub one_of_two : (one a b rest : Bool) → one ≡ true → one ≡ (a || (b || false)) → one ≡ (a || (b || rest))
one_of_two one true b rest is same = same
one_of_two one false true rest is same = same
one_of_two one false false rest is same = grind (arith, common_steps)

pub none_of_two : (one a b rest in_rest : Bool) → one ≡ false → one ≡ (a || (b || false)) → in_rest ≡ rest → in_rest ≡ (a || (b || rest))
none_of_two one true b rest in_rest is same rests = grind (arith, common_steps)
none_of_two one false true rest in_rest is same rests = grind (arith, common_steps)
none_of_two one false false rest in_rest is same rests = rests
