-- Values that are taken as their parameters have them, one after the other.
use Rattle.std.proofs.Common.{◌≡◌, ◌<◌, ◌≤◌, ◌⊎◌, inl, inr, ℕ, zero, suc, List, [], ◌∷◌, map, length, get_or, set, All, Option, Some, None, MatchOption, Ok, Err, refl, sym, ap, ◌∙◌, subst, arith, add-one, min, ◌+◌}
use Rattle.std.proofs.lemmas.Bool.{cases_lt}
use Rattle.std.proofs.lemmas.List.{get_or-map, length-map, map-set}
use Rattle.std.proofs.lemmas.List.Elements.{All-head, All-map, All-tail}
use Rattle.wgsl_rules.specs.Refusals.{Refusal}
use Rattle.wgsl_rules.specs.Values.{Val, IsStorable}
use Rattle.wgsl_functions.specs.Parameters.{each_taken, taken_as}
use Rattle.wgsl_functions.specs.declared.parameters.Parameter.{Parameter}

-- so many of the values are taken, each that may be stored, and the others are as they were
abbrev pub AreTaken : ℕ → List Parameter → List Val → List Val → Type 0
AreTaken zero ps vs ws = vs ≡ ws
AreTaken (suc n) (p ∷ ps) (v ∷ vs) (w ∷ ws) = (IsStorable v → taken_as p v ≡ Ok w) × AreTaken n ps vs ws
AreTaken (suc n) ps vs ws = ⊥

first_taken : (p : Parameter) (ps : List Parameter) (vs : List Val) (u w : Val) (us : List Val) → vs ≡ u ∷ us → (IsStorable u → taken_as p u ≡ Ok w) → AreTaken 1 (p ∷ ps) vs (w ∷ us)
first_taken p ps [] u w us e h = absurd (cc)
first_taken p ps (v ∷ vs) u w us e h =
    let same : v ≡ u = cc in let rest : vs ≡ us = cc in
    ((λ k. subst (λ x. taken_as p x ≡ Ok w) (sym same) (h (subst IsStorable same k))), rest)

-- the next one
pub next_taken : (n : ℕ) (ps : List Parameter) (vs ws : List Val) (q : Parameter) (d w : Val) → AreTaken n ps vs ws → n < length ps → n < length ws
    → (IsStorable (get_or ws n d) → taken_as (get_or ps n q) (get_or ws n d) ≡ Ok w) → AreTaken (suc n) ps vs (set ws n w)
next_taken zero [] vs ws q d w e a b h = absurd (omega arith)
next_taken zero (p ∷ ps) vs [] q d w e a b h = absurd (omega arith)
next_taken zero (p ∷ ps) vs (u ∷ us) q d w e a b h = first_taken p ps vs u w us e h
next_taken (suc n) [] vs ws q d w e a b h = absurd (omega arith)
next_taken (suc n) (p ∷ ps) [] ws q d w e a b h = absurd e
next_taken (suc n) (p ∷ ps) (v ∷ vs) [] q d w e a b h = absurd e
next_taken (suc n) (p ∷ ps) (v ∷ vs) (u ∷ us) q d w e a b h = (e.0, next_taken n ps vs us q d w e.1 (omega arith) (omega arith) h)

-- all of them
either : (n a b : ℕ) → min a b ≤ n → (a ≤ n) ⊎ (b ≤ n)
either n a b h = elim (cases_lt a b) [ inl x ↦ inl (omega arith) | inr x ↦ inr (omega arith) ]

pub all_taken : (n : ℕ) (ps : List Parameter) (vs ws : List Val) → AreTaken n ps vs ws → (length ps ≤ n) ⊎ (length ws ≤ n) → All IsStorable vs → each_taken ps vs ≡ Ok ws
all_taken zero [] vs ws e h k = ap Ok e
all_taken zero (p ∷ ps) vs [] e h k = rw e
all_taken zero (p ∷ ps) vs (w ∷ ws) e h k = absurd (elim h [ inl x ↦ omega arith | inr x ↦ omega arith ])
all_taken (suc n) [] vs ws e h k = absurd e
all_taken (suc n) (p ∷ ps) [] ws e h k = absurd e
all_taken (suc n) (p ∷ ps) (v ∷ vs) [] e h k = absurd e
all_taken (suc n) (p ∷ ps) (v ∷ vs) (w ∷ ws) e h k =
    let rest = all_taken n ps vs ws e.1 (elim h [ inl x ↦ inl (omega arith) | inr x ↦ inr (omega arith) ]) (All-tail IsStorable v vs k) in
    rw (e.0 (All-head IsStorable v vs k)) (rw rest refl)

first_refused : (p : Parameter) (ps : List Parameter) (vs : List Val) (u : Val) (us : List Val) (r : Refusal) → vs ≡ u ∷ us → (IsStorable u → taken_as p u ≡ Err r) → All IsStorable vs → each_taken (p ∷ ps) vs ≡ Err r
first_refused p ps [] u us r e h k = absurd (cc)
first_refused p ps (v ∷ vs) u us r e h k =
    let same : v ≡ u = cc in
    let refused : taken_as p v ≡ Err r = subst (λ x. taken_as p x ≡ Err r) (sym same) (h (subst IsStorable same (All-head IsStorable v vs k))) in
    rw refused refl

-- the next one is refused
pub next_refused : (n : ℕ) (ps : List Parameter) (vs ws : List Val) (q : Parameter) (d : Val) (r : Refusal) → AreTaken n ps vs ws → n < length ps → n < length ws
    → (IsStorable (get_or ws n d) → taken_as (get_or ps n q) (get_or ws n d) ≡ Err r) → All IsStorable vs → each_taken ps vs ≡ Err r
next_refused zero [] vs ws q d r e a b h k = absurd (omega arith)
next_refused zero (p ∷ ps) vs [] q d r e a b h k = absurd (omega arith)
next_refused zero (p ∷ ps) vs (u ∷ us) q d r e a b h k = first_refused p ps vs u us r e h k
next_refused (suc n) [] vs ws q d r e a b h k = absurd (omega arith)
next_refused (suc n) (p ∷ ps) [] ws q d r e a b h k = absurd e
next_refused (suc n) (p ∷ ps) (v ∷ vs) [] q d r e a b h k = absurd e
next_refused (suc n) (p ∷ ps) (v ∷ vs) (w ∷ ws) q d r e a b h k =
    let rest = next_refused n ps vs ws q d r e.1 (omega arith) (omega arith) h (All-tail IsStorable v vs k) in
    rw (e.0 (All-head IsStorable v vs k)) (rw rest refl)

-- ---- what a call says of the next one, which it was given as one value and left as another

at_place : {X : Type 0} (f : X → Val) (n : ℕ) (xs : List X) (x : X) → n < length xs → x ≡ get_or xs n x → get_or (map f xs) n (f x) ≡ f x
at_place f n xs x h e = get_or-map f xs n x (f x) h ∙ ap f (sym e)

pub was_taken : {X T : Type 0} (f : X → Val) (r : T → Refusal) (n : ℕ) (ps : List Parameter) (vs : List Val) (xs : List X) (q : Parameter) (old new : X) (o : Option T) → AreTaken n ps vs (map f xs) → n < length ps → n < length xs → old ≡ get_or xs n old
    → (IsStorable (f old) → MatchOption o (taken_as (get_or ps n q) (f old) ≡ Ok (f new)) (λ t. taken_as (get_or ps n q) (f old) ≡ Err (r t))) → o ≡ None → AreTaken (n + 1) ps vs (map f (set xs n new))
was_taken f r n ps vs xs q old new (Some t) a h k e says is = absurd (cc)
was_taken f r n ps vs xs q old new None a h k e says is =
    let same = at_place f n xs old k e in
    let long : n < length (map f xs) = omega (arith, length-map xs f) in
    let next = next_taken n ps vs (map f xs) q (f old) (f new) a h long (rw same says) in
    rw (map-set f xs n new, add-one) next

pub was_refused : {X T : Type 0} (f : X → Val) (r : T → Refusal) (n : ℕ) (ps : List Parameter) (xs ys : List X) (q : Parameter) (old new : X) (o : Option T) (t : T) → AreTaken n ps (map f xs) (map f ys) → n < length ps → n < length ys → old ≡ get_or ys n old
    → (IsStorable (f old) → MatchOption o (taken_as (get_or ps n q) (f old) ≡ Ok (f new)) (λ t. taken_as (get_or ps n q) (f old) ≡ Err (r t))) → o ≡ Some t → All (λ x. IsStorable (f x)) xs → each_taken ps (map f xs) ≡ Err (r t)
was_refused f r n ps xs ys q old new None t a h k e says is all = absurd (cc)
was_refused f r n ps xs ys q old new (Some u) t a h k e says is all =
    let same = at_place f n ys old k e in
    let long : n < length (map f ys) = omega (arith, length-map ys f) in
    let which : u ≡ t = cc in
    let refused : IsStorable (f old) → taken_as (get_or ps n q) (f old) ≡ Err (r t) = λ s. says s ∙ ap (λ x. Err (r x)) which in
    next_refused n ps (map f xs) (map f ys) q (f old) (r t) a h long (rw same refused) (All-map IsStorable f xs all)

pub were_taken : {X : Type 0} (f : X → Val) (n : ℕ) (ps : List Parameter) (xs ys : List X) → AreTaken n ps (map f xs) (map f ys) → min (length ps) (length ys) ≤ n → All (λ x. IsStorable (f x)) xs → each_taken ps (map f xs) ≡ Ok (map f ys)
were_taken f n ps xs ys a h all = all_taken n ps (map f xs) (map f ys) a (either n (length ps) (length (map f ys)) (omega (arith, length-map ys f))) (All-map IsStorable f xs all)
