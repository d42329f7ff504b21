-- The first place of a binding in a list, where the list grows.
use Rattle.std.proofs.Common.{◌≡◌, ◌∙◌, ◌+◌, ◌<◌, ℕ, List, take, drop, get_or, [], ◌∷◌, ◌++◌, length, cond, not, Bool, true, false, Option, Some, None, refl, sym, ap, arith}
use Rattle.std.specs.Prelude.{position, option_map, option_and_then, unwrap_or}
use Rattle.std.specs.List.{find, cons_option}
use Rattle.std.specs.Option.{option_or}
use Rattle.std.proofs.lemmas.List.{take_more, drop_more, length-take-le}
use Rattle.std.proofs.lemmas.List.Folds.{find-append, position_or_len_push}
use Rattle.std.proofs.lemmas.List.Sums.{prefix_len-le-length}
use Rattle.std.proofs.lemmas.Grind.{common_steps}
use Rattle.wgsl_interface.specs.Bindings.{is_same, firsts_behind, binding_of, is_at, pair_with, pairs_behind}
use Rattle.wgsl_interface.specs.declared.bindings.Binding.{Binding}
use Rattle.wgsl_interface.specs.declared.bindings.BindingPair.{BindingPair}

position-push : {X : Type 0} (p : X → Bool) (xs : List X) (y : X) → position p (xs ++ y ∷ []) ≡ option_or (position p xs) (cond (p y) (Some (length xs)) None)
position-push {X} p xs y = tested (p y) refl (position p xs) refl where
  tested : (b : Bool) → b ≡ p y → (o : Option ℕ) → o ≡ position p xs → position p (xs ++ y ∷ []) ≡ option_or o (cond b (Some (length xs)) None)
  tested true h None e = grind (arith, common_steps, position_or_len_push p xs y, prefix_len-le-length (λ x. not (p x)) xs)
  tested true h (Some j) e = grind (arith, common_steps, position_or_len_push p xs y, prefix_len-le-length (λ x. not (p x)) xs)
  tested false h None e = grind (arith, common_steps, position_or_len_push p xs y, prefix_len-le-length (λ x. not (p x)) xs)
  tested false h (Some j) e = grind (arith, common_steps, position_or_len_push p xs y, prefix_len-le-length (λ x. not (p x)) xs)

-- what is known of each group and binding, where one more comes
pub positions-next : (old new : Binding → Option ℕ) (xs : List Binding) (i : ℕ) (d : Binding) → i < length xs → ((x : Binding) → old x ≡ position (is_same x) (take i xs)) → ((x : Binding) → new x ≡ option_or (old x) (cond (is_same x (get_or xs i d)) (Some i) None)) → (x : Binding) → new x ≡ position (is_same x) (take (i + 1) xs)
positions-next old new xs i d h known entered x =
    entered x
    ∙ ap (λ (o : Option ℕ). option_or o (cond (is_same x (get_or xs i d)) (Some i) None)) (known x)
    ∙ ap (λ (k : ℕ). option_or (position (is_same x) (take i xs)) (cond (is_same x (get_or xs i d)) (Some k) None)) (sym (length-take-le i xs (omega arith)))
    ∙ sym (position-push (is_same x) (take i xs) (get_or xs i d))
    ∙ ap (position (is_same x)) (sym (take_more xs i d h))

pub firsts-next : (xs : List Binding) (i : ℕ) (d : Binding) → i < length xs → firsts_behind (take i xs) (drop i xs) ≡ position (is_same (get_or xs i d)) (take i xs) ∷ firsts_behind (take (i + 1) xs) (drop (i + 1) xs)
firsts-next xs i d h = rw (drop_more xs i d h) (rw (take_more xs i d h) refl)

abbrev pub pair : ℕ → ℕ → BindingPair
pair first later = record { first = first; later = later }

-- the same of declarations: one that has no binding
or-none : (o : Option ℕ) → option_or o None ≡ o
or-none None = refl
or-none (Some x) = refl

pub finds-over : (old : Binding → Option ℕ) (bindings : List (Option Binding)) (used : List ℕ) (i d : ℕ) → i < length used → binding_of bindings (get_or used i d) ≡ None → ((x : Binding) → old x ≡ find (is_at bindings x) (take i used)) → (x : Binding) → old x ≡ find (is_at bindings x) (take (i + 1) used)
finds-over old bindings used i d h none known x =
    let n : ℕ = get_or used i d in
    let p : ℕ → Bool = is_at bindings x in
    let found : Option ℕ = find p (take i used) in
    let not_at : p n ≡ false = ap (λ (o : Option Binding). unwrap_or (option_map (is_same x) o) false) none in
    known x
    ∙ sym (or-none found)
    ∙ ap (λ (b : Bool). option_or found (cond b (Some n) None)) (sym not_at)
    ∙ sym (find-append p (take i used) (n ∷ []))
    ∙ ap (find p) (sym (take_more used i d h))

-- and one that has
pub finds-next : (old new : Binding → Option ℕ) (bindings : List (Option Binding)) (used : List ℕ) (i d : ℕ) (b : Binding) → i < length used → binding_of bindings (get_or used i d) ≡ Some b → ((x : Binding) → old x ≡ find (is_at bindings x) (take i used)) → ((x : Binding) → new x ≡ option_or (old x) (cond (is_same x b) (Some (get_or used i d)) None)) → (x : Binding) → new x ≡ find (is_at bindings x) (take (i + 1) used)
finds-next old new bindings used i d b h is known entered x =
    let n : ℕ = get_or used i d in
    let p : ℕ → Bool = is_at bindings x in
    let at : p n ≡ is_same x b = ap (λ (o : Option Binding). unwrap_or (option_map (is_same x) o) false) is in
    entered x
    ∙ ap (λ (o : Option ℕ). option_or o (cond (is_same x b) (Some n) None)) (known x)
    ∙ ap (λ (t : Bool). option_or (find p (take i used)) (cond t (Some n) None)) (sym at)
    ∙ sym (find-append p (take i used) (n ∷ []))
    ∙ ap (find p) (sym (take_more used i d h))

-- the pair of one that has no binding, and of one that has
pub pair-none : (bindings : List (Option Binding)) (others : List ℕ) (n : ℕ) → binding_of bindings n ≡ None → pair_with bindings others n ≡ None
pair-none bindings others n is = ap (λ (o : Option Binding). option_and_then (λ (x : Binding). option_map (λ (first : ℕ). pair first n) (find (is_at bindings x) others)) o) is

pub pair-first : (bindings : List (Option Binding)) (others : List ℕ) (n : ℕ) (b : Binding) (first : Option ℕ) → binding_of bindings n ≡ Some b → first ≡ find (is_at bindings b) others → pair_with bindings others n ≡ option_map (λ (first : ℕ). pair first n) first
pair-first bindings others n b first is found =
    ap (λ (o : Option Binding). option_and_then (λ (x : Binding). option_map (λ (first : ℕ). pair first n) (find (is_at bindings x) others)) o) is
    ∙ ap (λ (o : Option ℕ). option_map (λ (first : ℕ). pair first n) o) (sym found)

-- and the pairs behind those that are found
pub pairs-next : (bindings : List (Option Binding)) (used : List ℕ) (i d : ℕ) (found all : List BindingPair) (o : Option BindingPair) → i < length used → pair_with bindings (take i used) (get_or used i d) ≡ o → found ++ pairs_behind bindings (take i used) (drop i used) ≡ all → found ++ cons_option o (pairs_behind bindings (take (i + 1) used) (drop (i + 1) used)) ≡ all
pairs-next bindings used i d found all o h is e =
    let rest : List BindingPair = pairs_behind bindings (take (i + 1) used) (drop (i + 1) used) in
    let next : pairs_behind bindings (take i used) (drop i used) ≡ cons_option (pair_with bindings (take i used) (get_or used i d)) rest = rw (drop_more used i d h) (rw (take_more used i d h) refl) in
    ap (λ (x : Option BindingPair). found ++ cons_option x rest) (sym is)
    ∙ ap (λ (ps : List BindingPair). found ++ ps) (sym next)
    ∙ e
