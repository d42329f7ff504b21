-- Steps of loops over what is given for each of a list.
use Rattle.std.proofs.Common.{◌≡◌, ℕ, zero, suc, ◌+◌, ◌<◌, List, [], ◌∷◌, ◌++◌, length, get_or, take, map, Option, Some, None, refl, arith, add-one}
use Rattle.std.proofs.lemmas.List.{map-append}
use Rattle.wgsl_rules.specs.Values.{Val}
use Rattle.wgsl_rules.proofs.Lists.{prepended-step, prepended-none}
use Rattle.wgsl_eval.specs.Lists.{each_of}

pub each_of-step : {A : Type 0} (f : A → Option Val) (xs : List A) (i : ℕ) (d : A) (ws : List Val) (w : Val)
    → i < length xs → each_of f (take i xs) ≡ Some ws → f (get_or xs i d) ≡ Some w → each_of f (take (i + 1) xs) ≡ Some (ws ++ (w ∷ []))
each_of-step f [] i d ws w h e k = absurd (omega arith)
each_of-step f (x ∷ xs) zero d ws w h e k = let none : ws ≡ [] = cc in rw (k, none) refl
each_of-step f (x ∷ xs) (suc i) d ws w h e k =
    rw add-one (prepended-step (f x) (each_of f (take i xs)) (each_of f (take (suc i) xs)) ws w e
    (λ rest p. let more = each_of-step f xs i d rest w (omega arith) p k in rw add-one at more))

pub each_of-push : {A X : Type 0} (f : A → Option Val) (view : X → Val) (xs : List A) (i : ℕ) (d : A) (out : List X) (y : X)
    → i < length xs → each_of f (take i xs) ≡ Some (map view out) → f (get_or xs i d) ≡ Some (view y)
    → each_of f (take (i + 1) xs) ≡ Some (map view (out ++ (y ∷ [])))
each_of-push f view xs i d out y h e k = rw (map-append view out (y ∷ [])) (each_of-step f xs i d (map view out) (view y) h e k)

pub each_of-none : {A : Type 0} (f : A → Option Val) (xs : List A) (i : ℕ) (d : A) → i < length xs → f (get_or xs i d) ≡ None → each_of f xs ≡ None
each_of-none f [] i d h k = absurd (omega arith)
each_of-none f (x ∷ xs) zero d h k = rw k refl
each_of-none f (x ∷ xs) (suc i) d h k = rw (each_of-none f xs i d (omega arith) k) (prepended-none (f x))

pub each_of-map : {A X : Type 0} (f : A → Option Val) (g : X → A) (xs : List X) → each_of f (map g xs) ≡ each_of (λ x. f (g x)) xs
each_of-map f g [] = refl
each_of-map f g (x ∷ xs) = rw (each_of-map f g xs) refl

pub each_of-mapped : {A X Y : Type 0} (f : A → Option Val) (g : X → A) (view : Y → Val) (xs : List X) (out : List Y)
    → each_of (λ x. f (g x)) xs ≡ Some (map view out) → each_of f (map g xs) ≡ Some (map view out)
each_of-mapped f g view xs out h = rw (each_of-map f g xs) h

pub ruleset each_steps = (each_of-push, each_of-mapped)

each_of-last : {A : Type 0} (f : A → Option Val) (xs : List A) (x : A) (ws : List Val) (w : Val) → each_of f xs ≡ Some ws → f x ≡ Some w
    → each_of f (xs ++ x ∷ []) ≡ Some (ws ++ w ∷ [])
each_of-last f [] x ws w e k = let none : ws ≡ [] = cc in rw (k, none) refl
each_of-last f (z ∷ xs) x ws w e k =
    prepended-step (f z) (each_of f xs) (each_of f (xs ++ x ∷ [])) ws w e (λ rest p. each_of-last f xs x rest w p k)

pub each_of-appended : {A X : Type 0} (f : A → Option Val) (view : X → Val) (xs : List A) (out : List X) (x : A) (y : X)
    → each_of f xs ≡ Some (map view out) → f x ≡ Some (view y) → each_of f (xs ++ x ∷ []) ≡ Some (map view (out ++ y ∷ []))
each_of-appended f view xs out x y e k = rw (map-append view out (y ∷ [])) (each_of-last f xs x (map view out) (view y) e k)
