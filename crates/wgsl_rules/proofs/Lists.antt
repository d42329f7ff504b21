-- Steps of loops over lists of values.
use Rattle.std.proofs.Common.{◌≡◌, ℕ, zero, suc, ◌+◌, ◌<◌, List, [], ◌∷◌, ◌++◌, length, get_or, take, map, All, Option, Some, None, refl, arith, add-one}
use Rattle.std.proofs.lemmas.List.{map-append}
use Rattle.std.proofs.lemmas.List.Elements.{All-append, All-cons, All-nil}
use Rattle.wgsl_rules.specs.InCommon.{all_in, prepended}
use Rattle.wgsl_rules.specs.Types.{Ty}
use Rattle.wgsl_rules.specs.Values.{Val}

pub prepended-step : (o : Option Val) (p q : Option (List Val)) (ws : List Val) (w : Val) → prepended o p ≡ Some ws
    → ((rest : List Val) → p ≡ Some rest → q ≡ Some (rest ++ (w ∷ []))) → prepended o q ≡ Some (ws ++ (w ∷ []))
prepended-step None p q ws w h k = cc
prepended-step (Some x) None q ws w h k = cc
prepended-step (Some x) (Some xs) q ws w h k = let e : x ∷ xs ≡ ws = cc in rw (k xs refl, ← e) refl

pub prepended-none : (o : Option Val) → prepended o None ≡ None
prepended-none None = refl
prepended-none (Some x) = refl

all_in-step : {X : Type 0} (f : Val → Ty → Option Val) (t : Ty) (view : X → Val) (xs : List X) (i : ℕ) (d : X) (ws : List Val) (w : Val)
    → i < length xs → all_in f (map view (take i xs)) t ≡ Some ws → f (view (get_or xs i d)) t ≡ Some w
    → all_in f (map view (take (i + 1) xs)) t ≡ Some (ws ++ (w ∷ []))
all_in-step f t view [] i d ws w h e k = absurd (omega arith)
all_in-step f t view (x ∷ xs) zero d ws w h e k = let none : ws ≡ [] = cc in rw (k, none) refl
all_in-step f t view (x ∷ xs) (suc i) d ws w h e k =
    rw add-one (prepended-step (f (view x) t) (all_in f (map view (take i xs)) t) (all_in f (map view (take (suc i) xs)) t) ws w e
    (λ rest p. let more = all_in-step f t view xs i d rest w (omega arith) p k in rw add-one at more))

pub all_in-push : {X : Type 0} (f : Val → Ty → Option Val) (t : Ty) (view : X → Val) (xs : List X) (i : ℕ) (d : X) (out : List X) (y : X)
    → i < length xs → all_in f (map view (take i xs)) t ≡ Some (map view out) → f (view (get_or xs i d)) t ≡ Some (view y)
    → all_in f (map view (take (i + 1) xs)) t ≡ Some (map view (out ++ (y ∷ [])))
all_in-push f t view xs i d out y h e k = rw (map-append view out (y ∷ [])) (all_in-step f t view xs i d (map view out) (view y) h e k)

pub all_in-none : {X : Type 0} (f : Val → Ty → Option Val) (t : Ty) (view : X → Val) (xs : List X) (i : ℕ) (d : X)
    → i < length xs → f (view (get_or xs i d)) t ≡ None → all_in f (map view xs) t ≡ None
all_in-none f t view [] i d h k = absurd (omega arith)
all_in-none f t view (x ∷ xs) zero d h k = rw k refl
all_in-none f t view (x ∷ xs) (suc i) d h k = rw (all_in-none f t view xs i d (omega arith) k) (prepended-none (f (view x) t))

pub ruleset all_in_steps = (all_in-push, all_in-none)

pub All-push : {X : Type 0} (P : X → Type 0) (xs : List X) (y : X) → All P xs → P y → All P (xs ++ (y ∷ []))
All-push P xs y h p = All-append P xs (y ∷ []) h (All-cons P y [] p (All-nil P))
