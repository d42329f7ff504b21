-- What a value that may be stored converts to may be stored.
use Rattle.std.proofs.Common.{◌≡◌, suc, List, [], ◌∷◌, map, length, All, Option, Some, None, option_map, refl, sym, ap}
use Rattle.std.specs.Prelude.{IfOk, IfSome, Result, Ok, Err, option_and_then}
use Rattle.std.proofs.lemmas.List.Elements.{All-nil, All-cons, All-head, All-tail}
use Rattle.wgsl_rules.specs.Conversion.{common_type_of}
use Rattle.wgsl_rules.specs.Converted.{converted}
use Rattle.wgsl_rules.specs.InCommon.{all_in, all_in_common, prepended}
use Rattle.wgsl_rules.specs.Types.{Ty}
use Rattle.wgsl_rules.specs.Values.{Val, type_of, IsStorable}
use Rattle.wgsl_rules.proofs.lemmas.Converted.{converted-type, storable-well_formed}
use Rattle.wgsl_values.proofs.lemmas.ConvertedValues.{converted-storable}

-- what was converted, if it was
pub some-converted : {X : Type 0} (view : X → Val) (o : Option X) (v : Val) (t : Ty) → option_map view o ≡ converted v t → IsStorable v → IfSome o (λ x. IsStorable (view x) × (type_of (view x) ≡ t))
some-converted view None v t e h = tt
some-converted view (Some x) v t e h = (converted-storable v (view x) t h (sym e), converted-type v (view x) t (storable-well_formed v h) (sym e))

-- ---- several values

record IsPrepended (o : Option Val) (os : Option (List Val)) (w : Val) (ws : List Val) : Type 0 where
  first : o ≡ Some w
  rest : os ≡ Some ws

none-prepended : {P : Type 0} (o : Option Val) (os : Option (List Val)) → prepended o os ≡ Some [] → P
none-prepended None os e = absurd (cc)
none-prepended (Some v) None e = absurd (cc)
none-prepended (Some v) (Some vs) e = absurd (cc)

one-prepended : (o : Option Val) (os : Option (List Val)) (w : Val) (ws : List Val) → prepended o os ≡ Some (w ∷ ws) → IsPrepended o os w ws
one-prepended None os w ws e = absurd (cc)
one-prepended (Some v) None w ws e = absurd (cc)
one-prepended (Some v) (Some vs) w ws e = let first : v ≡ w = cc in let rest : vs ≡ ws = cc in record { first = ap (λ x. Some x) first; rest = ap (λ x. Some x) rest }

pub record AreConverted {X : Type 0} (view : X → Val) (xs ys : List X) : Type 0 where
  pub storable : All (λ y. IsStorable (view y)) ys
  pub many : length ys ≡ length xs

all-converted : {X : Type 0} (view : X → Val) (xs ys : List X) (t : Ty) → all_in converted (map view xs) t ≡ Some (map view ys) → All (λ x. IsStorable (view x)) xs → AreConverted view xs ys
all-converted {X} view [] [] t e h = record { storable = All-nil (λ (y : X). IsStorable (view y)); many = refl }
all-converted view [] (y ∷ ys) t e h = absurd (cc)
all-converted view (x ∷ xs) [] t e h = none-prepended (converted (view x) t) (all_in converted (map view xs) t) e
all-converted {X} view (x ∷ xs) (y ∷ ys) t e h =
    let p = one-prepended (converted (view x) t) (all_in converted (map view xs) t) (view y) (map view ys) e in
    let rest = all-converted view xs ys t p.rest (All-tail (λ (x : X). IsStorable (view x)) x xs h) in
    let first = converted-storable (view x) (view y) t (All-head (λ (x : X). IsStorable (view x)) x xs h) p.first in
    record { storable = All-cons (λ (y : X). IsStorable (view y)) y ys first rest.storable; many = ap suc rest.many }

in-type : {X : Type 0} (view : X → Val) (xs ys : List X) (o : Option Ty) → Some (map view ys) ≡ option_and_then (all_in converted (map view xs)) o → All (λ x. IsStorable (view x)) xs → AreConverted view xs ys
in-type view xs ys None e h = absurd (cc)
in-type view xs ys (Some t) e h = all-converted view xs ys t (sym e) h

pub in-common : {X : Type 0} (view : X → Val) (xs ys : List X) → Some (map view ys) ≡ all_in_common converted (map view xs) → All (λ x. IsStorable (view x)) xs → AreConverted view xs ys
in-common view xs ys e h = in-type view xs ys (common_type_of (map type_of (map view xs))) e h

-- what a call converts, if it gives an answer
pub ok-converted : {X E : Type 0} (view : X → Val) (r : Result (Option X) E) (v : Val) (t : Ty) → IfOk r (λ o. option_map view o ≡ converted v t) → IsStorable v → IfOk r (λ o. IfSome o (λ x. IsStorable (view x) × (type_of (view x) ≡ t)))
ok-converted view (Ok o) v t e h = some-converted view o v t e h
ok-converted view (Err x) v t e h = tt

-- the same of several values
pub ok-storable : {X V E : Type 0} (view : X → Val) (items : V → List X) (xs : List X) (r : Result (Option V) E) → IfOk r (λ o. option_map (λ v. map view (items v)) o ≡ all_in_common converted (map view xs))
    → All (λ x. IsStorable (view x)) xs → IfOk r (λ o. IfSome o (λ v. All (λ y. IsStorable (view y)) (items v)))
ok-storable view items xs (Ok None) e h = tt
ok-storable view items xs (Ok (Some v)) e h = (in-common view xs (items v) e h).storable
ok-storable view items xs (Err x) e h = tt

pub ok-many : {X V E : Type 0} (view : X → Val) (items : V → List X) (xs : List X) (r : Result (Option V) E) → IfOk r (λ o. option_map (λ v. map view (items v)) o ≡ all_in_common converted (map view xs))
    → All (λ x. IsStorable (view x)) xs → IfOk r (λ o. IfSome o (λ v. length (items v) ≡ length xs))
ok-many view items xs (Ok None) e h = tt
ok-many view items xs (Ok (Some v)) e h = (in-common view xs (items v) e h).many
ok-many view items xs (Err x) e h = tt
