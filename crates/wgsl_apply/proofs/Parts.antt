-- Zero values, part by part.
use Rattle.std.proofs.Common.{◌≡◌, ℕ, zero, suc, ◌+◌, ◌<◌, List, [], ◌∷◌, ◌++◌, map, take, length, get_or, Option, Some, None, refl, sym, ap, ap₂, subst, arith, add-one, length-append}
use Rattle.std.specs.Prelude.{option_map, IfSome, IfOk, Result, Ok, Err}
use Rattle.wgsl_rules.specs.Converted.{joined}
use Rattle.wgsl_rules.specs.Types.{Ty}
use Rattle.wgsl_rules.specs.Values.{Val, Vals, no_vals, val, type_of, IsStorable}
use Rattle.wgsl_rules.specs.View.{type_view, member_view, members_view}
use Rattle.wgsl_rules.specs.declared.ty.StructMemberType.{StructMemberType}
use Rattle.wgsl_rules.proofs.lemmas.Views.{member-type}
use Rattle.wgsl_values.specs.View.{vals_of}
use Rattle.wgsl_values.proofs.Conversions.{joined-none}
use Rattle.wgsl_apply.specs.Zeros.{copies, zero_of, zeros_of}
use Rattle.wgsl_apply.proofs.Zeros.{zero-is}

-- ---- copies

pub copies-push : {X : Type 0} (view : X → Val) (xs : List X) (y : X) (i : ℕ) (v : Val) → vals_of (map view xs) ≡ copies i v → view y ≡ v → vals_of (map view (xs ++ (y ∷ []))) ≡ copies (i + 1) v
copies-push view [] y zero v e is = ap (λ (x : Val). val x no_vals) is
copies-push view [] y (suc i) v e is = absurd (cc)
copies-push view (x ∷ xs) y zero v e is = absurd (cc)
copies-push view (x ∷ xs) y (suc i) v e is =
    let first : view x ≡ v = cc in
    let rest : vals_of (map view xs) ≡ copies i v = cc in
    let more = copies-push view xs y i v rest is in
    rw add-one (ap₂ val first (rw add-one at more))

pub copies-more : {X : Type 0} (view : X → Val) (xs : List X) (y : X) (v : Val) → vals_of (map view xs) ≡ copies (length xs) v → view y ≡ v → vals_of (map view (xs ++ (y ∷ []))) ≡ copies (length (xs ++ (y ∷ []))) v
copies-more view xs y v e is = rw (length-append xs (y ∷ [])) (copies-push view xs y (length xs) v e is)

-- ---- members

joined-step : {X : Type 0} (view : X → Val) (o : Option Val) (p q : Option Vals) (ws : List X) (y : X) → joined o p ≡ Some (vals_of (map view ws))
    → ((rest : List X) → p ≡ Some (vals_of (map view rest)) → q ≡ Some (vals_of (map view (rest ++ (y ∷ []))))) → joined o q ≡ Some (vals_of (map view (ws ++ (y ∷ []))))
joined-step view None p q ws y h k = cc
joined-step view (Some x) None q ws y h k = cc
joined-step view (Some x) (Some xs) q [] y h k = cc
joined-step view (Some x) (Some xs) q (w ∷ ws) y h k =
    let e : x ≡ view w = cc in
    let f : xs ≡ vals_of (map view ws) = cc in
    rw (k ws (ap Some f), e) refl

zeros-step : {X : Type 0} (view : X → Val) (ms : List StructMemberType) (i : ℕ) (d : StructMemberType) (out : List X) (y : X)
    → i < length ms → zeros_of (members_view (take i ms)) ≡ Some (vals_of (map view out)) → zero_of (type_view (get_or ms i d).ty) ≡ Some (view y)
    → zeros_of (members_view (take (i + 1) ms)) ≡ Some (vals_of (map view (out ++ (y ∷ []))))
zeros-step view [] i d out y h e k = absurd (omega arith)
zeros-step view (m ∷ ms) zero d [] y h e k = rw (member-type m, k) refl
zeros-step view (m ∷ ms) zero d (w ∷ ws) y h e k = cc
zeros-step view (m ∷ ms) (suc i) d out y h e k =
    rw add-one (joined-step view (zero_of (member_view m).ty) (zeros_of (members_view (take i ms))) (zeros_of (members_view (take (suc i) ms))) out y e
    (λ rest p. let more = zeros-step view ms i d rest y (omega arith) p k in rw add-one at more))

zeros-none : (ms : List StructMemberType) (i : ℕ) (d : StructMemberType) → i < length ms → zero_of (type_view (get_or ms i d).ty) ≡ None → zeros_of (members_view ms) ≡ None
zeros-none [] i d h k = absurd (omega arith)
zeros-none (m ∷ ms) zero d h k = rw (member-type m, k) refl
zeros-none (m ∷ ms) (suc i) d h k = rw (zeros-none ms i d (omega arith) k) (joined-none (zero_of (member_view m).ty))

pub members-push : {X : Type 0} (view : X → Val) (ms : List StructMemberType) (i : ℕ) (m : StructMemberType) (out : List X) (y : X)
    → i < length ms → m ≡ get_or ms i m → zeros_of (members_view (take i ms)) ≡ Some (vals_of (map view out)) → Some (view y) ≡ zero_of (type_view m.ty)
    → zeros_of (members_view (take (i + 1) ms)) ≡ Some (vals_of (map view (out ++ (y ∷ []))))
members-push view ms i m out y h is e k =
    zeros-step view ms i m out y h e (subst (λ (n : StructMemberType). zero_of (type_view n.ty) ≡ Some (view y)) is (sym k))

pub members-none : (ms : List StructMemberType) (i : ℕ) (m : StructMemberType) → i < length ms → m ≡ get_or ms i m → None ≡ zero_of (type_view m.ty) → None ≡ zeros_of (members_view ms)
members-none ms i m h is k =
    sym (zeros-none ms i m h (subst (λ (n : StructMemberType). zero_of (type_view n.ty) ≡ None) is (sym k)))

-- ---- what was made, if it was

pub some-zero : {X : Type 0} (view : X → Val) (o : Option X) (t : Ty) → option_map view o ≡ zero_of t → IfSome o (λ x. IsStorable (view x) × (type_of (view x) ≡ t))
some-zero view None t e = tt
some-zero view (Some x) t e = let z = zero-is t (view x) (sym e) in (z.storable, z.typed)

-- what a call makes, if it gives an answer
pub ok-zero : {X E : Type 0} (view : X → Val) (r : Result (Option X) E) (t : Ty) → IfOk r (λ o. option_map view o ≡ zero_of t) → IfOk r (λ o. IfSome o (λ x. IsStorable (view x) × (type_of (view x) ≡ t)))
ok-zero view (Ok o) t e = some-zero view o t e
ok-zero view (Err x) t e = tt
