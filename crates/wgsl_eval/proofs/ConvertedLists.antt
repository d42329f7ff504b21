-- Steps of loops over values, each of which becomes one of a type, and what may be stored of the scalars of values.
use Rattle.std.proofs.Common.{◌≡◌, ◌∙◌, ◌==◌, ℕ, ◌+◌, ◌<◌, List, [], ◌∷◌, ◌++◌, length, get_or, take, map, All, Bool, true, false, Option, Some, None, IfSome, sym, ap, subst, if◌then◌else◌}
use Rattle.std.proofs.lemmas.List.Elements.{All-append, All-cons, All-get_or, All-head, All-map, All-nil, All-push, All-replicate, All-tail}
use Rattle.std.specs.Option.{option_map}
use Rattle.wgsl_rules.specs.Converted.{converted}
use Rattle.wgsl_rules.specs.Values.{Val, Vals, no_vals, val, truth, number, vector, AreStorable, IsStorable, IsWellFormed, type_of}
use Rattle.wgsl_rules.specs.Types.{Ty}
use Rattle.wgsl_rules.specs.View.{members_view, type_view}
use Rattle.wgsl_rules.specs.declared.ty.StructMemberType.{StructMemberType}
use Rattle.wgsl_scalar.specs.Literals.{literal_of}
use Rattle.wgsl_scalar.specs.declared.literal.LiteralInstance.{LiteralInstance}
use Rattle.wgsl_values.specs.View.{value_of}
use Rattle.wgsl_values.specs.declared.instance.Instance.{Instance}
use Rattle.wgsl_eval.proofs.Each.{each_of-push}
use Rattle.wgsl_eval.proofs.StructureMembers.{members-push}
use Rattle.wgsl_eval.specs.Answers.{AreSound}
use Rattle.wgsl_eval.specs.Constructors.{components_for, listed, members_made, of_length, scalars_in, scalars_of}
use Rattle.wgsl_eval.specs.Lists.{each_of}
use Rattle.wgsl_rules.proofs.lemmas.Converted.{storable-well_formed as well_formed}

placed-storable : (xs : List Instance) (i : ℕ) (x : Instance) → AreSound xs → i < length xs → x ≡ get_or xs i x → IsStorable (value_of x)
placed-storable xs i x sound h is =
    let P : Instance → Type 0 = λ v. IsStorable (value_of v) in
    subst P (sym is) (All-get_or P xs i x h sound)

-- ---- steps of loops

pub each-converted : (t : Ty) (xs : List Instance) (i : ℕ) (x y : Instance) (o : Option Instance) (out : List Instance) → AreSound xs → i < length xs
    → x ≡ get_or xs i x → (IsStorable (value_of x) → option_map value_of o ≡ converted (value_of x) t) → o ≡ Some y
    → each_of (λ v. converted (value_of v) t) (take i xs) ≡ Some (map value_of out)
    → each_of (λ v. converted (value_of v) t) (take (i + 1) xs) ≡ Some (map value_of (out ++ y ∷ []))
each-converted t xs i x y o out sound h is k made e =
    let Q : Instance → Type 0 = λ v. converted (value_of v) t ≡ Some (value_of y) in
    let step : Q (get_or xs i x) = subst Q is (sym (k (placed-storable xs i x sound h is)) ∙ ap (option_map value_of) made) in
    each_of-push (λ v. converted (value_of v) t) value_of xs i x out y h e step

pub member-converted : (ms : List StructMemberType) (vs : List Instance) (i : ℕ) (m : StructMemberType) (v y : Instance) (o : Option Instance) (out : List Instance)
    → AreSound vs → i < length vs → length vs ≡ length ms → v ≡ get_or vs i v
    → (IsStorable (value_of v) → option_map value_of o ≡ converted (value_of v) (type_view (get_or ms i m).ty)) → o ≡ Some y
    → members_made (members_view (take i ms)) (map value_of (take i vs)) ≡ Some (map value_of out)
    → members_made (members_view (take (i + 1) ms)) (map value_of (take (i + 1) vs)) ≡ Some (map value_of (out ++ y ∷ []))
member-converted ms vs i m v y o out sound h counted is k made e =
    let Q : Instance → Type 0 = λ w. converted (value_of w) (type_view (get_or ms i m).ty) ≡ Some (value_of y) in
    let step : Q (get_or vs i v) = subst Q is (sym (k (placed-storable vs i v sound h is)) ∙ ap (option_map value_of) made) in
    members-push ms vs i m v out y h counted e step

-- what was converted may be stored
pub push-sound : (out : List Instance) (o : Option Instance) (y : Instance) (t : Ty) → AreSound out
    → IfSome o (λ v. IsStorable (value_of v) × (type_of (value_of v) ≡ t)) → o ≡ Some y → AreSound (out ++ y ∷ [])
push-sound out o y t sound h made =
    let P : Instance → Type 0 = λ v. IsStorable (value_of v) in
    let Q : Option Instance → Type 0 = λ p. IfSome p (λ v. IsStorable (value_of v) × (type_of (value_of v) ≡ t)) in
    let is : Q (Some y) = subst Q made h in
    All-push P out y sound is.0

-- ---- scalars that may be stored

listed-storable : (vs : Vals) → AreStorable vs → All IsStorable (listed vs)
listed-storable no_vals h = All-nil IsStorable
listed-storable (val v vs) h = All-cons IsStorable v (listed vs) h.0 (listed-storable vs h.1)

scalars_in-storable : (v : Val) → IsStorable v → All IsStorable (scalars_in v)
scalars_in-storable (vector vs) h = listed-storable vs h.4
scalars_in-storable v h = All-cons IsStorable v [] h (All-nil IsStorable)

scalars_of-storable : (vs : List Val) → All IsStorable vs → All IsStorable (scalars_of vs)
scalars_of-storable [] h = All-nil IsStorable
scalars_of-storable (v ∷ vs) h =
    All-append IsStorable (scalars_in v) (scalars_of vs) (scalars_in-storable v (All-head IsStorable v vs h)) (scalars_of-storable vs (All-tail IsStorable v vs h))

components-storable : (n : ℕ) (vs : List Val) → All IsStorable vs → All IsStorable (components_for n vs)
components-storable n (truth b ∷ []) h = All-replicate IsStorable n (truth b) (All-head IsStorable (truth b) [] h)
components-storable n (number k z ∷ []) h = All-replicate IsStorable n (number k z) (All-head IsStorable (number k z) [] h)
components-storable n vs h = scalars_of-storable vs h

literals-well_formed : (ls : List LiteralInstance) → All IsStorable (map literal_of ls) → All (λ l. IsWellFormed (literal_of l)) ls
literals-well_formed [] h = All-nil (λ (l : LiteralInstance). IsWellFormed (literal_of l))
literals-well_formed (l ∷ ls) h =
    All-cons (λ (x : LiteralInstance). IsWellFormed (literal_of x)) l ls (well_formed (literal_of l) (All-head IsStorable (literal_of l) (map literal_of ls) h))
    (literals-well_formed ls (All-tail IsStorable (literal_of l) (map literal_of ls) h))

chosen-storable : (b : Bool) (vs ws : List Val) → All IsStorable vs → (if b then Some vs else None) ≡ Some ws → All IsStorable ws
chosen-storable true vs ws h e = let same : vs ≡ ws = cc in subst (λ (us : List Val). All IsStorable us) same h
chosen-storable false vs ws h e = absurd (cc)

sound-storable : (xs : List Instance) → AreSound xs → All IsStorable (map value_of xs)
sound-storable xs h = All-map IsStorable value_of xs h

-- the literals that are as many components as a vector has
pub components-well_formed : (n : ℕ) (xs : List Instance) (ls : List LiteralInstance) → AreSound xs
    → of_length n (components_for n (map value_of xs)) ≡ Some (map literal_of ls) → All (λ l. IsWellFormed (literal_of l)) ls
components-well_formed n xs ls sound e =
    literals-well_formed ls
    (chosen-storable (length (components_for n (map value_of xs)) == n) (components_for n (map value_of xs)) (map literal_of ls)
    (components-storable n (map value_of xs) (sound-storable xs sound)) e)

-- the literals that are as many as a matrix has
pub scalars-well_formed : (n : ℕ) (xs : List Instance) (ls : List LiteralInstance) → AreSound xs
    → of_length n (scalars_of (map value_of xs)) ≡ Some (map literal_of ls) → All (λ l. IsWellFormed (literal_of l)) ls
scalars-well_formed n xs ls sound e =
    literals-well_formed ls
    (chosen-storable (length (scalars_of (map value_of xs)) == n) (scalars_of (map value_of xs)) (map literal_of ls)
    (scalars_of-storable (map value_of xs) (sound-storable xs sound)) e)
