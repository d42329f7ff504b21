-- The scalars of values.
use Rattle.std.specs.declared.alloc.AllocError.{AllocError}
use Rattle.std.proofs.Common.{◌≡◌, ◌≢◌, ◌∙◌, ℕ, zero, suc, ◌+◌, ◌<◌, List, [], ◌∷◌, ◌++◌, length, get_or, take, map, replicate, refl, sym, ap, arith, add-one, append_assoc, subst, Bool, IsTrue, IfOk, Result}
use Rattle.std.proofs.lemmas.List.{append-nil, length-map, map-append, take_more}
use Rattle.wgsl_rules.specs.Paths.{parts}
use Rattle.wgsl_rules.specs.Values.{Val, truth, number, vector, IsLiteral, IsVector}
use Rattle.wgsl_scalar.specs.Literals.{literal_of}
use Rattle.wgsl_scalar.specs.declared.literal.LiteralInstance.{LiteralInstance}
use Rattle.wgsl_scalar.specs.declared.literal.LiteralInstance.TheVariants as literals
use Rattle.wgsl_values.proofs.lemmas.Views.{value_of-Literal, value_of-Vec, vec_view-is}
use Rattle.wgsl_values.specs.View.{vals_view, value_of, vec_view}
use Rattle.wgsl_values.specs.declared.instance.Instance.{Instance, Literal, Vec}
use Rattle.wgsl_values.specs.declared.vector.VecInstance.{VecInstance}
use Rattle.wgsl_eval.specs.Constructors.{components_for, conversion_for, listed, scalars_in, scalars_of}
use Rattle.wgsl_eval.specs.declared.literals.Conversion.TheVariants.{Automatic, Written}
use Rattle.wgsl_value_ops.proofs.InPlace.{listed-vals}

-- ---- scalars and vectors

scalars_in-literal : (l : LiteralInstance) → scalars_in (literal_of l) ≡ literal_of l ∷ []
scalars_in-literal (literals.Bool b) = refl
scalars_in-literal (literals.AbstractInt z) = refl
scalars_in-literal (literals.I32 z) = refl
scalars_in-literal (literals.U32 n) = refl
scalars_in-literal (literals.I64 z) = refl
scalars_in-literal (literals.U64 n) = refl

pub scalars_in-Literal : (l : LiteralInstance) → scalars_in (value_of (Literal l)) ≡ literal_of l ∷ []
scalars_in-Literal l = rw (value_of-Literal l) (scalars_in-literal l)

pub scalars_in-Vec : (v : VecInstance) (cs : List Instance) → vals_view cs ≡ parts (vec_view v) → scalars_in (value_of (Vec v)) ≡ map value_of cs
scalars_in-Vec v cs h =
    let e : vals_view cs ≡ vals_view v.components.items = h ∙ ap parts (vec_view-is v) in
    rw (value_of-Vec v, vec_view-is v) (ap listed (sym e) ∙ listed-vals (map value_of cs))

pub literal-pushed : (ls : List LiteralInstance) (l : LiteralInstance) → map literal_of (ls ++ l ∷ []) ≡ map literal_of ls ++ scalars_in (value_of (Literal l))
literal-pushed ls l = rw (scalars_in-Literal l) (map-append literal_of ls (l ∷ []))

-- ---- steps of loops

pub scalars_of-more : (xs : List Instance) (i : ℕ) (d : Instance) → i < length xs
    → scalars_of (map value_of (take (i + 1) xs)) ≡ scalars_of (map value_of (take i xs)) ++ scalars_in (value_of (get_or xs i d))
scalars_of-more [] i d h = absurd (omega arith)
scalars_of-more (x ∷ xs) zero d h = append-nil (scalars_in (value_of x))
scalars_of-more (x ∷ xs) (suc i) d h =
    let more : scalars_of (map value_of (take (suc i) xs)) ≡ scalars_of (map value_of (take i xs)) ++ scalars_in (value_of (get_or xs i d)) =
    (let step = scalars_of-more xs i d (omega arith) in rw add-one at step) in
    rw add-one (ap (λ ws. scalars_in (value_of x) ++ ws) more ∙ sym (append_assoc (scalars_in (value_of x)) (scalars_of (map value_of (take i xs))) (scalars_in (value_of (get_or xs i d)))))

pub scalars-more : (ls ms : List LiteralInstance) (xs : List Instance) (i : ℕ) (d : Instance) → i < length xs
    → map literal_of ls ≡ scalars_of (map value_of (take i xs)) → map literal_of ms ≡ map literal_of ls ++ scalars_in (value_of (get_or xs i d))
    → map literal_of ms ≡ scalars_of (map value_of (take (i + 1) xs))
scalars-more ls ms xs i d h k e = e ∙ ap (λ ws. ws ++ scalars_in (value_of (get_or xs i d))) k ∙ sym (scalars_of-more xs i d h)

pub components-more : (ls : List LiteralInstance) (all : List Val) (l : LiteralInstance) (xs : List Instance) (i : ℕ) (d : Instance) → i < length xs
    → map literal_of ls ≡ all ++ map value_of (take i xs) → literal_of l ≡ value_of (get_or xs i d)
    → map literal_of (ls ++ l ∷ []) ≡ all ++ map value_of (take (i + 1) xs)
components-more ls all l xs i d h k e =
    rw (take_more xs i d h, map-append literal_of ls (l ∷ []), map-append value_of (take i xs) (get_or xs i d ∷ []))
    (ap (λ ws. ws ++ literal_of l ∷ []) k ∙ append_assoc all (map value_of (take i xs)) (literal_of l ∷ [])
    ∙ ap (λ v. all ++ (map value_of (take i xs) ++ v ∷ [])) e)

pub instances-more : (is : List Instance) (y : Instance) (ls : List LiteralInstance) (i : ℕ) (d : LiteralInstance) → i < length ls
    → map value_of is ≡ map literal_of (take i ls) → value_of y ≡ literal_of (get_or ls i d)
    → map value_of (is ++ y ∷ []) ≡ map literal_of (take (i + 1) ls)
instances-more is y ls i d h k e =
    rw (take_more ls i d h, map-append value_of is (y ∷ []), map-append literal_of (take i ls) (get_or ls i d ∷ []))
    (ap (λ ws. ws ++ value_of y ∷ []) k ∙ ap (λ v. map literal_of (take i ls) ++ v ∷ []) e)

-- ---- one value alone

pub components-alone : (n : ℕ) (l : LiteralInstance) → components_for n (literal_of l ∷ []) ≡ replicate n (literal_of l)
components-alone n (literals.Bool b) = refl
components-alone n (literals.AbstractInt z) = refl
components-alone n (literals.I32 z) = refl
components-alone n (literals.U32 m) = refl
components-alone n (literals.I64 z) = refl
components-alone n (literals.U64 m) = refl

many-components : (n : ℕ) (vs : List Val) → length vs ≢ 1 → components_for n vs ≡ scalars_of vs
many-components n [] h = refl
many-components n (v ∷ []) h = absurd (h refl)
many-components n (truth b ∷ w ∷ vs) h = refl
many-components n (number k z ∷ w ∷ vs) h = refl
many-components n (v ∷ w ∷ vs) h = refl

pub components-other : (n : ℕ) (v : Val) → (IsLiteral v → ⊥) → components_for n (v ∷ []) ≡ scalars_of (v ∷ [])
components-other n (truth b) h = absurd (h tt)
components-other n (number k z) h = absurd (h tt)
components-other n v h = refl

pub map-replicated : (n : ℕ) (l : LiteralInstance) → map literal_of (replicate n l) ≡ replicate n (literal_of l)
map-replicated zero l = refl
map-replicated (suc n) l = ap (λ ws. literal_of l ∷ ws) (map-replicated n l)

pub splat : (n : ℕ) (ls : List LiteralInstance) (l : LiteralInstance) (vs : List Val) → ls ≡ replicate n l → vs ≡ literal_of l ∷ []
    → map literal_of ls ≡ components_for n vs
splat n ls l vs h k = ap (map literal_of) h ∙ map-replicated n l ∙ sym (components-alone n l) ∙ ap (components_for n) (sym k)

pub conversion-vector : (v : Val) → IsVector v → Written ≡ conversion_for (v ∷ [])
conversion-vector (vector ws) k = refl
conversion-vector v k = absurd k

pub conversion-other : (v : Val) → (IsVector v → ⊥) → Automatic ≡ conversion_for (v ∷ [])
conversion-other (vector ws) k = absurd (k tt)
conversion-other v k = refl

many-conversion : (vs : List Val) → length vs ≢ 1 → Automatic ≡ conversion_for vs
many-conversion [] h = refl
many-conversion (v ∷ []) h = absurd (h refl)
many-conversion (vector ws ∷ w ∷ vs) h = refl
many-conversion (v ∷ w ∷ vs) h = refl

pub components-many : (n : ℕ) (xs : List Instance) → length xs ≢ 1 → components_for n (map value_of xs) ≡ scalars_of (map value_of xs)
components-many n xs h = many-components n (map value_of xs) (λ e. h (sym (length-map xs value_of) ∙ e))

pub components-otherwise : (n : ℕ) (xs : List Instance) (v : Instance) → map value_of xs ≡ value_of v ∷ [] → (IsLiteral (value_of v) → ⊥)
    → components_for n (map value_of xs) ≡ scalars_of (map value_of xs)
components-otherwise n xs v h k = rw h (components-other n (value_of v) k)

pub conversion-many : (xs : List Instance) → length xs ≢ 1 → Automatic ≡ conversion_for (map value_of xs)
conversion-many xs h = many-conversion (map value_of xs) (λ e. h (sym (length-map xs value_of) ∙ e))

-- what the components of a vector add
pub vector-added : (r : Result Bool AllocError) (new old : List Val) (w : Instance) (v : VecInstance) (cs : List Instance) → w ≡ Vec v
    → vals_view cs ≡ parts (vec_view v) → IfOk r (λ b. IsTrue b → new ≡ old ++ map value_of cs) → IfOk r (λ b. IsTrue b → new ≡ old ++ scalars_in (value_of w))
vector-added r new old w v cs is h k =
    let e : map value_of cs ≡ scalars_in (value_of w) = sym (ap (λ x. scalars_in (value_of x)) is ∙ scalars_in-Vec v cs h) in
    subst (λ (ws : List Val). IfOk r (λ b. IsTrue b → new ≡ old ++ ws)) e k

pub ruleset scalar_steps = (scalars-more, components-more, instances-more, literal-pushed)

pub ruleset alone_steps = (splat, components-many, components-otherwise, conversion-vector, conversion-other, conversion-many)
