-- What constructors make, from what their parts are.
use Rattle.std.proofs.Common.{◌≡◌, ◌∙◌, ◌*◌, ℕ, List, [], ◌∷◌, length, map, false, Option, Some, refl, sym, ap, eq-eqb}
use Rattle.std.proofs.lemmas.List.{length-map}
use Rattle.std.specs.Option.{option_and_then, option_map}
use Rattle.wgsl_rules.specs.Converted.{converted}
use Rattle.wgsl_rules.specs.InCommon.{all_in_common}
use Rattle.wgsl_rules.specs.Types.{Ty}
use Rattle.wgsl_rules.specs.Values.{Val, array_of}
use Rattle.wgsl_scalar.specs.Literals.{literal_of}
use Rattle.wgsl_scalar.specs.declared.literal.LiteralInstance.{LiteralInstance}
use Rattle.wgsl_values.specs.View.{vals_of}
use Rattle.wgsl_eval.specs.Constructors.{array_made, common_array, common_scalars, common_vector, components_for, constructed, conversion_for, conversion_of, made_of, matrix_made, matrix_of, of_length, scalars_of, vector_made, vector_of}
use Rattle.wgsl_eval.specs.Lists.{each_of}
use Rattle.wgsl_eval.specs.declared.literals.Conversion.{Conversion}

pub of_length-some : (n : ℕ) (vs : List Val) → length vs ≡ n → of_length n vs ≡ Some vs
of_length-some n vs h = rw (eq-eqb (length vs) n h) refl

-- each of the parts, and what is made of them
pub made-through : {A : Type 0} (f : A → Val) (g : List Val → Option A) (o : Option (List Val)) (cs : List Val) (ws : A) → o ≡ Some cs → g cs ≡ Some ws
    → option_map f (option_and_then g o) ≡ Some (f ws)
made-through f g o cs ws h k = rw (h, k) refl

pub vector-is : (n : ℕ) (t : Ty) (vs cs ws : List Val) (c : Conversion) → of_length n (components_for n vs) ≡ Some cs → c ≡ conversion_for vs
    → each_of (conversion_of c t) cs ≡ Some ws → vector_made n t vs ≡ Some (vector_of ws)
vector-is n t vs cs ws c h k e = made-through vector_of (each_of (conversion_of (conversion_for vs) t)) (of_length n (components_for n vs)) cs ws h (rw (← k) e)

pub matrix-is : (c r : ℕ) (t : Ty) (vs cs ws : List Val) → of_length (c * r) (scalars_of vs) ≡ Some cs → each_of (λ v. converted v t) cs ≡ Some ws
    → matrix_made c r t vs ≡ Some (matrix_of c r ws)
matrix-is c r t vs cs ws h e = made-through (matrix_of c r) (each_of (λ v. converted v t)) (of_length (c * r) (scalars_of vs)) cs ws h e

-- values are made of some as of these
pub constructed-some : (t : Ty) (vs : List Val) → (vs ≡ [] → ⊥) → constructed t vs ≡ made_of t vs
constructed-some t [] h = absurd (h refl)
constructed-some t (v ∷ vs) h = refl

pub literals-of_length : (n : ℕ) (vs : List Val) (ls : List LiteralInstance) → map literal_of ls ≡ vs → length ls ≡ n → of_length n vs ≡ Some (map literal_of ls)
literals-of_length n vs ls h k = of_length-some n vs (ap length (sym h) ∙ length-map ls literal_of ∙ k) ∙ ap Some (sym h)

pub array-is : (n : ℕ) (t : Ty) (vs ws : List Val) → length vs ≡ n → each_of (λ v. converted v t) vs ≡ Some ws
    → array_made n t vs ≡ Some (array_of false (vals_of ws))
array-is n t vs ws h e = made-through (λ us. array_of false (vals_of us)) (each_of (λ v. converted v t)) (of_length n vs) vs ws (of_length-some n vs h) e

pub common-vector-is : (n : ℕ) (vs cs ws : List Val) → (vs ≡ [] → ⊥) → of_length n (components_for n vs) ≡ Some cs → all_in_common converted cs ≡ Some ws
    → common_vector n vs ≡ Some (vector_of ws)
common-vector-is n [] cs ws h k e = absurd (h refl)
common-vector-is n (v ∷ vs) cs ws h k e = made-through vector_of (all_in_common converted) (of_length n (components_for n (v ∷ vs))) cs ws k e

-- the scalars of a matrix, where they have a common type
pub common-scalars-are : (c r : ℕ) (vs cs ws : List Val) → of_length (c * r) (scalars_of vs) ≡ Some cs → all_in_common converted cs ≡ Some ws
    → common_scalars c r vs ≡ Some ws
common-scalars-are c r vs cs ws k e = ap (option_and_then (all_in_common converted)) k ∙ e

pub common-array-is : (vs ws : List Val) → all_in_common converted vs ≡ Some ws → common_array vs ≡ Some (array_of false (vals_of ws))
common-array-is vs ws e = rw e refl
