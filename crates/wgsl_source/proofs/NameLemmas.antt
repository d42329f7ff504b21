-- What a name stands for is one.
use Rattle.std.proofs.Common.{◌≡◌, ◌≢◌, ℕ, zero, suc, List, ◌∷◌, ◌++◌, Option, Some, codes, arith, subst}
use Rattle.wgsl_source.specs.Names.{scalar_text, BeginsWithDimension, NamesVector, NamesMatrix, Names}
use Rattle.wgsl_source.specs.declared.names.Generator.TheVariants as generators
use Rattle.wgsl_source.specs.declared.names.Predeclared.{Predeclared}
use Rattle.wgsl_source.specs.declared.names.Predeclared.TheVariants as named
use Rattle.wgsl_source.specs.declared.names.Scalar.{Scalar}

-- a text that begins with none of the three digits begins with no dimension
pub no_dimension : (text : List ℕ) → ((rest : List ℕ) → text ≢ 50 ∷ rest) → ((rest : List ℕ) → text ≢ 51 ∷ rest) → ((rest : List ℕ) → text ≢ 52 ∷ rest) → (n : ℕ) (rest : List ℕ) → BeginsWithDimension text n rest → ⊥
no_dimension text two three four zero rest h = omega (arith, h.0)
no_dimension text two three four (suc zero) rest h = omega (arith, h.0)
no_dimension text two three four (suc (suc zero)) rest h = two rest h.1
no_dimension text two three four (suc (suc (suc zero))) rest h = three rest h.1
no_dimension text two three four (suc (suc (suc (suc zero)))) rest h = four rest h.1
no_dimension text two three four (suc (suc (suc (suc (suc n))))) rest h = omega (arith, h.0)

-- behind the columns stands an `x`
pub no_rows : (text after : List ℕ) → ((n : ℕ) (rest : List ℕ) → BeginsWithDimension text n rest → after ≡ rest) → ((rest : List ℕ) → after ≢ 120 ∷ rest) → (p : Predeclared) → NamesMatrix text p → ⊥
no_rows text after one none (named.Mat c r s) h = none h.1.0 (one c (120 ∷ h.1.0) h.1.1)
no_rows text after one none (named.Generator (generators.Mat c r)) h = none h.0 (one c (120 ∷ h.0) h.1)
no_rows text after one none (named.Generator (generators.Vec n)) h = h
no_rows text after one none (named.Generator generators.Array) h = h
no_rows text after one none (named.Generator generators.Atomic) h = h
no_rows text after one none (named.Scalar s) h = h
no_rows text after one none (named.Vec n s) h = h

pub behind_vec : (name rest : List ℕ) (r : Option Predeclared) → name ≡ codes "vec" ++ rest → ((s : Scalar) → name ≢ scalar_text s) → ((p : Predeclared) → NamesVector rest p → r ≡ Some p) → (p : Predeclared) → Names name p → r ≡ Some p
behind_vec name rest r e none each (named.Scalar s) h = absurd (none s h)
behind_vec name rest r e none each (named.Vec n s) h =
    let P : List ℕ → Type 0 = λ t. NamesVector t (named.Vec n s) in
    let same : h.0 ≡ rest = cc (e, h.1) in each (named.Vec n s) (subst P same h.2)
behind_vec name rest r e none each (named.Mat c q s) h = absurd (grind (arith, e, h.1))
behind_vec name rest r e none each (named.Generator (generators.Vec n)) h =
    let P : List ℕ → Type 0 = λ t. NamesVector t (named.Generator (generators.Vec n)) in
    let same : h.0 ≡ rest = cc (e, h.1) in each (named.Generator (generators.Vec n)) (subst P same h.2)
behind_vec name rest r e none each (named.Generator (generators.Mat c q)) h = absurd (grind (arith, e, h.1))
behind_vec name rest r e none each (named.Generator generators.Array) h = absurd (grind (arith, e, h))
behind_vec name rest r e none each (named.Generator generators.Atomic) h = absurd (grind (arith, e, h))

pub behind_mat : (name rest : List ℕ) (r : Option Predeclared) → name ≡ codes "mat" ++ rest → ((s : Scalar) → name ≢ scalar_text s) → ((p : Predeclared) → NamesMatrix rest p → r ≡ Some p) → (p : Predeclared) → Names name p → r ≡ Some p
behind_mat name rest r e none each (named.Scalar s) h = absurd (none s h)
behind_mat name rest r e none each (named.Mat c q s) h =
    let P : List ℕ → Type 0 = λ t. NamesMatrix t (named.Mat c q s) in
    let same : h.0 ≡ rest = cc (e, h.1) in each (named.Mat c q s) (subst P same h.2)
behind_mat name rest r e none each (named.Vec n s) h = absurd (grind (arith, e, h.1))
behind_mat name rest r e none each (named.Generator (generators.Mat c q)) h =
    let P : List ℕ → Type 0 = λ t. NamesMatrix t (named.Generator (generators.Mat c q)) in
    let same : h.0 ≡ rest = cc (e, h.1) in each (named.Generator (generators.Mat c q)) (subst P same h.2)
behind_mat name rest r e none each (named.Generator (generators.Vec n)) h = absurd (grind (arith, e, h.1))
behind_mat name rest r e none each (named.Generator generators.Array) h = absurd (grind (arith, e, h))
behind_mat name rest r e none each (named.Generator generators.Atomic) h = absurd (grind (arith, e, h))
