-- The names of types that the language has (WGSL: predeclared types and type-generators).
use Rattle.std.specs.Prelude.{◌≡◌, ℕ, ◌+◌, ◌≤◌, List, [], ◌∷◌, ◌++◌, ⊤, codes}
use Rattle.wgsl_rules.specs.Types as types
use Rattle.wgsl_rules.specs.Types.{Ty}
use Rattle.wgsl_source.specs.declared.names.Generator.TheVariants as generators
use Rattle.wgsl_source.specs.declared.names.Predeclared.{Predeclared}
use Rattle.wgsl_source.specs.declared.names.Predeclared.TheVariants as named
use Rattle.wgsl_source.specs.declared.names.Scalar.{Scalar}
use Rattle.wgsl_source.specs.declared.names.Scalar.TheVariants as scalars

-- ---- scalar types

abbrev pub scalar_type : Scalar → Ty
scalar_type scalars.Bool = types.bool
scalar_type scalars.I32 = types.i32
scalar_type scalars.U32 = types.u32
scalar_type scalars.F32 = types.f32
scalar_type scalars.F16 = types.f16
scalar_type scalars.I64 = types.i64
scalar_type scalars.U64 = types.u64
scalar_type scalars.F64 = types.f64

abbrev pub scalar_text : Scalar → List ℕ
scalar_text scalars.Bool = codes "bool"
scalar_text scalars.I32 = codes "i32"
scalar_text scalars.U32 = codes "u32"
scalar_text scalars.F32 = codes "f32"
scalar_text scalars.F16 = codes "f16"
scalar_text scalars.I64 = codes "i64"
scalar_text scalars.U64 = codes "u64"
scalar_text scalars.F64 = codes "f64"

-- this is the letter of the scalar in a short name
abbrev pub IsLetter : Scalar → List ℕ → Type 0
IsLetter scalars.I32 text = text ≡ codes "i"
IsLetter scalars.U32 text = text ≡ codes "u"
IsLetter scalars.F32 text = text ≡ codes "f"
IsLetter scalars.F16 text = text ≡ codes "h"
IsLetter s text = ⊥

-- matrices are of floats
abbrev pub IsFloat : Scalar → Type 0
IsFloat scalars.F32 = ⊤
IsFloat scalars.F16 = ⊤
IsFloat s = ⊥

-- ---- vectors and matrices

-- from 2 to 4 components, columns or rows
abbrev pub IsDimension : ℕ → Type 0
IsDimension n = (2 ≤ n) × (n ≤ 4)

-- the text begins with the digit of the dimension, and this comes behind it
abbrev pub BeginsWithDimension : List ℕ → ℕ → List ℕ → Type 0
BeginsWithDimension text n rest = IsDimension n × (text ≡ (48 + n) ∷ rest)

-- what comes behind `vec` in a name of it
abbrev pub NamesVector : List ℕ → Predeclared → Type 0
NamesVector rest (named.Vec n s) = (letter : List ℕ) × BeginsWithDimension rest n letter × IsLetter s letter
NamesVector rest (named.Generator (generators.Vec n)) = BeginsWithDimension rest n []
NamesVector rest p = ⊥

-- the columns, `x`, the rows, and what is behind them
abbrev pub BeginsWithDimensions : List ℕ → ℕ → ℕ → List ℕ → Type 0
BeginsWithDimensions text c r rest =
    (behind : List ℕ) × BeginsWithDimension text c (120 ∷ behind) × BeginsWithDimension behind r rest

-- what comes behind `mat` in a name of it
abbrev pub NamesMatrix : List ℕ → Predeclared → Type 0
NamesMatrix rest (named.Mat c r s) =
    (letter : List ℕ) × BeginsWithDimensions rest c r letter × IsLetter s letter × IsFloat s
NamesMatrix rest (named.Generator (generators.Mat c r)) = BeginsWithDimensions rest c r []
NamesMatrix rest p = ⊥

-- ---- all names

-- this is a name of it
abbrev pub Names : List ℕ → Predeclared → Type 0
Names name (named.Scalar s) = name ≡ scalar_text s
Names name (named.Vec n s) = (rest : List ℕ) × (name ≡ codes "vec" ++ rest) × NamesVector rest (named.Vec n s)
Names name (named.Mat c r s) = (rest : List ℕ) × (name ≡ codes "mat" ++ rest) × NamesMatrix rest (named.Mat c r s)
Names name (named.Generator (generators.Vec n)) =
    (rest : List ℕ) × (name ≡ codes "vec" ++ rest) × NamesVector rest (named.Generator (generators.Vec n))
Names name (named.Generator (generators.Mat c r)) =
    (rest : List ℕ) × (name ≡ codes "mat" ++ rest) × NamesMatrix rest (named.Generator (generators.Mat c r))
Names name (named.Generator generators.Array) = name ≡ codes "array"
Names name (named.Generator generators.Atomic) = name ≡ codes "atomic"
