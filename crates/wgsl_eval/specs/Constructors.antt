-- What constructors make of values (WGSL: value constructor built-in functions; zero value built-in functions).
use Rattle.std.specs.Prelude.{◌≡◌, ℕ, zero, suc, ◌*◌, ◌==◌, Bool, true, false, MatchBool, MatchOption, List, [], ◌∷◌, ◌++◌, length, map, take, drop, replicate, Option, Some, None, if◌then◌else◌}
use Rattle.std.specs.Option.{option_map, option_and_then}
use Rattle.wgsl_apply.specs.Zeros.{zero_of}
use Rattle.wgsl_functions.specs.Written.{written}
use Rattle.wgsl_rules.specs.Converted.{converted}
use Rattle.wgsl_rules.specs.InCommon.{all_in_common, prepended}
use Rattle.wgsl_rules.specs.Kinds as kinds
use Rattle.wgsl_rules.specs.Types as types
use Rattle.wgsl_rules.specs.Types.{Ty, Fields, no_fields, field}
use Rattle.wgsl_rules.specs.Values.{Val, truth, number, record_of, array_of, vector, matrix, Vals, no_vals, val}
use Rattle.wgsl_scalar.specs.Literals.{literal_of}
use Rattle.wgsl_values.specs.View.{vals_of}
use Rattle.wgsl_source.specs.declared.names.Generator.{Generator}
use Rattle.wgsl_source.specs.declared.names.Generator.TheVariants as generators
use Rattle.wgsl_eval.specs.Answers.{IsFault, IsSkippedOr, IsValueWith}
use Rattle.wgsl_eval.specs.Lists.{each_of}
use Rattle.wgsl_eval.specs.declared.answer.Answer.{Answer}
use Rattle.wgsl_eval.specs.declared.answer.Need.TheVariants as needs
use Rattle.wgsl_eval.specs.declared.literals.Conversion.{Conversion}
use Rattle.wgsl_eval.specs.declared.literals.Conversion.TheVariants as conversions
use Rattle.wgsl_eval.specs.declared.literals.Scalars.{Scalars}
use Rattle.wgsl_eval.specs.declared.literals.Scalars.TheVariants as scalars
use Rattle.wgsl_functions.specs.declared.parameters.Dialect.{Dialect}
use Rattle.wgsl_functions.specs.declared.parameters.Dialect.TheVariants as dialects

-- this value, or a fault in its place
abbrev pub MayBe : Option Val → Answer → Type 0
MayBe o = IsValueWith (λ v. o ≡ Some v)

-- the list, where it is of so many
abbrev pub of_length : ℕ → List Val → Option (List Val)
of_length n vs = if length vs == n then Some vs else None

-- ---- scalars

abbrev pub listed : Vals → List Val
listed no_vals = []
listed (val v vs) = v ∷ listed vs

-- the components of a vector; any other value itself
abbrev pub scalars_in : Val → List Val
scalars_in (vector vs) = listed vs
scalars_in v = v ∷ []

abbrev pub scalars_of : List Val → List Val
scalars_of [] = []
scalars_of (v ∷ vs) = scalars_in v ++ scalars_of vs

-- what a scalar is in another type
abbrev pub conversion_of : Conversion → Ty → Val → Option Val
conversion_of conversions.Automatic t v = converted v t
conversion_of conversions.Written t v = written v t

-- these are the scalars, or there is a fault in their place
abbrev pub AreScalars : Option (List Val) → Scalars → Type 0
AreScalars vs (scalars.Of ls) = vs ≡ Some (map literal_of ls.items)
AreScalars vs (scalars.Other answer) = IsFault answer

-- ---- vectors

-- the components for a vector of so many: one scalar is each of them
abbrev pub components_for : ℕ → List Val → List Val
components_for n (truth b ∷ []) = replicate n (truth b)
components_for n (number k z ∷ []) = replicate n (number k z)
components_for n vs = scalars_of vs

-- one vector alone is converted as it is written out, component by component
abbrev pub conversion_for : List Val → Conversion
conversion_for (vector vs ∷ []) = conversions.Written
conversion_for vs = conversions.Automatic

abbrev pub vector_of : List Val → Val
vector_of vs = vector (vals_of vs)

abbrev pub vector_made : ℕ → Ty → List Val → Option Val
vector_made n t vs =
    option_map vector_of (option_and_then (each_of (conversion_of (conversion_for vs) t)) (of_length n (components_for n vs)))

-- ---- matrices

-- so many columns of so many scalars each, one column after the other
abbrev pub columns_of : ℕ → ℕ → List Val → List Val
columns_of zero rows vs = []
columns_of (suc columns) rows vs = vector_of (take rows vs) ∷ columns_of columns rows (drop rows vs)

abbrev pub matrix_of : ℕ → ℕ → List Val → Val
matrix_of columns rows vs = matrix (vals_of (columns_of columns rows vs))

abbrev pub matrix_made : ℕ → ℕ → Ty → List Val → Option Val
matrix_made columns rows t vs =
    option_map (matrix_of columns rows) (option_and_then (each_of (λ v. converted v t)) (of_length (columns * rows) (scalars_of vs)))

-- ---- arrays and structures

abbrev pub array_made : ℕ → Ty → List Val → Option Val
array_made n t vs =
    option_map (λ ws. array_of false (vals_of ws)) (option_and_then (each_of (λ v. converted v t)) (of_length n vs))

-- each value in the type of its member
abbrev pub members_made : Fields → List Val → Option (List Val)
members_made no_fields [] = Some []
members_made (field n t s a fs) (v ∷ vs) = prepended (converted v t) (members_made fs vs)
members_made fs vs = None

abbrev pub structure_made : Ty → List Val → Option Val
structure_made (types.struct n fs) vs = option_map (λ ws. record_of (types.struct n fs) (vals_of ws)) (members_made fs vs)
structure_made t vs = None

-- ---- all types

abbrev pub scalar_made : Ty → List Val → Option Val
scalar_made t (v ∷ []) = written v t
scalar_made t vs = None

-- what the constructor of the type makes of values, of which there are some
abbrev pub made_of : Ty → List Val → Option Val
made_of (types.vec n t) vs = vector_made n t vs
made_of (types.mat c r t) vs = matrix_made c r t vs
made_of (types.array t (Some n)) vs = array_made n t vs
made_of (types.array t None) vs = None
made_of (types.struct n fs) vs = structure_made (types.struct n fs) vs
made_of t vs = scalar_made t vs

-- what it makes of values, or of none
abbrev pub constructed : Ty → List Val → Option Val
constructed t [] = zero_of t
constructed t (v ∷ vs) = made_of t (v ∷ vs)

-- ---- types that the values give

abbrev pub common_vector : ℕ → List Val → Option Val
common_vector n [] = zero_of (types.vec n types.abstract_int)
common_vector n (v ∷ vs) =
    option_map vector_of (option_and_then (all_in_common converted) (of_length n (components_for n (v ∷ vs))))

-- the scalars of a matrix in their common type
abbrev pub common_scalars : ℕ → ℕ → List Val → Option (List Val)
common_scalars columns rows vs = option_and_then (all_in_common converted) (of_length (columns * rows) (scalars_of vs))

abbrev pub common_array : List Val → Option Val
common_array vs = option_map (λ ws. array_of false (vals_of ws)) (all_in_common converted vs)

-- what a generator of no matrices makes of values in their common type
abbrev pub inferred_of : Generator → List Val → Option Val
inferred_of (generators.Vec n) vs = common_vector n vs
inferred_of generators.Array vs = common_array vs
inferred_of g vs = None

abbrev pub is_abstract : Val → Bool
is_abstract (number kinds.abstract_int z) = true
is_abstract v = false

-- scalars of one type, which is that of abstract integers
abbrev pub are_abstract : List Val → Bool
are_abstract [] = false
are_abstract (v ∷ vs) = is_abstract v

-- whether the scalars of a matrix are taken for floats: WGSL has no matrices of integers, and abstract ones convert
abbrev pub are_floats : Dialect → List Val → Bool
are_floats dialects.Wgsl vs = are_abstract vs
are_floats dialects.Crate vs = false

-- the matrix of scalars in their common type
abbrev pub IsMatrixOf : Dialect → ℕ → ℕ → List Val → Answer → Type 0
IsMatrixOf d columns rows vs answer =
    MatchBool (are_floats d vs) (IsSkippedOr needs.Float answer) (MayBe (Some (matrix_of columns rows vs)) answer)

-- what a generator makes of values, or why it makes nothing
abbrev pub IsInferred : Dialect → Generator → List Val → Answer → Type 0
IsInferred d (generators.Mat c r) vs answer =
    MatchOption (common_scalars c r vs) (IsFault answer) (λ ws. IsMatrixOf d c r ws answer)
IsInferred d g vs answer = MayBe (inferred_of g vs) answer
