-- The words for types that hold neither arrays nor structures, and the types that they name.
use Rattle.std.specs.Prelude.{◌≡◌, ◌≢◌, ℕ, List, [], ◌∷◌, Option, ◌++◌, EachIndex, slice_index, codes}
use Rattle.wgsl_rules.specs.Types.{Ty, i32, u32, i64, u64, array, vec, mat, atomic}
use Rattle.wgsl_script.specs.declared.type_words.Scalar.{Scalar}
use Rattle.wgsl_script.specs.declared.type_words.Scalar.TheVariants as scalars
use Rattle.wgsl_script.specs.declared.type_words.Dimension.{Dimension}
use Rattle.wgsl_script.specs.declared.type_words.Dimension.TheVariants as dimensions
use Rattle.wgsl_script.specs.declared.type_words.Template.{Template}
use Rattle.wgsl_script.specs.declared.type_words.Template.TheVariants as templates
use Rattle.wgsl_script.specs.declared.type_words.Plain.{Plain}
use Rattle.wgsl_script.specs.declared.type_words.Plain.TheVariants as plains
use Rattle.wgsl_script.specs.declared.structs.Element.{Element}
use Rattle.wgsl_script.specs.declared.structs.Element.TheVariants as elements

-- `name<inner>`, where no `<` (60) stands in the name
pub record IsTemplate (word name inner : List ℕ) : Type 0 where
  pub is : word ≡ name ++ (codes "<" ++ (inner ++ codes ">"))
  pub first : EachIndex name (λ k. slice_index name k ≢ 60)

abbrev pub scalar_text : Scalar → List ℕ
scalar_text scalars.I32 = codes "i32"
scalar_text scalars.U32 = codes "u32"
scalar_text scalars.I64 = codes "i64"
scalar_text scalars.U64 = codes "u64"

abbrev pub number_of : Dimension → ℕ
number_of dimensions.Two = 2
number_of dimensions.Three = 3
number_of dimensions.Four = 4

abbrev pub dimension_text : Dimension → List ℕ
dimension_text dimensions.Two = codes "2"
dimension_text dimensions.Three = codes "3"
dimension_text dimensions.Four = codes "4"

-- what stands before the `<`: `atomic`, `vec2`, `mat2x3` (columns, then rows)
abbrev pub template_text : Template → List ℕ
template_text templates.Atomic = codes "atomic"
template_text (templates.Vec n) = codes "vec" ++ dimension_text n
template_text (templates.Mat c r) = codes "mat" ++ (dimension_text c ++ (codes "x" ++ dimension_text r))

-- the word of a type: `u32`, `vec2<u32>`
abbrev pub plain_text : Plain → List ℕ
plain_text (plains.Scalar s) = scalar_text s
plain_text (plains.Of t s) = template_text t ++ (codes "<" ++ (scalar_text s ++ codes ">"))

-- atomics hold 32 bits
abbrev pub IsIn32Bits : Scalar → Type 0
IsIn32Bits scalars.I32 = Unit {0}
IsIn32Bits scalars.U32 = Unit {0}
IsIn32Bits scalars.I64 = ⊥
IsIn32Bits scalars.U64 = ⊥

-- whether a script has the type: all but atomics of 64 bits
abbrev pub IsPlain : Plain → Type 0
IsPlain (plains.Scalar s) = Unit {0}
IsPlain (plains.Of templates.Atomic s) = IsIn32Bits s
IsPlain (plains.Of (templates.Vec n) s) = Unit {0}
IsPlain (plains.Of (templates.Mat c r) s) = Unit {0}

-- ---- the types

abbrev pub scalar_type : Scalar → Ty
scalar_type scalars.I32 = i32
scalar_type scalars.U32 = u32
scalar_type scalars.I64 = i64
scalar_type scalars.U64 = u64

-- of a matrix the columns, then the rows
abbrev pub template_type : Template → Ty → Ty
template_type templates.Atomic t = atomic t
template_type (templates.Vec n) t = vec (number_of n) t
template_type (templates.Mat c r) t = mat (number_of c) (number_of r) t

abbrev pub plain_type : Plain → Ty
plain_type (plains.Scalar s) = scalar_type s
plain_type (plains.Of t s) = template_type t (scalar_type s)

-- arrays of these counts, the outermost first, of a type; an array without a count is runtime-sized
abbrev pub arrays_type : List (Option ℕ) → Ty → Ty
arrays_type [] t = t
arrays_type (n ∷ counts) t = array (arrays_type counts t) n

-- the type is that of the arrays of the element; of a structure nothing is said
abbrev pub IsOf : Element → List (Option ℕ) → Ty → Type 0
IsOf (elements.Plain p) counts t = t ≡ arrays_type counts (plain_type p)
IsOf (elements.Struct n) counts t = Unit {0}
