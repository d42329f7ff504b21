-- The builtin functions of the language, by their names in a source (WGSL: builtin functions).
use Rattle.std.specs.Prelude.{◌≡◌, ◌==◌, ℕ, Bool, IsTrue, ◌||◌, List, [], ◌∷◌, bytes_eq, codes}
use Rattle.std.specs.List.{list_any, starts_with}
use Rattle.wgsl_functions.specs.declared.builtin.Builtin.{Builtin}
use Rattle.wgsl_functions.specs.declared.builtin.Builtin.TheVariants as functions
use Rattle.wgsl_functions.specs.declared.builtin.OfOne.{OfOne}
use Rattle.wgsl_functions.specs.declared.builtin.OfOne.TheVariants as ones
use Rattle.wgsl_functions.specs.declared.builtin.OfTwo.{OfTwo}
use Rattle.wgsl_functions.specs.declared.builtin.OfTwo.TheVariants as twos
use Rattle.wgsl_functions.specs.declared.builtin.OfThree.{OfThree}
use Rattle.wgsl_functions.specs.declared.builtin.OfThree.TheVariants as threes

abbrev pub one_text : OfOne → List ℕ
one_text ones.Abs = codes "abs"
one_text ones.Sign = codes "sign"
one_text ones.CountLeadingZeros = codes "countLeadingZeros"
one_text ones.CountOneBits = codes "countOneBits"
one_text ones.CountTrailingZeros = codes "countTrailingZeros"
one_text ones.FirstLeadingBit = codes "firstLeadingBit"
one_text ones.FirstTrailingBit = codes "firstTrailingBit"
one_text ones.ReverseBits = codes "reverseBits"
one_text ones.Transpose = codes "transpose"
one_text ones.Pack4xI8 = codes "pack4xI8"
one_text ones.Pack4xU8 = codes "pack4xU8"
one_text ones.Pack4xI8Clamp = codes "pack4xI8Clamp"
one_text ones.Pack4xU8Clamp = codes "pack4xU8Clamp"
one_text ones.Unpack4xI8 = codes "unpack4xI8"
one_text ones.Unpack4xU8 = codes "unpack4xU8"
one_text ones.All = codes "all"
one_text ones.Any = codes "any"

abbrev pub two_text : OfTwo → List ℕ
two_text twos.Min = codes "min"
two_text twos.Max = codes "max"
two_text twos.Dot = codes "dot"
two_text twos.Dot4U8Packed = codes "dot4U8Packed"
two_text twos.Dot4I8Packed = codes "dot4I8Packed"

abbrev pub three_text : OfThree → List ℕ
three_text threes.Clamp = codes "clamp"
three_text threes.Select = codes "select"
three_text threes.ExtractBits = codes "extractBits"

-- ---- functions of floats

abbrev pub is_among : List (List ℕ) → List ℕ → Bool
is_among names name = list_any (bytes_eq name) names

abbrev pub angle_names : List (List ℕ)
angle_names =
    codes "acos" ∷ codes "acosh" ∷ codes "asin" ∷ codes "asinh" ∷ codes "atan" ∷ codes "atanh" ∷ codes "atan2" ∷ codes "cos" ∷ codes "cosh" ∷ codes "sin" ∷ codes "sinh" ∷ codes "tan" ∷ codes "tanh" ∷ codes "degrees" ∷ codes "radians" ∷ []

abbrev pub geometry_names : List (List ℕ)
geometry_names =
    codes "cross" ∷ codes "determinant" ∷ codes "distance" ∷ codes "faceForward" ∷ codes "length" ∷ codes "normalize" ∷ codes "reflect" ∷ codes "refract" ∷ codes "mix" ∷ codes "smoothstep" ∷ codes "step" ∷ []

abbrev pub rounding_names : List (List ℕ)
rounding_names =
    codes "ceil" ∷ codes "exp" ∷ codes "exp2" ∷ codes "floor" ∷ codes "fma" ∷ codes "fract" ∷ codes "frexp" ∷ codes "inverseSqrt" ∷ codes "ldexp" ∷ codes "log" ∷ codes "log2" ∷ codes "modf" ∷ codes "pow" ∷ codes "quantizeToF16" ∷ codes "round" ∷ codes "saturate" ∷ codes "sqrt" ∷ codes "trunc" ∷ []

abbrev pub packing_names : List (List ℕ)
packing_names =
    codes "pack4x8snorm" ∷ codes "pack4x8unorm" ∷ codes "pack2x16snorm" ∷ codes "pack2x16unorm" ∷ codes "pack2x16float" ∷ codes "unpack4x8snorm" ∷ codes "unpack4x8unorm" ∷ codes "unpack2x16snorm" ∷ codes "unpack2x16unorm" ∷ codes "unpack2x16float" ∷ []

abbrev pub is_of_floats : List ℕ → Bool
is_of_floats name =
    is_among angle_names name || (is_among geometry_names name || (is_among rounding_names name || is_among packing_names name))

-- ---- functions of memory, textures and other invocations

abbrev pub memory_names : List (List ℕ)
memory_names =
    codes "arrayLength" ∷ codes "storageBarrier" ∷ []

abbrev pub memory_beginnings : List (List ℕ)
memory_beginnings = codes "atomic" ∷ codes "texture" ∷ codes "workgroup" ∷ []

abbrev pub invocation_beginnings : List (List ℕ)
invocation_beginnings = codes "subgroup" ∷ codes "quad" ∷ codes "dpd" ∷ codes "fwidth" ∷ []

abbrev pub begins_among : List (List ℕ) → List ℕ → Bool
begins_among beginnings name = list_any (starts_with ◌==◌ name) beginnings

abbrev pub is_of_memory : List ℕ → Bool
is_of_memory name =
    is_among memory_names name || (begins_among memory_beginnings name || begins_among invocation_beginnings name)

-- ---- all

-- the function has the name
abbrev pub IsNameOf : Builtin → List ℕ → Type 0
IsNameOf (functions.One f) name = name ≡ one_text f
IsNameOf (functions.Two f) name = name ≡ two_text f
IsNameOf (functions.Three f) name = name ≡ three_text f
IsNameOf functions.InsertBits name = name ≡ codes "insertBits"
IsNameOf functions.Float name = IsTrue (is_of_floats name)
IsNameOf functions.NotConstant name = IsTrue (is_of_memory name)
