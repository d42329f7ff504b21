-- The texts of types, enumerations and operators, as bytes: the words of WGSL.
use Rattle.std.specs.Prelude.{ℕ, List, ◌++◌, Option, Some, None, codes, decimal}
use Rattle.wgsl_rules.specs.Types.{Ty, bool, abstract_int, abstract_float, i32, u32, f32, f16, i64, u64, f64, struct, array, vec, mat, atomic, ptr, ref, texture, sampler}
use Rattle.wgsl_rules.specs.declared.syntax.AddressSpace.{AddressSpace}
use Rattle.wgsl_rules.specs.declared.syntax.AddressSpace.TheVariants as space
use Rattle.wgsl_rules.specs.declared.syntax.AccessMode.{AccessMode}
use Rattle.wgsl_rules.specs.declared.syntax.AccessMode.TheVariants as mode
use Rattle.wgsl_rules.specs.declared.syntax.SampledType.{SampledType}
use Rattle.wgsl_rules.specs.declared.syntax.SampledType.TheVariants as sampled
use Rattle.wgsl_rules.specs.declared.syntax.TexelFormat.{TexelFormat}
use Rattle.wgsl_rules.specs.declared.syntax.TexelFormat.TheVariants as texel
use Rattle.wgsl_rules.specs.declared.syntax.TextureType.{TextureType}
use Rattle.wgsl_rules.specs.declared.syntax.TextureType.TheVariants as tx
use Rattle.wgsl_rules.specs.declared.syntax.SamplerType.{SamplerType}
use Rattle.wgsl_rules.specs.declared.syntax.SamplerType.TheVariants as samplers
use Rattle.wgsl_rules.specs.declared.syntax.Enumerant.{Enumerant}
use Rattle.wgsl_rules.specs.declared.syntax.Enumerant.TheVariants as enumerants
use Rattle.wgsl_rules.specs.declared.syntax.UnaryOperator.{UnaryOperator}
use Rattle.wgsl_rules.specs.declared.syntax.UnaryOperator.TheVariants as unary
use Rattle.wgsl_rules.specs.declared.syntax.BinaryOperator.{BinaryOperator}
use Rattle.wgsl_rules.specs.declared.syntax.BinaryOperator.TheVariants as binary

-- of an address space (WGSL: address spaces)
abbrev pub space_text : AddressSpace → List ℕ
space_text space.Function = codes "function"
space_text space.Private = codes "private"
space_text space.Workgroup = codes "workgroup"
space_text space.Uniform = codes "uniform"
space_text space.Storage = codes "storage"
space_text space.Handle = codes "handle"

-- of an access mode (WGSL: memory access mode)
abbrev pub access_text : AccessMode → List ℕ
access_text mode.Read = codes "read"
access_text mode.Write = codes "write"
access_text mode.ReadWrite = codes "read_write"

-- of the type of a component (WGSL: sampled texture types)
abbrev pub sampled_text : SampledType → List ℕ
sampled_text sampled.I32 = codes "i32"
sampled_text sampled.U32 = codes "u32"
sampled_text sampled.F32 = codes "f32"

-- of a texel format: its name in lower case (WGSL: texel formats)
abbrev pub texel_text : TexelFormat → List ℕ
texel_text texel.Rgba8Unorm = codes "rgba8unorm"
texel_text texel.Rgba8Snorm = codes "rgba8snorm"
texel_text texel.Rgba8Uint = codes "rgba8uint"
texel_text texel.Rgba8Sint = codes "rgba8sint"
texel_text texel.Rgba16Uint = codes "rgba16uint"
texel_text texel.Rgba16Sint = codes "rgba16sint"
texel_text texel.Rgba16Float = codes "rgba16float"
texel_text texel.R32Uint = codes "r32uint"
texel_text texel.R32Sint = codes "r32sint"
texel_text texel.R32Float = codes "r32float"
texel_text texel.Rg32Uint = codes "rg32uint"
texel_text texel.Rg32Sint = codes "rg32sint"
texel_text texel.Rg32Float = codes "rg32float"
texel_text texel.Rgba32Uint = codes "rgba32uint"
texel_text texel.Rgba32Sint = codes "rgba32sint"
texel_text texel.Rgba32Float = codes "rgba32float"
texel_text texel.Bgra8Unorm = codes "bgra8unorm"

-- of a sampler type (WGSL: sampler types)
abbrev pub sampler_text : SamplerType → List ℕ
sampler_text samplers.Sampler = codes "sampler"
sampler_text samplers.SamplerComparison = codes "sampler_comparison"

-- of a sampled texture: its start up to `<`, then the type of a component
-- (WGSL: sampled texture types)
abbrev pub with_sampled : List ℕ → SampledType → List ℕ
with_sampled start s = start ++ (sampled_text s ++ codes ">")

-- of a storage texture: its start up to `<`, then the format of a texel and the access mode
-- (WGSL: storage texture types)
abbrev pub with_format : List ℕ → TexelFormat → AccessMode → List ℕ
with_format start f a = start ++ (texel_text f ++ (codes ", " ++ (access_text a ++ codes ">")))

-- of a texture type (WGSL: texture types)
abbrev pub texture_text : TextureType → List ℕ
texture_text (tx.Sampled1D s) = with_sampled (codes "texture_1d<") s
texture_text (tx.Sampled1DArray s) = with_sampled (codes "texture_1d_array<") s
texture_text (tx.Sampled2D s) = with_sampled (codes "texture_2d<") s
texture_text (tx.Sampled2DArray s) = with_sampled (codes "texture_2d_array<") s
texture_text (tx.Sampled3D s) = with_sampled (codes "texture_3d<") s
texture_text (tx.SampledCube s) = with_sampled (codes "texture_cube<") s
texture_text (tx.SampledCubeArray s) = with_sampled (codes "texture_cube_array<") s
texture_text (tx.Multisampled2D s) = with_sampled (codes "texture_multisampled_2d<") s
texture_text (tx.Multisampled2DArray s) = with_sampled (codes "texture_multisampled_2d_array<") s
texture_text (tx.Storage1D f a) = with_format (codes "texture_storage_1d<") f a
texture_text (tx.Storage1DArray f a) = with_format (codes "texture_storage_1d_array<") f a
texture_text (tx.Storage2D f a) = with_format (codes "texture_storage_2d<") f a
texture_text (tx.Storage2DArray f a) = with_format (codes "texture_storage_2d_array<") f a
texture_text (tx.Storage3D f a) = with_format (codes "texture_storage_3d<") f a
texture_text tx.DepthMultisampled2D = codes "texture_depth_multisampled_2d"
texture_text tx.External = codes "texture_external<>"
texture_text tx.Depth2D = codes "texture_depth_2d"
texture_text tx.Depth2DArray = codes "texture_depth_2d_array"
texture_text tx.DepthCube = codes "texture_depth_cube"
texture_text tx.DepthCubeArray = codes "texture_depth_cube_array"

-- of an enumerant: that of its content (WGSL: enumeration types)
abbrev pub enumerant_text : Enumerant → List ℕ
enumerant_text (enumerants.AccessMode a) = access_text a
enumerant_text (enumerants.AddressSpace s) = space_text s
enumerant_text (enumerants.TexelFormat f) = texel_text f

-- of an operator before its operand (WGSL: operator precedence and associativity)
abbrev pub unary_text : UnaryOperator → List ℕ
unary_text unary.LogicalNegation = codes "!"
unary_text unary.Negation = codes "-"
unary_text unary.BitwiseComplement = codes "~"
unary_text unary.AddressOf = codes "&"
unary_text unary.Indirection = codes "*"

-- of an operator between its operands (WGSL: operator precedence and associativity)
abbrev pub binary_text : BinaryOperator → List ℕ
binary_text binary.ShortCircuitOr = codes "||"
binary_text binary.ShortCircuitAnd = codes "&&"
binary_text binary.Addition = codes "+"
binary_text binary.Subtraction = codes "-"
binary_text binary.Multiplication = codes "*"
binary_text binary.Division = codes "/"
binary_text binary.Remainder = codes "%"
binary_text binary.Equality = codes "=="
binary_text binary.Inequality = codes "!="
binary_text binary.LessThan = codes "<"
binary_text binary.LessThanEqual = codes "<="
binary_text binary.GreaterThan = codes ">"
binary_text binary.GreaterThanEqual = codes ">="
binary_text binary.BitwiseOr = codes "|"
binary_text binary.BitwiseAnd = codes "&"
binary_text binary.BitwiseXor = codes "^"
binary_text binary.ShiftLeft = codes "<<"
binary_text binary.ShiftRight = codes ">>"

-- of an array of elements with the text t, n of them or runtime-sized (WGSL: array types)
abbrev pub array_text : List ℕ → Option ℕ → List ℕ
array_text t (Some n) = codes "array<" ++ (t ++ (codes ", " ++ (decimal n ++ codes ">")))
array_text t None = codes "array<" ++ (t ++ codes ">")

-- of a type; of a structure it is the name (WGSL: types)
abbrev pub type_text : Ty → List ℕ
type_text bool = codes "bool"
type_text abstract_int = codes "AbstractInt"
type_text abstract_float = codes "AbstractFloat"
type_text i32 = codes "i32"
type_text u32 = codes "u32"
type_text f32 = codes "f32"
type_text f16 = codes "f16"
type_text i64 = codes "i64"
type_text u64 = codes "u64"
type_text f64 = codes "f64"
type_text (struct name fs) = name
type_text (array t n) = array_text (type_text t) n
type_text (vec n t) = codes "vec" ++ (decimal n ++ (codes "<" ++ (type_text t ++ codes ">")))
type_text (mat c r t) = codes "mat" ++ (decimal c ++ (codes "x" ++ (decimal r ++ (codes "<" ++ (type_text t ++ codes ">")))))
type_text (atomic t) = codes "atomic<" ++ (type_text t ++ codes ">")
type_text (ptr s t a) = codes "ptr<" ++ (space_text s ++ (codes ", " ++ (type_text t ++ (codes ", " ++ (access_text a ++ codes ">")))))
type_text (ref s t a) = codes "ref<" ++ (space_text s ++ (codes ", " ++ (type_text t ++ (codes ", " ++ (access_text a ++ codes ">")))))
type_text (texture t) = texture_text t
type_text (sampler s) = sampler_text s
