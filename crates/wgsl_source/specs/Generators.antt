-- The types that type-generators take (WGSL: vector types; matrix types; atomic types; array types).
use Rattle.std.specs.Prelude.{Bool, true, false, ◌||◌, is_some}
use Rattle.wgsl_rules.specs.Layout.{atomic_kind}
use Rattle.wgsl_rules.specs.Types as types
use Rattle.wgsl_rules.specs.Types.{Ty}
use Rattle.wgsl_source.specs.declared.names.Generator.{Generator}
use Rattle.wgsl_source.specs.declared.names.Generator.TheVariants as generators

-- a number that a shader computes with
abbrev pub is_number_type : Ty → Bool
is_number_type types.i32 = true
is_number_type types.u32 = true
is_number_type types.i64 = true
is_number_type types.u64 = true
is_number_type types.f32 = true
is_number_type types.f16 = true
is_number_type types.f64 = true
is_number_type t = false

abbrev pub is_bool_type : Ty → Bool
is_bool_type types.bool = true
is_bool_type t = false

-- components are numbers, those of vectors bools too; an atomic holds one of the two kinds that it has
abbrev pub takes_type : Generator → Ty → Bool
takes_type (generators.Vec n) t = is_number_type t || is_bool_type t
takes_type (generators.Mat columns rows) t = is_number_type t
takes_type generators.Atomic t = is_some (atomic_kind t)
takes_type generators.Array t = true
