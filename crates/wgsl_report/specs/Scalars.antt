-- The host's types for the scalars of a shader.
use Rattle.std.specs.Prelude.{ℕ, List, codes}
use Rattle.wgsl_rules.specs.Types.{Ty, i32, f32, f16, i64, u64, f64}

-- in C; what has no type of its own is its bits
abbrev pub c_scalar : Ty → List ℕ
c_scalar i32 = codes "int32_t"
c_scalar f32 = codes "float"
c_scalar f16 = codes "uint16_t"
c_scalar i64 = codes "int64_t"
c_scalar u64 = codes "uint64_t"
c_scalar f64 = codes "double"
c_scalar t = codes "uint32_t"

-- in Rust
abbrev pub rust_scalar : Ty → List ℕ
rust_scalar i32 = codes "i32"
rust_scalar f32 = codes "f32"
rust_scalar f16 = codes "u16"
rust_scalar i64 = codes "i64"
rust_scalar u64 = codes "u64"
rust_scalar f64 = codes "f64"
rust_scalar t = codes "u32"
