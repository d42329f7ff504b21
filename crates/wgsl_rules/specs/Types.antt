-- The types of WGSL, as contracts see them: the model behind `Type` (WGSL: types).
use Rattle.std.specs.Prelude.{ℕ, List, Option}
use Rattle.wgsl_rules.specs.declared.syntax.AddressSpace.{AddressSpace}
use Rattle.wgsl_rules.specs.declared.syntax.AccessMode.{AccessMode}
use Rattle.wgsl_rules.specs.declared.syntax.TextureType.{TextureType}
use Rattle.wgsl_rules.specs.declared.syntax.SamplerType.{SamplerType}

mutual
  pub data Ty : Type 0 where
    bool : Ty
    abstract_int : Ty
    abstract_float : Ty
    i32 : Ty
    u32 : Ty
    f32 : Ty
    f16 : Ty
    i64 : Ty
    u64 : Ty
    f64 : Ty
    struct : List ℕ → Fields → Ty
    array : Ty → Option ℕ → Ty
    vec : ℕ → Ty → Ty
    mat : ℕ → ℕ → Ty → Ty
    atomic : Ty → Ty
    ptr : AddressSpace → Ty → AccessMode → Ty
    ref : AddressSpace → Ty → AccessMode → Ty
    texture : TextureType → Ty
    sampler : SamplerType → Ty

  -- members of a struct: name, type, size and alignment attributes
  pub data Fields : Type 0 where
    no_fields : Fields
    field : List ℕ → Ty → Option ℕ → Option ℕ → Fields → Fields
