-- When two types are the same.
use Rattle.std.specs.Prelude.{ℕ, Option, Bool, true, false, ◌&&◌, ◌==◌, bytes_eq}
use Rattle.std.specs.Option.{option_eq}
use Rattle.wgsl_rules.specs.Types.{Ty, bool, abstract_int, abstract_float, i32, u32, f32, f16, i64, u64, f64, struct, array, vec, mat, atomic, ptr, ref, texture, sampler, Fields, no_fields, field}
use Rattle.wgsl_rules.specs.View.{Field}
use Rattle.wgsl_rules.specs.declared.syntax.AddressSpace.{AddressSpace}
use Rattle.wgsl_rules.specs.declared.syntax.AccessMode.{AccessMode}
use Rattle.wgsl_rules.specs.declared.syntax.TextureType.{TextureType}
use Rattle.wgsl_rules.specs.declared.syntax.SamplerType.{SamplerType}
use Rattle.wgsl_rules.specs.contracts.syntax.AddressSpacePartialEq.TheImpl as space
use Rattle.wgsl_rules.specs.contracts.syntax.AccessModePartialEq.TheImpl as access
use Rattle.wgsl_rules.specs.contracts.syntax.TextureTypePartialEq.TheImpl as textures
use Rattle.wgsl_rules.specs.contracts.syntax.SamplerTypePartialEq.TheImpl as samplers

abbrev pub same_space : AddressSpace → AddressSpace → Bool
same_space = space.ghosts.eq

abbrev pub same_access : AccessMode → AccessMode → Bool
same_access = access.ghosts.eq

abbrev pub same_texture : TextureType → TextureType → Bool
same_texture = textures.ghosts.eq

abbrev pub same_sampler : SamplerType → SamplerType → Bool
same_sampler = samplers.ghosts.eq

abbrev pub same_number : Option ℕ → Option ℕ → Bool
same_number = option_eq ◌==◌

abbrev mutual
  pub same : Ty → Ty → Bool
  same bool bool = true
  same abstract_int abstract_int = true
  same abstract_float abstract_float = true
  same i32 i32 = true
  same u32 u32 = true
  same f32 f32 = true
  same f16 f16 = true
  same i64 i64 = true
  same u64 u64 = true
  same f64 f64 = true
  same (struct n fs) (struct m gs) = bytes_eq n m && same_fields fs gs
  same (array t n) (array u m) = same t u && same_number n m
  same (vec n t) (vec m u) = (n == m) && same t u
  same (mat c r t) (mat d s u) = (c == d) && ((r == s) && same t u)
  same (atomic t) (atomic u) = same t u
  same (ptr s t a) (ptr z u b) = same_space s z && (same t u && same_access a b)
  same (ref s t a) (ref z u b) = same_space s z && (same t u && same_access a b)
  same (texture t) (texture u) = same_texture t u
  same (sampler s) (sampler z) = same_sampler s z
  same _ _ = false

  pub same_fields : Fields → Fields → Bool
  same_fields no_fields no_fields = true
  same_fields (field n t s a fs) (field m u z b gs) =
      (bytes_eq n m && (same t u && (same_number s z && same_number a b))) && same_fields fs gs
  same_fields _ _ = false

abbrev pub same_field : Field → Field → Bool
same_field f g = bytes_eq f.name g.name && (same f.ty g.ty && (same_number f.size g.size && same_number f.align g.align))
