-- What the walk down a type finds of it.
use Rattle.std.specs.Prelude.{◌≡◌}
use Rattle.wgsl_rules.specs.Types.{Ty}
use Rattle.wgsl_interface.specs.Plain.{is_plain, is_sized, is_runtime_sized, is_concrete}
use Rattle.wgsl_interface.specs.Shared.{is_constructible, is_host_shareable, has_atomic}
use Rattle.wgsl_interface.specs.declared.nature.Nature.{Nature}

pub record IsNatureOf (t : Ty) (n : Nature) : Type 0 where
  pub plain : n.is_plain ≡ is_plain t
  pub sized : n.is_sized ≡ is_sized t
  pub runtime : n.is_runtime_sized ≡ is_runtime_sized t
  pub concrete : n.is_concrete ≡ is_concrete t
  pub constructible : n.is_constructible ≡ is_constructible t
  pub shareable : n.is_host_shareable ≡ is_host_shareable t
  pub atomic : n.has_atomic ≡ has_atomic t
