-- What the measures of the code say of a type and of a member.
use Rattle.std.specs.Prelude.{◌≡◌}
use Rattle.wgsl_rules.specs.Types.{Ty}
use Rattle.wgsl_rules.specs.Size.{size_of, align_of, extent_of}
use Rattle.wgsl_rules.specs.Layout.{has_fixed_layout, is_runtime_array, is_fixed_member, is_runtime_member}
use Rattle.wgsl_rules.specs.View.{Field}
use Rattle.wgsl_rules.specs.declared.measures.Measures.{Measures}

pub record AreMeasuresOf (t : Ty) (m : Measures) : Type 0 where
  pub size : m.size ≡ size_of t
  pub align : m.align ≡ align_of t
  pub fixed : m.is_fixed ≡ has_fixed_layout t
  pub runtime : m.is_runtime_array ≡ is_runtime_array t

-- of a member, with its attributes
pub record AreMeasuresOfMember (f : Field) (m : Measures) : Type 0 where
  pub size : m.size ≡ (extent_of f).size
  pub align : m.align ≡ (extent_of f).align
  pub fixed : m.is_fixed ≡ is_fixed_member f
  pub runtime : m.is_runtime_array ≡ is_runtime_member f
