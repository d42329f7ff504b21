use Rattle.std.proofs.Common.{ap, ap₂, ◌∙◌}
use Rattle.wgsl_rules.specs.Same.{same}
use Rattle.wgsl_rules.specs.Values.{type_of}
use Rattle.wgsl_values.specs.View.{value_of}
use Rattle.wgsl_values.proofs.Typed.{type-same, atomic-same}
use Rattle.wgsl_values.proofs.lemmas.Views.{value_of-Struct, value_of-Atomic, struct_view-is, atomic_view-is}
use Rattle.wgsl_values.proofs.+same_type.Goals as goal

pub instance::Instance::same_type-returns-in-Struct-other : goal.instance::Instance::same_type-returns-in-Struct-other
instance::Instance::same_type-returns-in-Struct-other t c =
    rw (c.in-Struct.is, value_of-Struct c.in-Struct.a, struct_view-is c.in-Struct.a, c.in-Struct-other.is, value_of-Struct c.in-Struct-other.b, struct_view-is c.in-Struct-other.b)
    (type-same _ _ _ c.is_same.ensures)

pub instance::Instance::same_type-returns-in-Atomic-other : goal.instance::Instance::same_type-returns-in-Atomic-other
instance::Instance::same_type-returns-in-Atomic-other t c =
    rw (c.in-Atomic.is, value_of-Atomic c.in-Atomic.a, atomic_view-is c.in-Atomic.a, c.in-Atomic-other.is, value_of-Atomic c.in-Atomic-other.b, atomic_view-is c.in-Atomic-other.b)
    (atomic-same _ _ _ (c.eq.ensures ∙ ap₂ same (c.scalar_ty.ensures ∙ ap (λ x. type_of (value_of x)) c.deref.ensures) (c.scalar_ty-in-Atomic-other.ensures ∙ ap (λ x. type_of (value_of x)) c.deref-in-Atomic-other.ensures)))
