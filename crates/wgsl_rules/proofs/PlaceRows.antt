-- Where members stand, the least sizes of buffers and what uniform space asks, of the worked types, by computation.
use Rattle.std.proofs.Common.{◌≡◌, ℕ, [], ◌∷◌, Option, Some, None, refl}
use Rattle.wgsl_rules.specs.Types.{Ty, bool, i32, u32, f32, f16, struct, array, vec, mat, atomic, Fields, no_fields, field}
use Rattle.wgsl_rules.specs.Places.{member_layouts, part_stride, size_with, least_binding}
use Rattle.wgsl_rules.specs.Uniform.{uniform_rule, uniform_faults}
use Rattle.wgsl_rules.specs.declared.places.MemberLayout.{MemberLayout}
use Rattle.wgsl_rules.specs.declared.uniform.UniformFault.{UniformFault}
use Rattle.wgsl_rules.specs.declared.uniform.UniformRule.{UniformRule}
use Rattle.wgsl_rules.specs.declared.uniform.UniformRule.TheVariants.{NotShared, RuntimeSized, Stride, Align, Offset, Distance}

abbrev known : ℕ → ℕ → ℕ → ℕ → MemberLayout
known offset size align padding = record { offset = Some offset; size = Some size; align = Some align; padding = Some padding }

abbrev fault : ℕ → UniformRule → UniformFault
fault member rule = record { member = member; rule = rule }

abbrev plain : Ty → Fields → Fields
plain t fs = field [] t None None fs

word_and_vector : member_layouts (struct [] (plain u32 (plain (vec 3 u32) no_fields))) ≡ known 0 4 4 12 ∷ (known 16 12 16 4 ∷ [])
word_and_vector = refl

-- the structures A and B of the standard's examples (WGSL: structure member layout)
abbrev a : Option ℕ → Ty
a size = struct [] (plain f32 (plain f32 (plain (vec 2 f32) (field [] f32 size None no_fields))))

abbrev b : Option ℕ → Option ℕ → Ty
b size align =
    struct [] (plain (vec 2 f32) (plain (vec 3 f32) (plain f32 (plain f32 (field [] (a size) None align
    (plain (vec 3 f32) (field [] (array (a size) (Some 3)) None align (plain i32 no_fields))))))))

example : member_layouts (b None None)
    ≡ known 0 8 8 8 ∷ (known 16 12 16 0 ∷ (known 28 4 4 0 ∷ (known 32 4 4 4
    ∷ (known 40 24 8 0 ∷ (known 64 12 16 4 ∷ (known 80 72 8 0 ∷ (known 152 4 4 4 ∷ [])))))))
example = refl

example_with_attributes : member_layouts (b (Some 16) (Some 16))
    ≡ known 0 8 8 8 ∷ (known 16 12 16 0 ∷ (known 28 4 4 0 ∷ (known 32 4 4 12
    ∷ (known 48 32 16 0 ∷ (known 80 12 16 4 ∷ (known 96 96 16 0 ∷ (known 192 4 4 12 ∷ [])))))))
example_with_attributes = refl

-- behind the structure at 40, of 24 bytes, the next may stand at 72
example_in_uniform_space : uniform_faults (b None None) ≡ fault 4 (Offset 40) ∷ (fault 5 (Distance 64) ∷ (fault 6 (Stride 24) ∷ []))
example_in_uniform_space = refl

attributes_in_uniform_space : uniform_rule (b (Some 16) (Some 16)) ≡ None
attributes_in_uniform_space = refl

halves : member_layouts (struct [] (plain f16 (plain (vec 3 f16) (plain (vec 2 f16) (plain (mat 2 3 f16) (plain f16 no_fields))))))
    ≡ known 0 2 2 6 ∷ (known 8 6 8 2 ∷ (known 16 4 4 4 ∷ (known 24 16 8 0 ∷ (known 40 2 2 6 ∷ []))))
halves = refl

abbrev runtime_sized : Ty
runtime_sized = struct [] (plain u32 (field [] (array (vec 2 u32) None) None (Some 32) no_fields))

runtime_sized_member : member_layouts runtime_sized ≡ known 0 4 4 28 ∷ (record { offset = Some 32; size = None; align = Some 32; padding = None } ∷ [])
runtime_sized_member = refl

least_bindings : (least_binding runtime_sized ≡ Some 64) × (least_binding (array (vec 3 u32) None) ≡ Some 16) × (least_binding (vec 3 u32) ≡ Some 12)
least_bindings = (refl, refl, refl)

sizes_with_elements : (size_with 5 runtime_sized ≡ Some 96) × (size_with 5 (array (vec 3 u32) None) ≡ Some 80) × (size_with 5 (array u32 (Some 2)) ≡ Some 8)
sizes_with_elements = (refl, refl, refl)

-- not the last member, so the structure has no place for its end
runtime_sized_in_front : least_binding (struct [] (plain (array u32 None) (plain u32 no_fields))) ≡ None
runtime_sized_in_front = refl

strides : (part_stride (mat 3 3 f32) ≡ Some 16) × (part_stride (mat 2 2 f16) ≡ Some 4) × (part_stride (array (vec 3 f32) None) ≡ Some 16) × (part_stride f32 ≡ None)
strides = (refl, refl, refl, refl)

arrays_in_uniform_space : (uniform_rule (array (vec 3 f32) (Some 4)) ≡ None) × (uniform_rule (array f32 (Some 4)) ≡ Some (Stride 4)) × (uniform_rule (array (vec 4 f32) None) ≡ Some RuntimeSized)
arrays_in_uniform_space = (refl, refl, refl)

shared_in_uniform_space : (uniform_rule (vec 2 bool) ≡ Some NotShared) × (uniform_rule (atomic u32) ≡ Some NotShared)
shared_in_uniform_space = (refl, refl)

align_in_uniform_space : uniform_faults (struct [] (field [] (a None) None (Some 8) no_fields)) ≡ fault 0 (Align 8) ∷ []
align_in_uniform_space = refl
