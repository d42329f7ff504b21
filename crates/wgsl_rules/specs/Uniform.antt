-- What the uniform address space asks of a type beyond what holds of each address space (WGSL: address spaces; address
-- space layout constraints). Whether an attribute is valid at all is no matter of these rules.
use Rattle.std.specs.Prelude.{ℕ, ◌+◌, ◌%◌, ◌==◌, ◌&&◌, nat_le, Option, Some, None, option_and_then, List, [], ◌∷◌, ◌++◌, if◌then◌else◌}
use Rattle.std.specs.Int.{next_multiple_of}
use Rattle.std.specs.Option.{option_or}
use Rattle.wgsl_rules.specs.Types.{Ty, bool, abstract_int, abstract_float, struct, array, vec, mat, atomic, ptr, ref, texture, sampler, Fields, no_fields, field}
use Rattle.wgsl_rules.specs.Size.{align_of, extent_in, offset_after, end_after, round_up}
use Rattle.wgsl_rules.specs.Layout.{amount, size, known_stride, is_multiple_of}
use Rattle.wgsl_rules.specs.View.{Field}
use Rattle.wgsl_rules.specs.declared.uniform.UniformRule.{UniformRule}
use Rattle.wgsl_rules.specs.declared.uniform.UniformRule.TheVariants.{NotShared, RuntimeSized, NotKnown, Stride, Align, Offset, Distance}
use Rattle.wgsl_rules.specs.declared.uniform.UniformFault.{UniformFault}

-- the alignment that is required in uniform space: that of an array or a structure is rounded up to 16
abbrev pub required_align : Ty → Option ℕ
required_align (array t n) = option_and_then (round_up 16) (align_of t)
required_align (struct name fs) = option_and_then (round_up 16) (align_of (struct name fs))
required_align t = align_of t

-- the elements of an array stand at multiples of 16, and of the alignment that their type requires
abbrev pub stride_rule : Option ℕ → Option ℕ → Option UniformRule
stride_rule None required = Some NotKnown
stride_rule (Some stride) required = if stride % 16 == 0 && is_multiple_of stride required then None else Some (Stride stride)

-- an array has a count; these are what its elements break, how far they lie apart, and the alignment that they require
abbrev pub array_rule : Option ℕ → Option UniformRule → Option ℕ → Option ℕ → Option UniformRule
array_rule None inner stride required = Some RuntimeSized
array_rule (Some n) inner stride required = option_or inner (stride_rule stride required)

-- an align attribute is a multiple of the alignment that the type of the member requires
abbrev pub align_rule : Option ℕ → Option ℕ → Option UniformRule
align_rule None required = None
align_rule (Some a) required = if is_multiple_of a required then None else Some (Align a)

-- a member stands at a multiple of the alignment that its type requires, and not before `least`
abbrev pub offset_rule : Option ℕ → Option ℕ → ℕ → Option UniformRule
offset_rule None required least = Some NotKnown
offset_rule (Some offset) required least =
    if is_multiple_of offset required then (if nat_le least offset then None else Some (Distance offset)) else Some (Offset offset)

-- behind a member of a structure type that stands at `offset`, the next one stands as many bytes from there at least
-- as that structure has, rounded up to a multiple of 16
abbrev pub least_behind : Ty → Option ℕ → ℕ
least_behind (struct name fs) offset = amount offset + next_multiple_of (size (struct name fs)) 16
least_behind t offset = 0

-- of a member with this align attribute, at this offset, that may not stand before `least`
abbrev pub place_rule : Option ℕ → Option ℕ → Option ℕ → ℕ → Option UniformRule
place_rule attribute required offset least = option_or (align_rule attribute required) (offset_rule offset required least)

-- the first rule that a type breaks, the parts of a type before the type
abbrev mutual
  pub uniform_rule : Ty → Option UniformRule
  uniform_rule (array t n) = array_rule n (uniform_rule t) (known_stride t) (required_align t)
  uniform_rule (struct name fs) = members_rule (Some 0) 0 fs
  uniform_rule (vec n t) = uniform_rule t
  uniform_rule (mat c r t) = uniform_rule t
  uniform_rule bool = Some NotShared
  uniform_rule abstract_int = Some NotShared
  uniform_rule abstract_float = Some NotShared
  uniform_rule (atomic t) = Some NotShared
  uniform_rule (ptr s t a) = Some NotShared
  uniform_rule (ref s t a) = Some NotShared
  uniform_rule (texture t) = Some NotShared
  uniform_rule (sampler s) = Some NotShared
  uniform_rule t = None

  -- of members, of which the first stands behind what ends at `from`, and not before `least`
  pub members_rule : Option ℕ → ℕ → Fields → Option UniformRule
  members_rule from least no_fields = None
  members_rule from least (field name t s a fs) =
      option_or (option_or (uniform_rule t) (place_rule a (required_align t) (offset_after from (extent_in t s a)) least))
      (members_rule (end_after from (extent_in t s a)) (least_behind t (offset_after from (extent_in t s a))) fs)

-- the first rule that a member breaks, at this offset, that may not stand before `least`
abbrev pub member_rule : Field → Option ℕ → ℕ → Option UniformRule
member_rule f offset least = option_or (uniform_rule f.ty) (place_rule f.align (required_align f.ty) offset least)

-- of member i
abbrev pub fault_at : ℕ → Option UniformRule → List UniformFault
fault_at i None = []
fault_at i (Some rule) = record { member = i; rule = rule } ∷ []

-- of the members from member i on
abbrev pub faults_behind : ℕ → Option ℕ → ℕ → Fields → List UniformFault
faults_behind i from least no_fields = []
faults_behind i from least (field name t s a fs) =
    fault_at i (member_rule (record { name = name; ty = t; size = s; align = a }) (offset_after from (extent_in t s a)) least)
    ++ faults_behind (i + 1) (end_after from (extent_in t s a)) (least_behind t (offset_after from (extent_in t s a))) fs

-- the members of a structure that break a rule, each with the first one
abbrev pub uniform_faults : Ty → List UniformFault
uniform_faults (struct name fs) = faults_behind 0 (Some 0) 0 fs
uniform_faults t = []

-- the rule that the first of the members breaks
abbrev pub first_rule : List UniformFault → Option UniformRule
first_rule [] = None
first_rule (fault ∷ faults) = Some fault.rule
