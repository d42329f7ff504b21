-- The size and the alignment of a type, in bytes, and where the members of a struct stand
-- (WGSL: alignment and size; structure member layout; internal value layout of arrays and matrices).
use Rattle.std.specs.Prelude.{ℕ, ◌+◌, ◌*◌, ◌^◌, max, Option, Some, None, option_and_then, List, [], ◌∷◌, nat_lt, ◌==◌, if◌then◌else◌}
use Rattle.std.specs.Int.{next_multiple_of}
use Rattle.std.specs.Option.{option_or}
use Rattle.wgsl_rules.specs.Types.{Ty, bool, i32, u32, f32, f16, i64, u64, f64, struct, array, vec, mat, atomic, Fields, no_fields, field}
use Rattle.wgsl_rules.specs.View.{Field}

-- how many bytes a member takes, and to what its place is rounded up
pub record Extent : Type 0 where
  pub size : Option ℕ
  pub align : Option ℕ

-- n, if it is at most 4294967295: no size, stride, offset or end passes that
abbrev pub fitting : ℕ → Option ℕ
fitting n = if nat_lt n (2 ^ 32) then Some n else None

abbrev pub sum_of : ℕ → ℕ → Option ℕ
sum_of a b = fitting (a + b)

-- the least multiple of the alignment that is at least n
abbrev pub round_up : ℕ → ℕ → Option ℕ
round_up align n = if nat_lt 0 align then fitting (next_multiple_of n align) else None

-- f of two numbers that are there
abbrev pub with_both : (ℕ → ℕ → Option ℕ) → Option ℕ → Option ℕ → Option ℕ
with_both f (Some a) (Some b) = f a b
with_both f a b = None

-- n times a number that is there
abbrev pub times : ℕ → Option ℕ → Option ℕ
times n size = option_and_then (λ a. fitting (n * a)) size

-- how far apart the elements of an array stand, of an element of this alignment and size
abbrev pub stride_of : Option ℕ → Option ℕ → Option ℕ
stride_of align size = with_both round_up align size

-- ---- vectors

-- of a vector of three components of the type; WGSL says it of 32 bits and fewer, and that of 64-bit integers
-- is chosen here as that of four of them
abbrev pub vec3_align : Ty → Option ℕ
vec3_align i32 = Some 16
vec3_align u32 = Some 16
vec3_align f32 = Some 16
vec3_align f16 = Some 8
vec3_align i64 = Some 32
vec3_align u64 = Some 32
vec3_align t = None

-- of a vector of n components of the type t, which has this size
abbrev pub vec_align : ℕ → Ty → Option ℕ → Option ℕ
vec_align n t size = if n == 3 then vec3_align t else times n size

-- ---- structs

-- where a member stands after what ends at `from`, and where it ends
abbrev pub offset_after : Option ℕ → Extent → Option ℕ
offset_after from m = with_both round_up m.align from

abbrev pub end_after : Option ℕ → Extent → Option ℕ
end_after from m = with_both sum_of (offset_after from m) m.size

-- the end of the last member
abbrev pub end_of_members : Option ℕ → List Extent → Option ℕ
end_of_members from [] = from
end_of_members from (m ∷ ms) = end_of_members (end_after from m) ms

-- the greatest of `from` and the members' alignments
abbrev pub align_after : Option ℕ → Extent → Option ℕ
align_after from m = with_both (λ a b. Some (max a b)) from m.align

abbrev pub greatest_align : Option ℕ → List Extent → Option ℕ
greatest_align from [] = from
greatest_align from (m ∷ ms) = greatest_align (align_after from m) ms

-- 0 of no members
abbrev pub struct_align : List Extent → Option ℕ
struct_align ms = greatest_align (Some 0) ms

-- the end of the last member, rounded up to the alignment; none of no members, since nothing is
-- rounded up to 0
abbrev pub struct_size : List Extent → Option ℕ
struct_size ms = with_both round_up (struct_align ms) (end_of_members (Some 0) ms)

-- of a member with these attributes, whose type has this size and alignment: an attribute takes the place of
-- what the type has, or lacks
abbrev pub extent : Option ℕ → Option ℕ → Option ℕ → Option ℕ → Extent
extent size_attribute align_attribute size align = record { size = option_or size_attribute size; align = option_or align_attribute align }

-- ---- every type

abbrev mutual
  pub size_of : Ty → Option ℕ
  size_of bool = Some 4
  size_of i32 = Some 4
  size_of u32 = Some 4
  size_of f32 = Some 4
  size_of f16 = Some 2
  size_of i64 = Some 8
  size_of u64 = Some 8
  size_of f64 = Some 8
  size_of (atomic t) = Some 4
  size_of (vec n t) = times n (size_of t)
  size_of (mat c r t) = times c (vec_align r t (size_of t))
  size_of (array t (Some n)) = times n (stride_of (align_of t) (size_of t))
  size_of (struct name fs) = struct_size (extents fs)
  size_of t = None

  pub align_of : Ty → Option ℕ
  align_of bool = Some 4
  align_of i32 = Some 4
  align_of u32 = Some 4
  align_of f32 = Some 4
  align_of f16 = Some 2
  align_of i64 = Some 8
  align_of u64 = Some 8
  align_of f64 = Some 8
  align_of (atomic t) = Some 4
  align_of (vec n t) = vec_align n t (size_of t)
  align_of (mat c r t) = vec_align r t (size_of t)
  align_of (array t n) = align_of t
  align_of (struct name fs) = struct_align (extents fs)
  align_of t = None

  -- of the members of a struct
  pub extents : Fields → List Extent
  extents no_fields = []
  extents (field name t size align fs) = extent size align (size_of t) (align_of t) ∷ extents fs

-- of a member of the type with these attributes
abbrev pub extent_in : Ty → Option ℕ → Option ℕ → Extent
extent_in t size align = extent size align (size_of t) (align_of t)

abbrev pub extent_of : Field → Extent
extent_of f = extent_in f.ty f.size f.align

-- the least size of a value of the type: a runtime-sized array has one element at least
abbrev pub min_size_of : Ty → Option ℕ
min_size_of (array t None) = stride_of (align_of t) (size_of t)
min_size_of t = size_of t
