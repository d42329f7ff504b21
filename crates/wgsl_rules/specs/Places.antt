-- Where the members of a structure stand and how many bytes are filled behind each, how far the elements of an array
-- and the columns of a matrix lie apart, and how large the buffer of a variable is at least (WGSL: structure member
-- layout; internal layout of values; minimum buffer binding size).
use Rattle.std.specs.Prelude.{ℕ, ◌-◌, Option, Some, None, List, [], ◌∷◌, if◌then◌else◌}
use Rattle.std.specs.Option.{option_or}
use Rattle.wgsl_rules.specs.Types.{Ty, struct, array, mat, vec, Fields, no_fields, field}
use Rattle.wgsl_rules.specs.Size.{Extent, size_of, align_of, extents, offset_after, end_after, struct_size, stride_of, with_both}
use Rattle.wgsl_rules.specs.Layout.{have_none}
use Rattle.wgsl_rules.specs.declared.places.MemberLayout.{MemberLayout}

-- ---- members

-- where the first of the members stands behind what ends at `from`; the end of the structure where there is none
abbrev pub start_behind : Option ℕ → Option ℕ → List Extent → Option ℕ
start_behind size from [] = size
start_behind size from (m ∷ ms) = offset_after from m

-- the bytes from the end of a member to the start of what is behind it
abbrev pub padding_between : Option ℕ → Option ℕ → Option ℕ
padding_between end start = with_both (λ e s. Some (s - e)) end start

-- of members in a structure of this size, of which the first stands behind what ends at `from`
abbrev pub layouts_behind : Option ℕ → Option ℕ → List Extent → List MemberLayout
layouts_behind size from [] = []
layouts_behind size from (m ∷ ms) =
    record {
      offset = offset_after from m;
      size = m.size;
      align = m.align;
      padding = padding_between (end_after from m) (start_behind size (end_after from m) ms);
    } ∷ layouts_behind size (end_after from m) ms

-- of the members of a structure; the last is filled up to the structure's end
abbrev pub layouts_of : List Extent → List MemberLayout
layouts_of ms = layouts_behind (struct_size ms) (Some 0) ms

abbrev pub member_layouts : Ty → List MemberLayout
member_layouts (struct name fs) = layouts_of (extents fs)
member_layouts t = []

-- ---- elements and columns

-- from one element of an array to the next, or from one column of a matrix to the next; other types have none
abbrev pub part_stride : Ty → Option ℕ
part_stride (array t n) = stride_of (align_of t) (size_of t)
part_stride (mat c r t) = align_of (vec r t)
part_stride t = None

-- ---- bindings

-- a runtime-sized array with k elements; any other type itself
abbrev pub with_elements : ℕ → Ty → Ty
with_elements k (array t n) = array t (option_or n (Some k))
with_elements k t = t

-- the members, the last of them so
abbrev pub with_elements_last : ℕ → Fields → Fields
with_elements_last k no_fields = no_fields
with_elements_last k (field name t s a fs) =
    if have_none fs then field name (with_elements k t) s a no_fields else field name t s a (with_elements_last k fs)

-- the size of the type, with k elements in the runtime-sized array that it is or ends in
abbrev pub size_with : ℕ → Ty → Option ℕ
size_with k (struct name fs) = size_of (struct name (with_elements_last k fs))
size_with k t = size_of (with_elements k t)

-- how many bytes a buffer has at least for a variable of the type: that array has one element at least
abbrev pub least_binding : Ty → Option ℕ
least_binding t = size_with 1 t
