-- The laws of layouts and of buffers. Each is proved of the definitions alone.
use Rattle.std.specs.Prelude.{◌≡◌, ℕ, ◌+◌, ◌%◌, ◌<◌, ◌≤◌, List, [], ◌∷◌, ◌++◌, length, Some, IsTrue, IfOk, IsSomeAnd, MatchOption, ⊤}
use Rattle.wgsl_rules.specs.Kinds.{bytes_of}
use Rattle.wgsl_rules.specs.Types.{Ty}
use Rattle.wgsl_rules.specs.Values.{Step, Val, type_of, IsStorable}
use Rattle.wgsl_rules.specs.Paths.{value_at, path_of, put_tree, FitsPlace}
use Rattle.wgsl_rules.specs.Size.{size_of, align_of}
use Rattle.wgsl_rules.specs.Layout.{has_fixed_layout, HasLayout, tail_of, stride, layout_len, layout, layout_of, runtime_count, length_in, Leaf, leaves}
use Rattle.wgsl_layout.specs.Buffers.{buffer, IsReadOf, decode, without_padding}
use Rattle.wgsl_layout.specs.Ranges.{Range, range, view_range, bytes_in, overwritten}

-- ---- layouts

-- one after the other, the first at `from` or later, the last ending at `to` or before
abbrev pub AreInOrder : ℕ → List Leaf → ℕ → Type 0
AreInOrder from [] to = from ≤ to
AreInOrder from (l ∷ ls) to = (from ≤ l.offset) × AreInOrder (l.offset + bytes_of l.kind) ls to

-- the leaves of a layout do not overlap, and lie inside its length
abbrev pub LeavesAreInOrder : Type 0
LeavesAreInOrder = (t : Ty) (n : ℕ) → HasLayout t → AreInOrder 0 (leaves (layout n t)) (layout_len n t)

-- a fixed layout has the length of the type
abbrev pub AFixedLayoutHasTheSize : Type 0
AFixedLayoutHasTheSize = (t : Ty) (n : ℕ) → IsTrue (has_fixed_layout t) → (size_of t ≡ Some (layout_len n t)) × (length_in (layout n t) ≡ layout_len n t)

-- a multiple of the alignment of the type, which is known and is no less than 1
abbrev pub IsPlaceOf : Ty → ℕ → Type 0
IsPlaceOf t place = IsSomeAnd (align_of t) (λ a. (1 ≤ a) × (place % a ≡ 0))

-- the part x at the path p of v: its range has its layout, its length and its bytes, which are its own buffer,
-- and begins at a place of its type
pub record IsPartAt (v : Val) (p : List ℕ) (x : Val) : Type 0 where
  pub range_of : Range
  pub there : range (runtime_count v) (type_of v) p ≡ Some range_of
  pub its_layout : range_of.layout ≡ layout_of x
  pub its_length : length_in range_of.layout ≡ length (buffer x)
  pub inside : range_of.start + length (buffer x) ≤ length (buffer v)
  pub its_bytes : bytes_in (buffer v) range_of ≡ buffer x
  pub its_place : IsPlaceOf (type_of x) range_of.start

-- paths and bytes compose
abbrev pub PathsAndBytesCompose : Type 0
PathsAndBytesCompose = (v x : Val) (p : List ℕ) → IsStorable v → HasLayout (type_of v) → value_at p v ≡ Some x → HasLayout (type_of x) × IsPartAt v p x

-- a view of a value leads to the range of its path
abbrev pub ViewsLeadToRanges : Type 0
ViewsLeadToRanges = (steps : List Step) (v : Val) → IsStorable v → HasLayout (type_of v)
    → IfOk (path_of steps v) (λ p. view_range steps (layout_of v) ≡ range (runtime_count v) (type_of v) p)

-- ---- buffers

-- a buffer has the length of the layout, with as many elements as the value has
abbrev pub ABufferHasTheLength : Type 0
ABufferHasTheLength = (v : Val) → HasLayout (type_of v) → length (buffer v) ≡ layout_len (runtime_count v) (type_of v)

-- `decode` gives what reading answers
abbrev pub DecodingIsReading : Type 0
DecodingIsReading = (b : List ℕ) (t : Ty) → IsReadOf b t (decode b t)

-- bytes after a buffer in which no further element of a runtime-sized array finds room
abbrev pub AreTooFew : Ty → List ℕ → Type 0
AreTooFew t more = MatchOption (tail_of t) ⊤ (λ r. length more < stride r.element)

-- a buffer reads back as its value, with such bytes after it
abbrev pub ABufferReadsBack : Type 0
ABufferReadsBack = (v : Val) (more : List ℕ) → IsStorable v → HasLayout (type_of v) → AreTooFew (type_of v) more → decode (buffer v ++ more) (type_of v) ≡ Some v

abbrev pub AreBytes : List ℕ → Type 0
AreBytes [] = Unit {0}
AreBytes (b ∷ bs) = (b < 256) × AreBytes bs

-- the buffer of what is read is the bytes with padding zeroed
abbrev pub AReadValueHasTheBytes : Type 0
AReadValueHasTheBytes = (b : List ℕ) (t : Ty) (v : Val) → AreBytes b → decode b t ≡ Some v → buffer v ≡ without_padding b (layout_of v)

-- values of one type are told apart by their buffers
abbrev pub BuffersTellValuesApart : Type 0
BuffersTellValuesApart = (v w : Val) → IsStorable v → IsStorable w → HasLayout (type_of v) → type_of w ≡ type_of v → buffer w ≡ buffer v → w ≡ v

-- w, put at the path p of v, overwrites the bytes of the range there, and no other byte of the buffer
pub record IsPutAt (v : Val) (p : List ℕ) (w : Val) : Type 0 where
  pub range_of : Range
  pub there : range (runtime_count v) (type_of v) p ≡ Some range_of
  pub its_length : length_in range_of.layout ≡ length (buffer w)
  pub inside : range_of.start + length (buffer w) ≤ length (buffer v)
  pub its_bytes : buffer (put_tree p w v) ≡ overwritten (buffer v) range_of.start (buffer w)

-- what is put into the place of a part that it fits overwrites the range of that part
abbrev pub APutOverwritesItsRange : Type 0
APutOverwritesItsRange = (v w x : Val) (p : List ℕ) → IsStorable v → HasLayout (type_of v) → IsStorable w → value_at p v ≡ Some x → FitsPlace w x → IsPutAt v p w
