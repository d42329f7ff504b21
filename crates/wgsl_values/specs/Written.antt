-- Values that a part is written into (WGSL: assignment statement).
use Rattle.std.specs.Prelude.{◌≡◌, ℕ, List, [], ◌∷◌, Option, Some, None, Ok, Err, OnSome, if◌then◌else◌}
use Rattle.wgsl_rules.specs.Types.{Ty}
use Rattle.wgsl_rules.specs.Values.{Val, array_of, matrix, type_of, IsStorable, IsWellFormed}
use Rattle.wgsl_rules.specs.Refusals.{Outcome, write_ref_type}
use Rattle.wgsl_rules.specs.Same.{same}
use Rattle.wgsl_rules.specs.Paths.{put_tree, member_named, value_at}

-- v with w in the place of its part i
abbrev pub with_part : ℕ → Val → Val → Val
with_part i w v = put_tree (i ∷ []) w v

-- v with w in the place of part j of its part i
abbrev pub with_inner_part : ℕ → ℕ → Val → Val → Val
with_inner_part i j w v = put_tree (i ∷ j ∷ []) w v

-- v with w in the place of the part at the position, if there is one
abbrev pub with_placed : Option (ℕ × Val) → Val → Val → Val
with_placed None w v = v
with_placed (Some p) w v = with_part p.0 w v

-- v with w in the place of its first member of the name, if it has one
abbrev pub with_member : List ℕ → Val → Val → Val
with_member n w v = with_placed (member_named n v) w v

-- ---- the cases of values

abbrev pub as_array : Val → Option Val
as_array (array_of runtime vs) = Some (array_of runtime vs)
as_array v = None

abbrev pub as_matrix : Val → Option Val
as_matrix (matrix vs) = Some (matrix vs)
as_matrix v = None

-- what is answered where w is written over v: v, if the two are of one type
abbrev pub replaced : Val → Val → Outcome Val
replaced w v = if same (type_of w) (type_of v) then Ok v else Err (write_ref_type (type_of w) (type_of v))

-- ---- the whole after a part was written

-- new may be stored, and is of the type of old
pub record IsReplaced (new old : Val) : Type 0 where
  pub storable : IsStorable new
  pub ty : type_of new ≡ type_of old

-- a value that may be stored, with another of its type in the place of a part
abbrev pub APartReplacedIsStorable : Type 0
APartReplacedIsStorable = (p : List ℕ) (v w x : Val) → IsStorable v → value_at p v ≡ Some x → IsStorable w → type_of w ≡ type_of x → IsReplaced (put_tree p w v) v

-- ---- the whole after a part was lent to be written

-- new is what old was: well-formed, storable, of its type
pub record IsKept (new old : Val) : Type 0 where
  pub well_formed : IsWellFormed old → IsWellFormed new
  pub storable : IsStorable old → IsStorable new
  pub ty : type_of new ≡ type_of old

-- new is what is made of old where w is put in the place of the part of the type that was lent, if one was;
-- and it is what old was, where w may be stored and is of that type
pub record IsWritten (put : Val → Val → Val) (lent : Option Ty) (w old new : Val) : Type 0 where
  pub is : OnSome lent (new ≡ put w old)
  pub kept : IsStorable w → Some (type_of w) ≡ lent → IsKept new old

-- the part is as sound as the whole: well-formed, storable
pub record IsAsSound (part whole : Val) : Type 0 where
  pub well_formed : IsWellFormed whole → IsWellFormed part
  pub storable : IsStorable whole → IsStorable part

-- what is made of old where a value is put in the place of its part of the type is what old was, where the
-- value may be stored and is of that type
pub record KeepsWhole (put : Val → Val) (t : Ty) (old : Val) : Type 0 where
  pub well_formed : (new w : Val) → new ≡ put w → IsStorable w → type_of w ≡ t → IsWellFormed old → IsWellFormed new
  pub storable : (new w : Val) → new ≡ put w → IsStorable w → type_of w ≡ t → IsStorable old → IsStorable new
  pub ty : (new w : Val) → new ≡ put w → IsStorable w → type_of w ≡ t → type_of new ≡ type_of old
