-- Numbers in bytes by the kinds that the records of a table have, for the contracts of the code.
use Rattle.std.specs.Prelude.{ℕ, zero, suc, ◌+◌, Option, Some, None, Bool, is_some, List, [], ◌∷◌, length, nat_le, ◌==◌, ◌&&◌, ◌||◌, if◌then◌else◌, option_and_then, option_map}
use Rattle.std.specs.List.{list_all}
use Rattle.wgsl_rules.specs.InCommon.{prepended}
use Rattle.wgsl_rules.specs.Kinds as kinds
use Rattle.wgsl_rules.specs.Kinds.{Kind, bytes_of}
use Rattle.wgsl_rules.specs.Layout.{is_from_2_to_4}
use Rattle.wgsl_rules.specs.Values.{Val, number}
use Rattle.wgsl_scalar.specs.Literals.{literal_of}
use Rattle.wgsl_scalar.specs.declared.literal.LiteralInstance.{LiteralInstance}
use Rattle.wgsl_layout.specs.Buffers.{number_from, read_number}
use Rattle.wgsl_layout.specs.Ranges.{overwritten}
use Rattle.wgsl_layout.specs.Walk.{number_bytes}

-- the kind of the numbers that a record of a number says, an atomic's too
abbrev pub kind_named : ℕ → Option Kind
kind_named kind =
    if kind == 1 || kind == 257 then Some kinds.i32 else (if kind == 2 || kind == 258 then Some kinds.u32 else (if kind == 5 then Some kinds.i64 else (if kind == 6 then Some kinds.u64 else None)))

-- the number that so many bytes are
abbrev pub bytes_at : List ℕ → ℕ → ℕ → Option ℕ
bytes_at b o width = if nat_le (o + width) (length b) then Some (number_from b o width) else None

abbrev pub loaded_as : List ℕ → ℕ → Kind → Option Val
loaded_as b o k = if nat_le (o + bytes_of k) (length b) then Some (number k (read_number b o k)) else None

abbrev pub loaded_kind : List ℕ → ℕ → ℕ → Option Val
loaded_kind b o kind = option_and_then (loaded_as b o) (kind_named kind)

-- how many bytes the number takes, where it is of the kind that is named
abbrev pub width_with : ℕ → Val → Option ℕ
width_with kind (number kinds.i32 z) = if kind == 1 || kind == 257 then Some 4 else None
width_with kind (number kinds.u32 z) = if kind == 2 || kind == 258 then Some 4 else None
width_with kind (number kinds.i64 z) = if kind == 5 then Some 8 else None
width_with kind (number kinds.u64 z) = if kind == 6 then Some 8 else None
width_with kind v = None

abbrev pub number_put : List ℕ → ℕ → Val → List ℕ
number_put b o (number k z) = overwritten b o (number_bytes k z)
number_put b o v = b

abbrev pub stored_in : List ℕ → ℕ → Val → ℕ → Option (List ℕ)
stored_in b o w width = if nat_le (o + width) (length b) then Some (number_put b o w) else None

abbrev pub stored_kind : List ℕ → ℕ → ℕ → Val → Option (List ℕ)
stored_kind b o kind w = option_and_then (stored_in b o w) (width_with kind w)

-- ---- numbers side by side

-- how many bytes a number takes of the kind that is named
abbrev pub width_of : ℕ → Option ℕ
width_of kind = option_map bytes_of (kind_named kind)

-- n numbers from o on, so far apart
abbrev pub loaded_far : List ℕ → ℕ → ℕ → ℕ → ℕ → Option (List Val)
loaded_far b o kind far zero = Some []
loaded_far b o kind far (suc n) = prepended (loaded_kind b o kind) (loaded_far b (o + far) kind far n)

abbrev pub loaded_row : List ℕ → ℕ → ℕ → ℕ → Option (List Val)
loaded_row b o kind n = option_and_then (λ far. loaded_far b o kind far n) (width_of kind)

abbrev pub is_of_kind : ℕ → Val → Bool
is_of_kind kind w = is_some (width_with kind w)

-- the bytes with these numbers from o on, so far apart
abbrev pub stored_far : List ℕ → ℕ → ℕ → ℕ → List Val → Option (List ℕ)
stored_far b o kind far [] = Some b
stored_far b o kind far (w ∷ ws) = option_and_then (λ c. stored_far c (o + far) kind far ws) (stored_kind b o kind w)

abbrev pub stored_row : List ℕ → ℕ → ℕ → List Val → Option (List ℕ)
stored_row b o kind ws = option_and_then (λ far. stored_far b o kind far ws) (width_of kind)

-- how far apart these stand side by side, where they are of the kind and so many, as a vector has them
abbrev pub row_width : ℕ → ℕ → List LiteralInstance → Option ℕ
row_width kind n ls = if is_from_2_to_4 n && (length ls == n && list_all (λ l. is_of_kind kind (literal_of l)) ls) then width_of kind else None
