-- The worked lists of calls, by computation: over cells of values and over cells of bytes the answers are the same.
use Rattle.std.proofs.Common.{◌≡◌, ℕ, pos, negsuc, List, [], ◌∷◌, Some, None, true, refl}
use Rattle.wgsl_rules.specs.Kinds as kinds
use Rattle.wgsl_rules.specs.Types as types
use Rattle.wgsl_rules.specs.Types.{Ty, bool, u32, i32, struct, array, vec, mat, atomic, Fields, no_fields, field}
use Rattle.wgsl_rules.specs.Values as values
use Rattle.wgsl_rules.specs.Values.{Val, truth, number, record_of, array_of, vector, matrix, reference, Vals, no_vals, val, type_of, Reference}
use Rattle.wgsl_rules.specs.Refusals.{not_read, not_write, not_read_write, write_ref_type, component, not_indexable, out_of_bounds}
use Rattle.wgsl_rules.specs.declared.syntax.AddressSpace.{AddressSpace}
use Rattle.wgsl_rules.specs.declared.syntax.AddressSpace.TheVariants as space
use Rattle.wgsl_rules.specs.declared.syntax.AccessMode.TheVariants as mode
use Rattle.wgsl_session.specs.Calls.{State, Call, Answer, step, of_values, new, new_of, member, index, read_of, write, replace, copy, load_of, handle, value, done, no_handle, refused}
use Rattle.wgsl_session.specs.Flat.{Cell, bytes, tree, of_bytes, found}
use Rattle.wgsl_layout.proofs.lemmas.Made.{word, all, plain, words3, words}

abbrev run : State Val → List Call → List Answer
run s [] = []
run s (c ∷ cs) = (step (of_values s.cells) s c).answer ∷ run (step (of_values s.cells) s c).state cs

abbrev run_flat : State Cell → List Call → List Answer
run_flat s [] = []
run_flat s (c ∷ cs) = (step (of_bytes s.cells (found s.cells)) s c).answer ∷ run_flat (step (of_bytes s.cells (found s.cells)) s c).state cs

abbrev cells_after : State Cell → List Call → List Cell
cells_after s [] = s.cells
cells_after s (c ∷ cs) = cells_after (step (of_bytes s.cells (found s.cells)) s c).state cs

abbrev empty : {C : Type 0} → State C
empty = record { cells = []; handles = [] }

-- the calls answer this in both memories, and leave these cells in that of bytes
abbrev Gives : List Call → List Answer → List Cell → Type 0
Gives cs answers cells = (run empty cs ≡ answers) × (run_flat empty cs ≡ answers) × (cells_after empty cs ≡ cells)

abbrev a_name : List ℕ
a_name = 0 ∷ []

abbrev b_name : List ℕ
b_name = 1 ∷ []

abbrev pair : Ty
pair = plain (u32 ∷ vec 3 u32 ∷ [])

-- a component is written, and the vector around it read, and the other way round; the u32 in front stays
component_and_vector : Gives
    (new (record_of pair (all (word 1 ∷ words3 2 3 4 ∷ []))) space.Storage mode.ReadWrite ∷ member 0 b_name ∷ index 1 2 ∷ write 2 (word 9) ∷ read_of 1
    ∷ write 1 (words3 7 7 7) ∷ read_of 2 ∷ member 0 b_name ∷ member 1 b_name ∷ index 1 3 ∷ index 2 0 ∷ [])
    (handle 0 ∷ handle 1 ∷ handle 2 ∷ done ∷ value (words3 2 3 9) ∷ done ∷ value (word 7) ∷ handle 3 ∷ refused (component (vec 3 u32) b_name)
    ∷ refused (out_of_bounds 3 (vec 3 u32) 3) ∷ refused (not_indexable u32) ∷ [])
    (bytes pair (words (1 ∷ 0 ∷ 0 ∷ 0 ∷ 7 ∷ 7 ∷ 7 ∷ 0 ∷ [])) ∷ [])
component_and_vector = (refl, refl, refl)

abbrev runtime : List Val → Val
runtime vs = array_of true (all vs)

-- an array of two does not fit over three elements, and the third still reads
shorter_array : Gives
    (new (runtime (word 10 ∷ word 11 ∷ word 12 ∷ [])) space.Storage mode.ReadWrite ∷ index 0 2 ∷ index 0 3 ∷ write 0 (runtime (word 1 ∷ word 2 ∷ [])) ∷ read_of 1 ∷ [])
    (handle 0 ∷ handle 1 ∷ refused (out_of_bounds 3 (array u32 None) 3) ∷ refused (write_ref_type (array u32 None) (array u32 None)) ∷ value (word 12) ∷ [])
    (bytes (array u32 None) (words (10 ∷ 11 ∷ 12 ∷ [])) ∷ [])
shorter_array = (refl, refl, refl)

abbrev words2 : ℕ → ℕ → Val
words2 a b = vector (all (word a ∷ word b ∷ []))

-- what may only be written is not read, but replaced
write_only : Gives
    (new (words2 5 6) space.Storage mode.Write ∷ index 0 0 ∷ read_of 0 ∷ write 0 (words2 7 8) ∷ replace 0 (words2 1 1) ∷ [])
    (handle 0 ∷ refused not_read ∷ refused not_read ∷ done ∷ value (words2 7 8) ∷ [])
    (bytes (vec 2 u32) (words (1 ∷ 1 ∷ [])) ∷ [])
write_only = (refl, refl, refl)

-- whether it is allowed is asked before anything else, and before that whether each handle is there
refusals_in_order : Gives
    (new (words2 5 6) space.Storage mode.Read ∷ new (words2 7 8) space.Storage mode.Write
    ∷ write 0 (word 1) ∷ replace 0 (word 1) ∷ write 1 (word 1) ∷ replace 1 (word 1) ∷ member 1 a_name ∷ index 1 9 ∷ load_of 1 ∷ load_of 0
    ∷ copy 1 0 ∷ copy 0 0 ∷ copy 1 9 ∷ copy 9 1 ∷ copy 0 1 ∷ new_of 9 space.Function mode.ReadWrite ∷ [])
    (handle 0 ∷ handle 1
    ∷ refused not_write ∷ refused not_read_write ∷ refused (write_ref_type u32 (vec 2 u32)) ∷ refused (write_ref_type u32 (vec 2 u32)) ∷ refused not_read ∷ refused not_read ∷ refused not_read ∷ value (words2 5 6)
    ∷ refused not_read ∷ refused not_write ∷ no_handle ∷ no_handle ∷ done ∷ no_handle ∷ [])
    (bytes (vec 2 u32) (words (5 ∷ 6 ∷ [])) ∷ bytes (vec 2 u32) (words (5 ∷ 6 ∷ [])) ∷ [])
refusals_in_order = (refl, refl, refl)

-- a column, and a component of it
columns : Gives
    (new (matrix (all (words3 1 2 3 ∷ words3 4 5 6 ∷ []))) space.Storage mode.ReadWrite ∷ index 0 1 ∷ write 1 (words3 7 8 9) ∷ index 1 2 ∷ read_of 2 ∷ index 0 2 ∷ [])
    (handle 0 ∷ handle 1 ∷ done ∷ handle 2 ∷ value (word 9) ∷ refused (out_of_bounds 2 (mat 2 3 u32) 2) ∷ [])
    (bytes (mat 2 3 u32) (words (1 ∷ 2 ∷ 3 ∷ 0 ∷ 7 ∷ 8 ∷ 9 ∷ 0 ∷ [])) ∷ [])
columns = (refl, refl, refl)

-- of two members of one name the first is found
abbrev namesakes : Ty
namesakes = struct [] (field a_name u32 None None (field a_name u32 None None no_fields))

first_of_a_name : Gives
    (new (record_of namesakes (all (word 1 ∷ word 2 ∷ []))) space.Storage mode.ReadWrite ∷ member 0 a_name ∷ replace 1 (word 9) ∷ [])
    (handle 0 ∷ handle 1 ∷ value (word 1) ∷ [])
    (bytes namesakes (words (9 ∷ 2 ∷ [])) ∷ [])
first_of_a_name = (refl, refl, refl)

-- an array copied over one of another length, and an element over an element
copies : Gives
    (new (runtime (word 1 ∷ word 2 ∷ [])) space.Storage mode.ReadWrite ∷ new (runtime (word 3 ∷ word 4 ∷ word 5 ∷ [])) space.Storage mode.ReadWrite
    ∷ copy 0 1 ∷ index 1 2 ∷ index 0 0 ∷ copy 2 3 ∷ read_of 0 ∷ copy 0 9 ∷ [])
    (handle 0 ∷ handle 1 ∷ refused (write_ref_type (array u32 None) (array u32 None)) ∷ handle 2 ∷ handle 3 ∷ done ∷ value (runtime (word 5 ∷ word 2 ∷ [])) ∷ no_handle ∷ [])
    (bytes (array u32 None) (words (5 ∷ 2 ∷ [])) ∷ bytes (array u32 None) (words (3 ∷ 4 ∷ 5 ∷ [])) ∷ [])
copies = (refl, refl, refl)

abbrev int : ℕ → Val
int n = number kinds.i32 (pos n)

abbrev to_cell : ℕ → AddressSpace → Ty → Val
to_cell n s t = reference (record { cell = n; view = []; ty = t; space = s; access = mode.ReadWrite })

abbrev ref_to : AddressSpace → Ty → Ty
ref_to s t = types.ref s t mode.ReadWrite

-- a reference in a cell
loads_one : Gives
    (new (int 5) space.Storage mode.ReadWrite ∷ new_of 0 space.Function mode.ReadWrite ∷ load_of 1 ∷ read_of 1 ∷ write 0 (int 6) ∷ load_of 1 ∷ write 1 (int 1) ∷ read_of 2 ∷ [])
    (handle 0 ∷ handle 1 ∷ value (int 5) ∷ value (to_cell 0 space.Storage i32) ∷ done ∷ value (int 6)
    ∷ refused (write_ref_type i32 (ref_to space.Storage i32)) ∷ no_handle ∷ [])
    (bytes i32 (words (6 ∷ [])) ∷ tree (to_cell 0 space.Storage i32) ∷ [])
loads_one = (refl, refl, refl)

-- what is behind a reference that may not be read is not loaded
abbrev write_only_to_0 : Reference
write_only_to_0 = record { cell = 0; view = []; ty = i32; space = space.Storage; access = mode.Write }

loads_none : Gives
    (new (int 5) space.Storage mode.Write ∷ new_of 0 space.Function mode.ReadWrite ∷ read_of 1 ∷ load_of 1 ∷ [])
    (handle 0 ∷ handle 1 ∷ value (reference write_only_to_0) ∷ refused not_read ∷ [])
    (bytes i32 (words (5 ∷ [])) ∷ tree (reference write_only_to_0) ∷ [])
loads_none = (refl, refl, refl)

-- a reference to a reference
loads_two : Gives
    (new (int 5) space.Storage mode.ReadWrite ∷ new_of 0 space.Function mode.ReadWrite ∷ new_of 1 space.Function mode.ReadWrite ∷ load_of 2 ∷ read_of 2
    ∷ new (int 7) space.Storage mode.ReadWrite ∷ new_of 3 space.Function mode.ReadWrite ∷ copy 4 1 ∷ load_of 2 ∷ read_of 0 ∷ [])
    (handle 0 ∷ handle 1 ∷ handle 2 ∷ value (int 5) ∷ value (to_cell 1 space.Function (ref_to space.Storage i32)) ∷ handle 3 ∷ handle 4 ∷ done ∷ value (int 7) ∷ value (int 5) ∷ [])
    (bytes i32 (words (5 ∷ [])) ∷ tree (to_cell 3 space.Storage i32) ∷ tree (to_cell 1 space.Function (ref_to space.Storage i32)) ∷ bytes i32 (words (7 ∷ [])) ∷ tree (to_cell 3 space.Storage i32) ∷ [])
loads_two = (refl, refl, refl)

-- @size(16) u32, u32: a write of the first changes four bytes, one of the second the others
abbrev sized : Ty
sized = struct [] (field a_name u32 (Some 16) None (field b_name u32 None None no_fields))

sized_members : Gives
    (new (record_of sized (all (word 1 ∷ word 2 ∷ []))) space.Storage mode.ReadWrite ∷ member 0 b_name ∷ write 1 (word 7) ∷ member 0 a_name ∷ write 2 (word 5) ∷ [])
    (handle 0 ∷ handle 1 ∷ done ∷ handle 2 ∷ done ∷ [])
    (bytes sized (words (5 ∷ 0 ∷ 0 ∷ 0 ∷ 7 ∷ [])) ∷ [])
sized_members = (refl, refl, refl)

-- a u32 that stands right behind a vec3 stays
behind_vec3 : Gives
    (new (record_of (plain (vec 3 u32 ∷ u32 ∷ [])) (all (words3 1 2 3 ∷ word 4 ∷ []))) space.Storage mode.ReadWrite ∷ member 0 a_name ∷ write 1 (words3 9 9 9) ∷ [])
    (handle 0 ∷ handle 1 ∷ done ∷ [])
    (bytes (plain (vec 3 u32 ∷ u32 ∷ [])) (words (9 ∷ 9 ∷ 9 ∷ 4 ∷ [])) ∷ [])
behind_vec3 = (refl, refl, refl)

-- a struct with a bool has no layout, and its cell is a tree
bool_and_u32 : Gives
    (new (record_of (plain (bool ∷ u32 ∷ [])) (all (truth true ∷ word 4 ∷ []))) space.Private mode.ReadWrite ∷ member 0 b_name ∷ write 1 (word 9) ∷ read_of 1 ∷ [])
    (handle 0 ∷ handle 1 ∷ done ∷ value (word 9) ∷ [])
    (tree (record_of (plain (bool ∷ u32 ∷ [])) (all (truth true ∷ word 9 ∷ []))) ∷ [])
bool_and_u32 = (refl, refl, refl)

-- an element of the array at the end of a struct
abbrev counter : Ty
counter = plain (atomic i32 ∷ array (vec 2 u32) None ∷ [])

abbrev counter_of : Val → Val
counter_of v = record_of counter (all (values.atomic_of (number kinds.i32 (negsuc 0)) ∷ runtime (v ∷ words2 5 6 ∷ []) ∷ []))

open_struct : Gives
    (new (counter_of (words2 3 4)) space.Storage mode.ReadWrite ∷ member 0 b_name ∷ index 1 0 ∷ write 2 (words2 8 9) ∷ index 1 1 ∷ index 3 1 ∷ read_of 4 ∷ read_of 0 ∷ index 1 2 ∷ [])
    (handle 0 ∷ handle 1 ∷ handle 2 ∷ done ∷ handle 3 ∷ handle 4 ∷ value (word 6) ∷ value (counter_of (words2 8 9)) ∷ refused (out_of_bounds 2 (array (vec 2 u32) None) 2) ∷ [])
    (bytes counter (words (4294967295 ∷ 0 ∷ 8 ∷ 9 ∷ 5 ∷ 6 ∷ [])) ∷ [])
open_struct = (refl, refl, refl)
