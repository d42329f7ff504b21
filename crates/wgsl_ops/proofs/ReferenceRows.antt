-- Worked rows of the operators on references and pointers, by computation.
use Rattle.std.proofs.Common.{◌≡◌, ℕ, List, [], ◌∷◌, false, None, Ok, Err, refl}
use Rattle.wgsl_rules.specs.Refusals.{Outcome, unary, ptr_handle, ptr_vec_comp}
use Rattle.wgsl_rules.specs.Types as types
use Rattle.wgsl_rules.specs.Types.{Ty, struct, no_fields, field, array}
use Rattle.wgsl_rules.specs.Values.{Val, Step, member, index, Reference, record_of, array_of, pointer, reference, no_vals, val}
use Rattle.wgsl_rules.specs.declared.syntax.AddressSpace.{AddressSpace}
use Rattle.wgsl_rules.specs.declared.syntax.AddressSpace.TheVariants as spaces
use Rattle.wgsl_rules.specs.declared.syntax.AccessMode.{AccessMode}
use Rattle.wgsl_rules.specs.declared.syntax.AccessMode.TheVariants as mode
use Rattle.wgsl_rules.specs.declared.syntax.UnaryOperator.TheVariants as before
use Rattle.wgsl_ops.specs.Instances.{address_of, indirection}
use Rattle.wgsl_value_ops.proofs.Made.{u, vec2, vec3, mat2, vec2_of, vec3_of}

-- ---- references: a cell with a structure that has a vec3, a cell with a matrix, one with an array

abbrev pair : Ty
pair = struct [] (field (0 ∷ []) types.u32 None None (field (1 ∷ []) (vec3_of types.u32) None None no_fields))

abbrev cells : List Val
cells = record_of pair (val (u 1) (val (vec3 (u 2) (u 3) (u 4)) no_vals)) ∷ mat2 (vec2 (u 1) (u 2)) (vec2 (u 3) (u 4)) ∷ array_of false (val (u 5) no_vals) ∷ vec2 (u 6) (u 7) ∷ []

abbrev to : ℕ → List Step → Ty → AddressSpace → AccessMode → Reference
to cell steps t space access = record { cell = cell; view = steps; ty = t; space = space; access = access }

abbrev stored : ℕ → List Step → Ty → Reference
stored cell steps t = to cell steps t spaces.Storage mode.ReadWrite

abbrev HasAddress : Reference → Outcome Val → Type 0
HasAddress r o = address_of cells (reference r) ≡ o

component_of_a_member : HasAddress (stored 0 (member (1 ∷ []) ∷ index 0 ∷ []) types.u32) (Err ptr_vec_comp)
component_of_a_member = refl

vector_member : HasAddress (stored 0 (member (1 ∷ []) ∷ []) (vec3_of types.u32)) (Ok (pointer (stored 0 (member (1 ∷ []) ∷ []) (vec3_of types.u32))))
vector_member = refl

scalar_member : HasAddress (stored 0 (member (0 ∷ []) ∷ []) types.u32) (Ok (pointer (stored 0 (member (0 ∷ []) ∷ []) types.u32)))
scalar_member = refl

component_of_a_column : HasAddress (stored 1 (index 1 ∷ index 0 ∷ []) types.u32) (Err ptr_vec_comp)
component_of_a_column = refl

column : HasAddress (stored 1 (index 1 ∷ []) (vec2_of types.u32)) (Ok (pointer (stored 1 (index 1 ∷ []) (vec2_of types.u32))))
column = refl

element : HasAddress (stored 2 (index 0 ∷ []) types.u32) (Ok (pointer (stored 2 (index 0 ∷ []) types.u32)))
element = refl

component_of_a_cell : HasAddress (stored 3 (index 1 ∷ []) types.u32) (Err ptr_vec_comp)
component_of_a_cell = refl

whole_vector : HasAddress (stored 3 [] (vec2_of types.u32)) (Ok (pointer (stored 3 [] (vec2_of types.u32))))
whole_vector = refl

write_only_component : HasAddress (to 3 (index 1 ∷ []) types.u32 spaces.Storage mode.Write) (Err ptr_vec_comp)
write_only_component = refl

handle_component : HasAddress (to 3 (index 1 ∷ []) types.u32 spaces.Handle mode.Read) (Err ptr_handle)
handle_component = refl

handle_vector : HasAddress (to 0 (member (1 ∷ []) ∷ []) (vec3_of types.u32) spaces.Handle mode.Read) (Err ptr_handle)
handle_vector = refl

address_of_a_pointer : address_of cells (pointer (stored 0 [] pair)) ≡ Err (unary before.AddressOf (types.ptr spaces.Storage pair mode.ReadWrite))
address_of_a_pointer = refl

address_of_a_number : address_of cells (u 1) ≡ Err (unary before.AddressOf types.u32)
address_of_a_number = refl

indirection_of_a_pointer : indirection (pointer (stored 0 [] pair)) ≡ Ok (reference (stored 0 [] pair))
indirection_of_a_pointer = refl

indirection_of_a_reference : indirection (reference (stored 2 (index 0 ∷ []) types.u32)) ≡ Err (unary before.Indirection (types.ref spaces.Storage types.u32 mode.ReadWrite))
indirection_of_a_reference = refl
