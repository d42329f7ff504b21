-- Which references of the worked cells name components of vectors, by computation.
use Rattle.std.proofs.Common.{◌≡◌, ℕ, List, [], ◌∷◌, true, false, refl}
use Rattle.wgsl_rules.specs.Types.{Ty, u32, vec}
use Rattle.wgsl_rules.specs.Values.{Step, member, index, Reference, Val, record_of, array_of, matrix}
use Rattle.wgsl_rules.specs.declared.syntax.AddressSpace.TheVariants as spaces
use Rattle.wgsl_rules.specs.declared.syntax.AccessMode.{AccessMode}
use Rattle.wgsl_rules.specs.declared.syntax.AccessMode.TheVariants as mode
use Rattle.wgsl_store.specs.Components.{names_component}
use Rattle.wgsl_layout.proofs.lemmas.Made.{word, all, plain, words3}

-- a structure of a u32 and a vec3<u32>, a vector, a matrix of two columns, an array of vectors, and one of numbers
abbrev cells : List Val
cells =
    record_of (plain (u32 ∷ vec 3 u32 ∷ [])) (all (word 1 ∷ words3 2 3 4 ∷ []))
    ∷ words3 5 6 7
    ∷ matrix (all (words3 1 2 3 ∷ words3 4 5 6 ∷ []))
    ∷ array_of false (all (words3 1 2 3 ∷ words3 4 5 6 ∷ []))
    ∷ array_of true (all (word 8 ∷ word 9 ∷ []))
    ∷ []

abbrev first : Step
first = member (0 ∷ [])

abbrev second : Step
second = member (1 ∷ [])

abbrev to : ℕ → List Step → Ty → AccessMode → Reference
to cell steps t access = record { cell = cell; view = steps; ty = t; space = spaces.Storage; access = access }

abbrev IsComponent : ℕ → List Step → Type 0
IsComponent cell steps = names_component cells (to cell steps u32 mode.ReadWrite) ≡ true

abbrev IsNone : ℕ → List Step → Ty → Type 0
IsNone cell steps t = names_component cells (to cell steps t mode.ReadWrite) ≡ false

whole_structure : IsNone 0 [] (plain (u32 ∷ vec 3 u32 ∷ []))
whole_structure = refl

scalar_member : IsNone 0 (first ∷ []) u32
scalar_member = refl

vector_member : IsNone 0 (second ∷ []) (vec 3 u32)
vector_member = refl

component_of_a_member : IsComponent 0 (second ∷ index 0 ∷ [])
component_of_a_member = refl

whole_vector : IsNone 1 [] (vec 3 u32)
whole_vector = refl

component_of_a_cell : IsComponent 1 (index 2 ∷ [])
component_of_a_cell = refl

column : IsNone 2 (index 1 ∷ []) (vec 3 u32)
column = refl

component_of_a_column : IsComponent 2 (index 1 ∷ index 0 ∷ [])
component_of_a_column = refl

vector_element : IsNone 3 (index 0 ∷ []) (vec 3 u32)
vector_element = refl

component_of_an_element : IsComponent 3 (index 1 ∷ index 2 ∷ [])
component_of_an_element = refl

element : IsNone 4 (index 1 ∷ []) u32
element = refl

-- whatever may be done with the reference
write_only_component : names_component cells (to 0 (second ∷ index 1 ∷ []) u32 mode.Write) ≡ true
write_only_component = refl

write_only_member : names_component cells (to 0 (second ∷ []) (vec 3 u32) mode.Write) ≡ false
write_only_member = refl
