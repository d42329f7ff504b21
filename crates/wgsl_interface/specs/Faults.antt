-- What of a type breaks a rule: where, and which one (WGSL: plain types; atomic types; array types; structure types;
-- host-shareable types; address spaces).
use Rattle.std.specs.Prelude.{ℕ, ◌-◌, Bool, true, false, not, ◌||◌, Option, Some, None, List, [], ◌∷◌, ◌++◌, map, take, length, codes, if◌then◌else◌}
use Rattle.std.specs.String.{string_bytes}
use Rattle.wgsl_rules.specs.Types.{Ty, bool, abstract_int, abstract_float, struct, array, vec, mat, atomic, ptr, ref, texture, sampler, Fields, no_fields, field}
use Rattle.wgsl_rules.specs.Layout.{have_none}
use Rattle.wgsl_rules.specs.declared.syntax.AddressSpace.{AddressSpace}
use Rattle.wgsl_rules.specs.declared.syntax.AddressSpace.TheVariants as space
use Rattle.wgsl_rules.specs.declared.syntax.AccessMode.{AccessMode}
use Rattle.wgsl_interface.specs.Plain.{is_atomic_content, is_count, is_vector, is_matrix, is_runtime_sized}
use Rattle.wgsl_interface.specs.Shared.{is_handle, is_read_write}
use Rattle.wgsl_interface.specs.declared.faults.Asked.{Asked}
use Rattle.wgsl_interface.specs.declared.faults.ShareFault.{ShareFault}
use Rattle.wgsl_interface.specs.declared.rule.ShareRule.{ShareRule}
use Rattle.wgsl_interface.specs.declared.rule.ShareRule.TheVariants as rules

-- a rule that is broken, and the path of the part that breaks it, as `a.b[].c`; that of the whole type has no characters
pub record Fault : Type 0 where
  pub path : List ℕ
  pub rule : ShareRule

abbrev pub fault_view : ShareFault → Fault
fault_view f = record { path = string_bytes f.path; rule = f.rule }

abbrev pub faults_view : List ShareFault → List Fault
faults_view fs = map fault_view fs

-- ---- paths

abbrev pub member_path : List ℕ → List ℕ → List ℕ
member_path [] name = name
member_path (c ∷ path) name = (c ∷ path) ++ (codes "." ++ name)

abbrev pub element_path : List ℕ → List ℕ
element_path path = path ++ codes "[]"

-- ---- the rule that one part breaks, if it breaks one

abbrev pub unless : Bool → ShareRule → Option ShareRule
unless true rule = None
unless false rule = Some rule

-- the rule that a bool, an atomic or a runtime-sized array breaks in a variable of the address space, for which this access
-- mode is given (WGSL: host-shareable types; atomic types; address spaces)
abbrev pub bool_rule : AddressSpace → Option ShareRule
bool_rule space.Storage = Some rules.BoolShared
bool_rule space.Uniform = Some rules.BoolShared
bool_rule s = None

abbrev pub atomic_rule : AddressSpace → Option AccessMode → Option ShareRule
atomic_rule space.Storage access = unless (is_read_write access) rules.AtomicAccess
atomic_rule space.Workgroup access = None
atomic_rule s access = Some rules.AtomicSpace

abbrev pub runtime_rule : AddressSpace → Option ShareRule
runtime_rule space.Storage = None
runtime_rule s = Some rules.RuntimeSpace

abbrev pub asked_by : AddressSpace → Option AccessMode → Asked
asked_by s access = record { of_bools = bool_rule s; of_atomics = atomic_rule s access; of_runtime_arrays = runtime_rule s; of_structures = true }

-- what is asked of a structure where it is declared: what is inside other structures is told of these
abbrev pub asked_of_declarations : Asked
asked_of_declarations = record { of_bools = None; of_atomics = None; of_runtime_arrays = None; of_structures = false }

abbrev pub scalar_rule : Asked → Ty → Option ShareRule
scalar_rule asked bool = asked.of_bools
scalar_rule asked abstract_int = Some rules.Abstract
scalar_rule asked abstract_float = Some rules.Abstract
scalar_rule asked t = None

-- of a vector or a matrix that has this shape, or none, and such components
abbrev pub component_rule : Asked → Bool → Ty → Option ShareRule
component_rule asked true t = scalar_rule asked t
component_rule asked false t = Some rules.Shape

abbrev pub array_rule : Asked → Option ℕ → Option ShareRule
array_rule asked None = asked.of_runtime_arrays
array_rule asked n = unless (is_count n) rules.Shape

abbrev pub is_last_runtime_sized : Fields → Bool
is_last_runtime_sized no_fields = false
is_last_runtime_sized (field name t s a fs) = if have_none fs then is_runtime_sized t else is_last_runtime_sized fs

-- a structure that ends in a runtime-sized array
abbrev pub ends_in_runtime_array : Ty → Bool
ends_in_runtime_array (struct name fs) = is_last_runtime_sized fs
ends_in_runtime_array t = false

-- of a type as that of elements
abbrev pub element_rule : Ty → Option ShareRule
element_rule t = unless (not (is_runtime_sized t || ends_in_runtime_array t)) rules.RuntimeInArray

-- of a type as that of a member, behind which there is no other one or there is
abbrev pub member_rule : Bool → Ty → Option ShareRule
member_rule is_last t =
    if is_runtime_sized t then unless is_last rules.RuntimeNotLast else unless (not (ends_in_runtime_array t)) rules.RuntimeInStruct

abbrev pub struct_rule : Fields → Option ShareRule
struct_rule fs = unless (not (have_none fs)) rules.Shape

-- ---- the rules that a type and its parts break

abbrev pub told : Option ShareRule → List ℕ → List Fault
told None path = []
told (Some rule) path = record { path = path; rule = rule } ∷ []

abbrev mutual
  -- of the type at this path, in the order of its text
  pub faults : Asked → List ℕ → Ty → List Fault
  faults asked path (vec n t) = told (component_rule asked (is_vector n t) t) path
  faults asked path (mat c r t) = told (component_rule asked (is_matrix c r t) t) path
  faults asked path (atomic t) = told (unless (is_atomic_content t) rules.AtomicContent) path ++ told asked.of_atomics path
  faults asked path (array t n) =
      told (array_rule asked n) path ++ (told (element_rule t) (element_path path) ++ faults asked (element_path path) t)
  faults asked path (struct name fs) =
      if asked.of_structures then told (struct_rule fs) path ++ member_faults asked path fs else []
  faults asked path (ptr s t a) = told (Some rules.NotPlain) path
  faults asked path (ref s t a) = told (Some rules.NotPlain) path
  faults asked path (texture t) = told (Some rules.NotPlain) path
  faults asked path (sampler s) = told (Some rules.NotPlain) path
  faults asked path t = told (scalar_rule asked t) path

  pub member_faults : Asked → List ℕ → Fields → List Fault
  member_faults asked path no_fields = []
  member_faults asked path (field name t s a fs) =
      (told (member_rule (have_none fs) t) (member_path path name) ++ faults asked (member_path path name) t) ++ member_faults asked path fs

-- of a structure type at this path
abbrev pub struct_faults : Asked → List ℕ → Ty → List Fault
struct_faults asked path (struct name fs) = told (struct_rule fs) path ++ member_faults asked path fs
struct_faults asked path t = []

-- what the type breaks as that of a variable of the address space, for which this access mode is given
abbrev pub share_faults : AddressSpace → Option AccessMode → Ty → List Fault
share_faults space.Handle access t = told (unless (is_handle t) rules.NotHandle) []
share_faults s access t = faults (asked_by s access) [] t

-- what a structure breaks where it is declared
abbrev pub declaration_faults : Ty → List Fault
declaration_faults t = struct_faults asked_of_declarations [] t

-- ---- what of them is told

abbrev pub first_100 : List Fault → List Fault
first_100 fs = take 100 fs

-- some more, where there are not too many
abbrev pub with_more : List Fault → List Fault → List Fault
with_more fs more = fs ++ take (100 - length fs) more
