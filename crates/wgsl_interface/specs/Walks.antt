-- What the walk down a type has told, and where it stands.
use Rattle.std.specs.Prelude.{◌≡◌, ℕ, Bool, List, ◌++◌}
use Rattle.std.specs.String.{string_bytes}
use Rattle.wgsl_rules.specs.Types.{Ty}
use Rattle.wgsl_rules.specs.View.{Field}
use Rattle.wgsl_interface.specs.Faults.{Fault, faults_view, with_more, told, element_rule, element_path, member_rule, member_path, faults}
use Rattle.wgsl_interface.specs.declared.faults.Asked.{Asked}
use Rattle.wgsl_interface.specs.declared.faults.Walk.{Walk}

-- it told these faults more, and stands where it stood
pub record IsTold (old new : Walk) (more : List Fault) : Type 0 where
  pub path : string_bytes new.path ≡ string_bytes old.path
  pub faults : faults_view new.faults.items ≡ with_more (faults_view old.faults.items) more

-- of the elements of an array at this path
abbrev pub element_faults : Asked → List ℕ → Ty → List Fault
element_faults asked path t = told (element_rule t) (element_path path) ++ faults asked (element_path path) t

-- of one member of a structure at this path, behind which there is no other one or there is
abbrev pub faults_of_member : Asked → List ℕ → Bool → Field → List Fault
faults_of_member asked path is_last f =
    told (member_rule is_last f.ty) (member_path path f.name) ++ faults asked (member_path path f.name) f.ty
