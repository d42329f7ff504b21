-- What makes a type host-shareable or constructible, and which types are sound for a variable.
use Rattle.std.proofs.Common.{◌≡◌, ◌∙◌, ℕ, List, [], Bool, true, not, Option, Some, None, refl, sym}
use Rattle.std.specs.Prelude.{◌&&◌, ◌||◌, ◌∷◌, IsTrue}
use Rattle.std.proofs.lemmas.Bool.{and_parts, and_from, true≢false}
use Rattle.wgsl_rules.specs.Types.{Ty, bool, abstract_int, abstract_float, i32, u32, f32, f16, i64, u64, f64, struct, array, vec, mat, atomic, Fields, no_fields, field}
use Rattle.wgsl_rules.specs.Layout.{have_none}
use Rattle.wgsl_rules.specs.declared.syntax.AddressSpace.TheVariants as space
use Rattle.wgsl_rules.specs.declared.syntax.AccessMode.{AccessMode}
use Rattle.wgsl_interface.specs.Plain.{is_scalar, is_runtime_sized, is_count, is_vector, is_matrix, is_atomic_content, is_sized, are_sized, may_stand_before, is_plain, are_plain, is_concrete, are_concrete}
use Rattle.wgsl_interface.specs.Shared.{has_atomic, have_atomic, is_host_shareable, are_host_shareable, is_constructible, are_constructible, is_read_write, is_storable, is_storable_structure, have_storable_structures, may_be_of}
use Rattle.wgsl_interface.specs.Faults.{Fault, faults_view, first_100, asked_by, asked_of_declarations, declaration_faults}
use Rattle.wgsl_interface.specs.declared.faults.ShareFault.{ShareFault}
use Rattle.wgsl_interface.specs.declared.rule.ShareRule.TheVariants as rules
use Rattle.wgsl_interface.proofs.Booleans as b
use Rattle.wgsl_interface.proofs.NoFaults.{has_bool, have_bool, sound, settled, all_settled, is_nil, struct-sound, nil-members, vector-scalar, matrix-scalar, content-concrete, none-unless}

shareable-scalar : (t : Ty) → is_scalar t ≡ true → is_host_shareable t ≡ (is_concrete t && not (has_bool t))
shareable-scalar bool h = refl
shareable-scalar abstract_int h = refl
shareable-scalar abstract_float h = refl
shareable-scalar i32 h = refl
shareable-scalar u32 h = refl
shareable-scalar f32 h = refl
shareable-scalar f16 h = refl
shareable-scalar i64 h = refl
shareable-scalar u64 h = refl
shareable-scalar f64 h = refl
shareable-scalar t h = absurd (cc)

mutual
  pub shareable-is : (t : Ty) → is_host_shareable t ≡ (is_plain t && (is_concrete t && not (has_bool t)))
  shareable-is (vec n t) = b.shared_vector (is_vector n t) (is_host_shareable t) (is_concrete t) (has_bool t) (λ h. shareable-scalar t (vector-scalar n t h))
  shareable-is (mat c r t) = b.shared_vector (is_matrix c r t) (is_host_shareable t) (is_concrete t) (has_bool t) (λ h. shareable-scalar t (matrix-scalar c r t h))
  shareable-is (atomic t) = b.shared_atomic (is_atomic_content t) (is_concrete t) (content-concrete t)
  shareable-is (array t n) = b.shared_array (is_count n) (is_sized t) (is_host_shareable t) (is_plain t) (is_concrete t) (has_bool t) (shareable-is t)
  shareable-is (struct name fs) = b.shared_struct (not (have_none fs)) (are_host_shareable fs) (are_plain fs) (are_concrete fs) (have_bool fs) (shareable-all fs)
  shareable-is t = refl

  shareable-all : (fs : Fields) → are_host_shareable fs ≡ (are_plain fs && (are_concrete fs && not (have_bool fs)))
  shareable-all no_fields = refl
  shareable-all (field name t s a fs) =
      b.shared_member (may_stand_before fs t) (is_host_shareable t) (is_plain t) (is_concrete t) (has_bool t) (are_host_shareable fs) (are_plain fs) (are_concrete fs) (have_bool fs) (shareable-is t) (shareable-all fs)

mutual
  pub constructible-is : (t : Ty) → is_constructible t ≡ (is_plain t && (not (has_atomic t) && is_sized t))
  constructible-is (vec n t) = b.and_true (is_vector n t)
  constructible-is (mat c r t) = b.and_true (is_matrix c r t)
  constructible-is (atomic t) = b.and_false (is_atomic_content t)
  constructible-is (array t None) = b.made_runtime (is_plain (array t None)) (not (has_atomic t))
  constructible-is (array t (Some n)) = b.made_array (is_count (Some n)) (is_sized t) (is_constructible t) (is_plain t) (has_atomic t) (constructible-is t)
  constructible-is (struct name fs) = b.made_struct (not (have_none fs)) (are_constructible fs) (are_plain fs) (have_atomic fs) (are_sized fs) (constructible-all fs)
  constructible-is t = refl

  constructible-all : (fs : Fields) → are_constructible fs ≡ (are_plain fs && (not (have_atomic fs) && are_sized fs))
  constructible-all no_fields = refl
  constructible-all (field name t s a fs) =
      b.made_member (have_none fs && is_runtime_sized t) (is_constructible t) (is_plain t) (has_atomic t) (is_sized t) (are_constructible fs) (are_plain fs) (have_atomic fs) (are_sized fs) (constructible-is t) (constructible-all fs)

pub sound-storage : (access : Option AccessMode) (t : Ty) → sound (asked_by space.Storage access) t ≡ may_be_of space.Storage access t
sound-storage access t =
    rw (none-unless (is_read_write access) rules.AtomicAccess)
    (b.of_storage (is_plain t) (is_concrete t) (has_bool t) (is_read_write access || not (has_atomic t)) (is_host_shareable t) (shareable-is t))

pub sound-uniform : (access : Option AccessMode) (t : Ty) → sound (asked_by space.Uniform access) t ≡ may_be_of space.Uniform access t
sound-uniform access t = b.of_uniform (is_plain t) (is_concrete t) (has_bool t) (has_atomic t) (is_sized t) (is_host_shareable t) (is_constructible t) (shareable-is t) (constructible-is t)

pub sound-workgroup : (access : Option AccessMode) (t : Ty) → sound (asked_by space.Workgroup access) t ≡ may_be_of space.Workgroup access t
sound-workgroup access t = b.of_workgroup (is_plain t) (is_concrete t) (is_sized t)

pub sound-private : (access : Option AccessMode) (t : Ty) → sound (asked_by space.Private access) t ≡ may_be_of space.Private access t
sound-private access t = b.of_private (is_plain t) (is_concrete t) (has_atomic t) (is_sized t) (is_constructible t) (constructible-is t)

pub sound-function : (access : Option AccessMode) (t : Ty) → sound (asked_by space.Function access) t ≡ may_be_of space.Function access t
sound-function access t = b.of_private (is_plain t) (is_concrete t) (has_atomic t) (is_sized t) (is_constructible t) (constructible-is t)

pub sound-declaration : (name : List ℕ) (fs : Fields) → sound asked_of_declarations (struct name fs) ≡ is_storable (struct name fs)
sound-declaration name fs = b.of_declaration (is_plain (struct name fs)) (are_concrete fs)

settled-declaration : (t : Ty) → is_storable_structure t ≡ true → settled asked_of_declarations t ≡ true
settled-declaration (array t n) h = settled-declaration t h
settled-declaration (struct name fs) h = sound-declaration name fs ∙ h
settled-declaration t h = refl

pub settled-declarations : (fs : Fields) → have_storable_structures fs ≡ true → all_settled asked_of_declarations fs ≡ true
settled-declarations no_fields h = refl
settled-declarations (field name t s a fs) h =
    let both = and_parts (is_storable_structure t) (have_storable_structures fs) h in
    and_from (settled asked_of_declarations t) (all_settled asked_of_declarations fs) (settled-declaration t both.0) (settled-declarations fs both.1)

-- what is told is none where there are none
pub none-told : (items : List ShareFault) (all : List Fault) (b : Bool) → faults_view items ≡ first_100 all → is_nil all ≡ b → (items ≡ [] → IsTrue b) × (IsTrue b → items ≡ [])
none-told [] [] b h e = (λ _. sym e, λ _. refl)
none-told [] (f ∷ fs) b h e = absurd (cc)
none-told (i ∷ items) [] b h e = absurd (cc)
none-told (i ∷ items) (f ∷ fs) b h e = (λ (n : (i ∷ items) ≡ []). absurd (cc), λ t. absurd (true≢false (sym t ∙ sym e)))

pub nil-declaration : (name : List ℕ) (fs : Fields) → have_storable_structures fs ≡ true → is_nil (declaration_faults (struct name fs)) ≡ is_storable (struct name fs)
nil-declaration name fs h = struct-sound asked_of_declarations [] name fs (nil-members asked_of_declarations [] fs (λ _. settled-declarations fs h)) ∙ sound-declaration name fs
