-- A type has no faults where its variable may be of it.
use Rattle.std.proofs.Common.{◌≡◌, ◌∙◌, ℕ, List, [], ◌∷◌, ◌++◌, Bool, true, false, not, Option, Some, None, is_none, refl, sym, ap, arith}
use Rattle.std.specs.Prelude.{◌&&◌, ◌||◌, if◌then◌else◌}
use Rattle.std.proofs.lemmas.Bool.{and_parts, true≢false}
use Rattle.wgsl_rules.specs.Types.{Ty, bool, abstract_int, abstract_float, i32, u32, f32, f16, i64, u64, f64, struct, array, vec, mat, atomic, ptr, ref, texture, sampler, Fields, no_fields, field}
use Rattle.wgsl_rules.specs.Layout.{have_none}
use Rattle.wgsl_interface.specs.Plain.{is_scalar, is_number, is_runtime_sized, is_count, is_vector, is_matrix, is_atomic_content, is_sized, are_sized, may_stand_before, is_plain, are_plain, is_concrete, are_concrete}
use Rattle.wgsl_interface.specs.Shared.{has_atomic, have_atomic}
use Rattle.wgsl_interface.specs.Faults.{Fault, told, unless, scalar_rule, component_rule, element_rule, member_rule, struct_rule, is_last_runtime_sized, ends_in_runtime_array, faults, member_faults, element_path, member_path}
use Rattle.wgsl_interface.specs.declared.faults.Asked.{Asked}
use Rattle.wgsl_interface.specs.declared.rule.ShareRule.{ShareRule}
use Rattle.wgsl_interface.specs.declared.rule.ShareRule.TheVariants as rules
use Rattle.wgsl_interface.proofs.Booleans.{element_fixed, element_runtime, components_fixed, atomic_fixed, member_fixed, bool_fixed, number_fixed, interleaved, and_assoc, or_and, or_not, or_nothing, or_true}

abbrev pub is_nil : List Fault → Bool
is_nil [] = true
is_nil (f ∷ fs) = false

nil-append : (fs gs : List Fault) → is_nil (fs ++ gs) ≡ (is_nil fs && is_nil gs)
nil-append [] gs = refl
nil-append (f ∷ fs) gs = refl

nil-told : (r : Option ShareRule) (path : List ℕ) → is_nil (told r path) ≡ is_none r
nil-told None path = refl
nil-told (Some r) path = refl

pub none-unless : (b : Bool) (r : ShareRule) → is_none (unless b r) ≡ b
none-unless true r = refl
none-unless false r = refl

-- a bool is inside
abbrev mutual
  pub has_bool : Ty → Bool
  has_bool bool = true
  has_bool (vec n t) = has_bool t
  has_bool (mat c r t) = has_bool t
  has_bool (array t n) = has_bool t
  has_bool (struct name fs) = have_bool fs
  has_bool t = false

  pub have_bool : Fields → Bool
  have_bool no_fields = false
  have_bool (field name t s a fs) = has_bool t || have_bool fs

-- a type that breaks nothing
abbrev pub sound : Asked → Ty → Bool
sound asked t = is_plain t && (is_concrete t && ((is_none asked.of_bools || not (has_bool t)) && ((is_none asked.of_atomics || not (has_atomic t)) && (is_none asked.of_runtime_arrays || is_sized t))))

abbrev pub sounds : Asked → Fields → Bool
sounds asked fs = are_plain fs && (are_concrete fs && ((is_none asked.of_bools || not (have_bool fs)) && ((is_none asked.of_atomics || not (have_atomic fs)) && (is_none asked.of_runtime_arrays || are_sized fs))))

-- the structures in it, but not in other structures, are sound
abbrev mutual
  pub settled : Asked → Ty → Bool
  settled asked (array t n) = settled asked t
  settled asked (struct name fs) = sound asked (struct name fs)
  settled asked t = true

abbrev pub all_settled : Asked → Fields → Bool
all_settled asked no_fields = true
all_settled asked (field name t s a fs) = settled asked t && all_settled asked fs

-- ---- what a runtime-sized array is in

runtime-not-sized : (t : Ty) → is_runtime_sized t ≡ true → is_sized t ≡ false
runtime-not-sized (array t None) h = refl
runtime-not-sized t h = absurd (cc)

last-sized : (fs : Fields) → have_none fs ≡ false → are_plain fs ≡ true → are_sized fs ≡ not (is_last_runtime_sized fs)
last-sized no_fields h k = absurd (cc)
last-sized (field name t s a no_fields) h k = let e = runtime-not-sized t in grind (arith, e)
last-sized (field name t s a (field name' t' s' a' fs)) h k =
    let rest : are_plain (field name' t' s' a' fs) ≡ true = grind arith in
    let own : is_sized t ≡ true = grind arith in
    rw own (last-sized (field name' t' s' a' fs) refl rest)

sized-plain : (t : Ty) → is_plain t ≡ true → is_sized t ≡ not (is_runtime_sized t || ends_in_runtime_array t)
sized-plain (array t None) h = refl
sized-plain (array t (Some n)) h = grind arith
sized-plain (struct name fs) h =
    let some : have_none fs ≡ false = grind arith in
    let all : are_plain fs ≡ true = grind arith in
    last-sized fs some all
sized-plain t h = refl

-- ---- the rules of one part

scalar-none : (asked : Asked) (t : Ty) → is_scalar t ≡ true → is_none (scalar_rule asked t) ≡ (is_concrete t && (is_none asked.of_bools || not (has_bool t)))
scalar-none asked bool h = grind arith
scalar-none asked abstract_int h = refl
scalar-none asked abstract_float h = refl
scalar-none asked i32 h = sym (or_true (is_none asked.of_bools))
scalar-none asked u32 h = sym (or_true (is_none asked.of_bools))
scalar-none asked f32 h = sym (or_true (is_none asked.of_bools))
scalar-none asked f16 h = sym (or_true (is_none asked.of_bools))
scalar-none asked i64 h = sym (or_true (is_none asked.of_bools))
scalar-none asked u64 h = sym (or_true (is_none asked.of_bools))
scalar-none asked f64 h = sym (or_true (is_none asked.of_bools))
scalar-none asked t h = absurd (cc)

component-none : (asked : Asked) (v : Bool) (t : Ty) → (v ≡ true → is_scalar t ≡ true) → is_none (component_rule asked v t) ≡ (v && (is_concrete t && (is_none asked.of_bools || not (has_bool t))))
component-none asked true t h = scalar-none asked t (h refl)
component-none asked false t h = refl

pub vector-scalar : (n : ℕ) (t : Ty) → is_vector n t ≡ true → is_scalar t ≡ true
vector-scalar n t h = grind arith

number-scalar : (t : Ty) → is_number t ≡ true → is_scalar t ≡ true
number-scalar bool h = refl
number-scalar t h = h

pub matrix-scalar : (c r : ℕ) (t : Ty) → is_matrix c r t ≡ true → is_scalar t ≡ true
matrix-scalar c r t h = number-scalar t (grind arith)

pub content-concrete : (t : Ty) → is_atomic_content t ≡ true → is_concrete t ≡ true
content-concrete i32 h = refl
content-concrete u32 h = refl
content-concrete t h = absurd (cc)

member-none : (last : Bool) (t : Ty) → is_plain t ≡ true → is_none (member_rule last t) ≡ (is_sized t || (last && is_runtime_sized t))
member-none last t h = at (is_runtime_sized t) refl where
  at : (b : Bool) → b ≡ is_runtime_sized t → is_none (member_rule last t) ≡ (is_sized t || (last && is_runtime_sized t))
  at true e = let k = runtime-not-sized t (sym e) in rw (← e, k) (none-unless last rules.RuntimeNotLast ∙ grind arith)
  at false e =
      let k : is_sized t ≡ not (ends_in_runtime_array t) = sized-plain t h ∙ ap (λ (b : Bool). not (b || ends_in_runtime_array t)) (sym e) in
      rw (← e) (none-unless (not (ends_in_runtime_array t)) rules.RuntimeInStruct ∙ sym k ∙ or_nothing (is_sized t) last)

both-nil : (r : Option ShareRule) (path : List ℕ) (fs : List Fault) (x : Bool) → is_nil fs ≡ x → is_nil (told r path ++ fs) ≡ (is_none r && x)
both-nil r path fs x h = nil-append (told r path) fs ∙ ap (λ (b : Bool). b && is_nil fs) (nil-told r path) ∙ ap (λ (b : Bool). is_none r && b) h

-- a structure whose members break nothing
pub struct-sound : (asked : Asked) (path : List ℕ) (name : List ℕ) (fs : Fields) → is_nil (member_faults asked path fs) ≡ sounds asked fs → is_nil (told (struct_rule fs) path ++ member_faults asked path fs) ≡ sound asked (struct name fs)
struct-sound asked path name fs h =
    both-nil (struct_rule fs) path (member_faults asked path fs) (sounds asked fs) h
    ∙ ap (λ (b : Bool). b && sounds asked fs) (none-unless (not (have_none fs)) rules.Shape)
    ∙ and_assoc (not (have_none fs)) (are_plain fs) (are_concrete fs && ((is_none asked.of_bools || not (have_bool fs)) && ((is_none asked.of_atomics || not (have_atomic fs)) && (is_none asked.of_runtime_arrays || are_sized fs))))

by_structures : (asked : Asked) (path : List ℕ) (name : List ℕ) (fs : Fields) (b : Bool) → b ≡ asked.of_structures → (asked.of_structures ≡ false → sound asked (struct name fs) ≡ true)
    → (asked.of_structures ≡ true → is_nil (member_faults asked path fs) ≡ sounds asked fs)
    → is_nil (if b then told (struct_rule fs) path ++ member_faults asked path fs else []) ≡ sound asked (struct name fs)
by_structures asked path name fs true e h k = struct-sound asked path name fs (k (sym e))
by_structures asked path name fs false e h k = sym (h (sym e))

sounds-first : (asked : Asked) (name : List ℕ) (t : Ty) (s a : Option ℕ) (fs : Fields) → ((is_none (member_rule (have_none fs) t) && sound asked t) && sounds asked fs) ≡ sounds asked (field name t s a fs)
sounds-first asked name t s a fs =
    let b = is_none asked.of_bools in let c = is_none asked.of_atomics in let z = is_none asked.of_runtime_arrays in
    member_fixed (is_none (member_rule (have_none fs) t)) (may_stand_before fs t) (is_plain t)
    (is_concrete t && ((b || not (has_bool t)) && ((c || not (has_atomic t)) && (z || is_sized t))))
    (are_plain fs)
    (are_concrete fs && ((b || not (have_bool fs)) && ((c || not (have_atomic fs)) && (z || are_sized fs))))
    (member-none (have_none fs) t)
    ∙ ap (λ (r : Bool). ((may_stand_before fs t && is_plain t) && are_plain fs) && r)
    (interleaved (is_concrete t) (b || not (has_bool t)) (c || not (has_atomic t)) (z || is_sized t) (are_concrete fs) (b || not (have_bool fs)) (c || not (have_atomic fs)) (z || are_sized fs)
    ∙ rw (or_not b (has_bool t) (have_bool fs), or_not c (has_atomic t) (have_atomic fs), or_and z (is_sized t) (are_sized fs)) refl)

-- ---- all of them

mutual
  pub nil-faults : (asked : Asked) (path : List ℕ) (t : Ty) → (asked.of_structures ≡ false → settled asked t ≡ true) → is_nil (faults asked path t) ≡ sound asked t
  nil-faults asked path (vec n t) h =
      nil-told (component_rule asked (is_vector n t) t) path ∙ component-none asked (is_vector n t) t (vector-scalar n t)
      ∙ components_fixed (is_vector n t) (is_concrete t) (is_none asked.of_bools || not (has_bool t)) (is_none asked.of_atomics) (is_none asked.of_runtime_arrays)
  nil-faults asked path (mat c r t) h =
      nil-told (component_rule asked (is_matrix c r t) t) path ∙ component-none asked (is_matrix c r t) t (matrix-scalar c r t)
      ∙ components_fixed (is_matrix c r t) (is_concrete t) (is_none asked.of_bools || not (has_bool t)) (is_none asked.of_atomics) (is_none asked.of_runtime_arrays)
  nil-faults asked path (atomic t) h =
      both-nil (unless (is_atomic_content t) rules.AtomicContent) path (told asked.of_atomics path) (is_none asked.of_atomics) (nil-told asked.of_atomics path)
      ∙ ap (λ (b : Bool). b && is_none asked.of_atomics) (none-unless (is_atomic_content t) rules.AtomicContent)
      ∙ atomic_fixed (is_atomic_content t) (is_none asked.of_atomics) (is_concrete t) (is_none asked.of_bools) (is_none asked.of_runtime_arrays) (content-concrete t)
  nil-faults asked path (array t None) h =
      let e = not (is_runtime_sized t || ends_in_runtime_array t) in
      let inner = both-nil (element_rule t) (element_path path) (faults asked (element_path path) t) (sound asked t) (nil-faults asked (element_path path) t h)
      ∙ ap (λ (b : Bool). b && sound asked t) (none-unless e rules.RuntimeInArray) in
      both-nil asked.of_runtime_arrays path (told (element_rule t) (element_path path) ++ faults asked (element_path path) t) (e && sound asked t) inner
      ∙ element_runtime e (is_sized t) (is_plain t) (is_concrete t) (is_none asked.of_bools || not (has_bool t)) (is_none asked.of_atomics || not (has_atomic t)) (is_none asked.of_runtime_arrays) (sized-plain t)
  nil-faults asked path (array t (Some n)) h =
      let e = not (is_runtime_sized t || ends_in_runtime_array t) in
      let k = is_count (Some n) in
      let inner = both-nil (element_rule t) (element_path path) (faults asked (element_path path) t) (sound asked t) (nil-faults asked (element_path path) t h)
      ∙ ap (λ (b : Bool). b && sound asked t) (none-unless e rules.RuntimeInArray) in
      both-nil (unless k rules.Shape) path (told (element_rule t) (element_path path) ++ faults asked (element_path path) t) (e && sound asked t) inner
      ∙ ap (λ (b : Bool). b && (e && sound asked t)) (none-unless k rules.Shape)
      ∙ element_fixed k e (is_sized t) (is_plain t) (is_concrete t) (is_none asked.of_bools || not (has_bool t)) (is_none asked.of_atomics || not (has_atomic t)) (is_none asked.of_runtime_arrays) (sized-plain t)
  nil-faults asked path (struct name fs) h =
      by_structures asked path name fs asked.of_structures refl h (λ e. nil-members asked path fs (λ f. absurd (true≢false (sym e ∙ f))))
  nil-faults asked path (ptr s t a) h = refl
  nil-faults asked path (ref s t a) h = refl
  nil-faults asked path (texture t) h = refl
  nil-faults asked path (sampler s) h = refl
  nil-faults asked path bool h = nil-told asked.of_bools path ∙ bool_fixed (is_none asked.of_bools) (is_none asked.of_atomics) (is_none asked.of_runtime_arrays)
  nil-faults asked path abstract_int h = refl
  nil-faults asked path abstract_float h = refl
  nil-faults asked path t h = number_fixed (is_none asked.of_bools) (is_none asked.of_atomics) (is_none asked.of_runtime_arrays)

  pub nil-members : (asked : Asked) (path : List ℕ) (fs : Fields) → (asked.of_structures ≡ false → all_settled asked fs ≡ true) → is_nil (member_faults asked path fs) ≡ sounds asked fs
  nil-members asked path no_fields h = number_fixed (is_none asked.of_bools) (is_none asked.of_atomics) (is_none asked.of_runtime_arrays)
  nil-members asked path (field name t s a fs) h =
      let at = member_path path name in
      let own = both-nil (member_rule (have_none fs) t) at (faults asked at t) (sound asked t) (nil-faults asked at t (λ e. (and_parts (settled asked t) (all_settled asked fs) (h e)).0)) in
      let rest = nil-members asked path fs (λ e. (and_parts (settled asked t) (all_settled asked fs) (h e)).1) in
      nil-append (told (member_rule (have_none fs) t) at ++ faults asked at t) (member_faults asked path fs)
      ∙ ap (λ (b : Bool). b && is_nil (member_faults asked path fs)) own
      ∙ ap (λ (b : Bool). (is_none (member_rule (have_none fs) t) && sound asked t) && b) rest
      ∙ sounds-first asked name t s a fs
