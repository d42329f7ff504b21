-- The codes of types and values: the tokens that a stack machine builds them from.
use Rattle.std.specs.Prelude.{◌≡◌, ◌⊎◌, ℕ, zero, suc, ℤ, Bool, List, [], ◌∷◌, Option, refl}
use Rattle.std.specs.Coded.{Coded, code_by, coded×, coded⊎, coded_ℕ, coded_ℤ, coded_bool, coded_list, coded_option}
use Rattle.std.proofs.Common.{◌∙◌, inl, inr}
use base.Stored.{coded_unit}
use Rattle.wgsl_rules.specs.Kinds as kinds
use Rattle.wgsl_rules.specs.Kinds.{Kind}
use Rattle.wgsl_rules.specs.Types as types
use Rattle.wgsl_rules.specs.Types.{Ty, Fields, no_fields, field}
use Rattle.wgsl_rules.specs.Values as values
use Rattle.wgsl_rules.specs.Values.{Step, Reference, Val, Vals, no_vals, val}
use Rattle.wgsl_rules.specs.declared.syntax.AddressSpace.{AddressSpace}
use Rattle.wgsl_rules.specs.declared.syntax.AccessMode.{AccessMode}
use Rattle.wgsl_rules.specs.declared.syntax.TextureType.{TextureType}
use Rattle.wgsl_rules.specs.declared.syntax.SamplerType.{SamplerType}
use Rattle.wgsl_rules.specs.contracts.syntax.AddressSpace as address_space
use Rattle.wgsl_rules.specs.contracts.syntax.AccessMode as access_mode
use Rattle.wgsl_rules.specs.contracts.syntax.TextureType as texture_type
use Rattle.wgsl_rules.specs.contracts.syntax.SamplerType as sampler_type

-- the stack after each token has acted on it in turn
abbrev pub run : {T S : Type 0} → (T → S → S) → List T → S → S
run act [] st = st
run act (t ∷ ts) st = run act ts (act t st)

-- one of four cases
abbrev pub Four : Type 0 → Type 0 → Type 0 → Type 0 → Type 0
Four A B C D = (A ⊎ B) ⊎ (C ⊎ D)

-- the code of one of four cases, from their codes
abbrev pub coded_four : {A B C D : Type 0} → Coded A → Coded B → Coded C → Coded D → Coded (Four A B C D)
coded_four a b c d = coded⊎ (coded⊎ a b) (coded⊎ c d)

-- ---- kinds of numbers

-- the number of a kind
abbrev pub number_of_kind : Kind → ℕ
number_of_kind kinds.abstract_int = 0
number_of_kind kinds.i32 = 1
number_of_kind kinds.u32 = 2
number_of_kind kinds.i64 = 3
number_of_kind kinds.u64 = 4

-- the kind of a number
abbrev pub numbered_kind : ℕ → Kind
numbered_kind zero = kinds.abstract_int
numbered_kind (suc zero) = kinds.i32
numbered_kind (suc (suc zero)) = kinds.u32
numbered_kind (suc (suc (suc zero))) = kinds.i64
numbered_kind (suc (suc (suc (suc n)))) = kinds.u64

-- the number of a kind gives back that kind
pub numbered_kind-number : (k : Kind) → numbered_kind (number_of_kind k) ≡ k
numbered_kind-number kinds.abstract_int = refl
numbered_kind-number kinds.i32 = refl
numbered_kind-number kinds.u32 = refl
numbered_kind-number kinds.i64 = refl
numbered_kind-number kinds.u64 = refl

-- a kind is stored as its number
abbrev pub kind_code : Coded Kind
kind_code = code_by ℕ coded_ℕ number_of_kind numbered_kind numbered_kind-number

-- ---- types

-- the code of an address space with an access mode
abbrev pub place_code : Coded (AddressSpace × AccessMode)
place_code = coded× (address_space.the_row).coded (access_mode.the_row).coded

-- a step in the building of a type, from what is on the stack
pub data TypeToken : Type 0 where
  -- one of the types without parts, by its number
  make_plain : ℕ → TypeToken
  make_struct : List ℕ → TypeToken
  make_array : Option ℕ → TypeToken
  make_vec : ℕ → TypeToken
  make_mat : ℕ → ℕ → TypeToken
  make_atomic : TypeToken
  make_ptr : AddressSpace → AccessMode → TypeToken
  make_ref : AddressSpace → AccessMode → TypeToken
  make_texture : TextureType → TypeToken
  make_sampler : SamplerType → TypeToken
  make_no_fields : TypeToken
  make_field : List ℕ → Option ℕ → Option ℕ → TypeToken

-- the code of a field's name, size and alignment
abbrev pub field_code : Coded (List ℕ × (Option ℕ × Option ℕ))
field_code = coded× (coded_list coded_ℕ) (coded× (coded_option coded_ℕ) (coded_option coded_ℕ))

-- what a token holds, by its case: one of three times four
abbrev pub TypeParts : Type 0
TypeParts =
    Four ℕ (List ℕ) (Option ℕ) ℕ
    ⊎ (Four (ℕ × ℕ) (Unit {0}) (AddressSpace × AccessMode) (AddressSpace × AccessMode)
    ⊎ Four TextureType SamplerType (Unit {0}) (List ℕ × (Option ℕ × Option ℕ)))

-- their code
abbrev pub type_parts_code : Coded TypeParts
type_parts_code =
    coded⊎ (coded_four coded_ℕ (coded_list coded_ℕ) (coded_option coded_ℕ) coded_ℕ)
    (coded⊎ (coded_four (coded× coded_ℕ coded_ℕ) coded_unit place_code place_code)
    (coded_four (texture_type.the_row).coded (sampler_type.the_row).coded coded_unit field_code))

-- what the token holds
abbrev pub type_parts : TypeToken → TypeParts
type_parts (make_plain n) = inl (inl (inl n))
type_parts (make_struct s) = inl (inl (inr s))
type_parts (make_array o) = inl (inr (inl o))
type_parts (make_vec n) = inl (inr (inr n))
type_parts (make_mat c r) = inr (inl (inl (inl (c, r))))
type_parts make_atomic = inr (inl (inl (inr tt)))
type_parts (make_ptr s a) = inr (inl (inr (inl (s, a))))
type_parts (make_ref s a) = inr (inl (inr (inr (s, a))))
type_parts (make_texture x) = inr (inr (inl (inl x)))
type_parts (make_sampler x) = inr (inr (inl (inr x)))
type_parts make_no_fields = inr (inr (inr (inl tt)))
type_parts (make_field m s a) = inr (inr (inr (inr (m, (s, a)))))

-- the token that holds this
abbrev pub type_token : TypeParts → TypeToken
type_token (inl (inl (inl n))) = make_plain n
type_token (inl (inl (inr s))) = make_struct s
type_token (inl (inr (inl o))) = make_array o
type_token (inl (inr (inr n))) = make_vec n
type_token (inr (inl (inl (inl p)))) = make_mat p.0 p.1
type_token (inr (inl (inl (inr u)))) = make_atomic
type_token (inr (inl (inr (inl p)))) = make_ptr p.0 p.1
type_token (inr (inl (inr (inr p)))) = make_ref p.0 p.1
type_token (inr (inr (inl (inl x)))) = make_texture x
type_token (inr (inr (inl (inr x)))) = make_sampler x
type_token (inr (inr (inr (inl u)))) = make_no_fields
type_token (inr (inr (inr (inr p)))) = make_field p.0 p.1.0 p.1.1

-- what a token holds gives back that token
pub type_token-parts : (t : TypeToken) → type_token (type_parts t) ≡ t
type_token-parts (make_plain n) = refl
type_token-parts (make_struct s) = refl
type_token-parts (make_array o) = refl
type_token-parts (make_vec n) = refl
type_token-parts (make_mat c r) = refl
type_token-parts make_atomic = refl
type_token-parts (make_ptr s a) = refl
type_token-parts (make_ref s a) = refl
type_token-parts (make_texture x) = refl
type_token-parts (make_sampler x) = refl
type_token-parts make_no_fields = refl
type_token-parts (make_field m s a) = refl

-- a token is stored as what it holds
abbrev pub type_token_code : Coded TypeToken
type_token_code = code_by TypeParts type_parts_code type_parts type_token type_token-parts

-- what is on the stack while a type is built
pub data TypeItem : Type 0 where
  on_ty : Ty → TypeItem
  on_fields : Fields → TypeItem

-- the types without parts, by number
abbrev pub plain : ℕ → Ty
plain zero = types.bool
plain (suc zero) = types.abstract_int
plain (suc (suc zero)) = types.abstract_float
plain (suc (suc (suc zero))) = types.i32
plain (suc (suc (suc (suc zero)))) = types.u32
plain (suc (suc (suc (suc (suc zero))))) = types.f32
plain (suc (suc (suc (suc (suc (suc zero)))))) = types.f16
plain (suc (suc (suc (suc (suc (suc (suc zero))))))) = types.i64
plain (suc (suc (suc (suc (suc (suc (suc (suc zero)))))))) = types.u64
plain (suc (suc (suc (suc (suc (suc (suc (suc (suc n))))))))) = types.f64

-- the function's type in place of the type on top
abbrev pub on_top_ty : (Ty → Ty) → List TypeItem → List TypeItem
on_top_ty f (on_ty t ∷ st) = on_ty (f t) ∷ st
on_top_ty f st = st

-- the function's type in place of the fields on top
abbrev pub on_top_fields : (Fields → Ty) → List TypeItem → List TypeItem
on_top_fields f (on_fields fs ∷ st) = on_ty (f fs) ∷ st
on_top_fields f st = st

-- the function's fields in place of the type on top and the fields below it
abbrev pub on_top_both : (Ty → Fields → Fields) → List TypeItem → List TypeItem
on_top_both f (on_ty t ∷ on_fields fs ∷ st) = on_fields (f t fs) ∷ st
on_top_both f st = st

-- what a token does to the stack
abbrev pub act_type : TypeToken → List TypeItem → List TypeItem
act_type (make_plain n) st = on_ty (plain n) ∷ st
act_type (make_struct s) st = on_top_fields (types.struct s) st
act_type (make_array o) st = on_top_ty (λ t. types.array t o) st
act_type (make_vec n) st = on_top_ty (types.vec n) st
act_type (make_mat c r) st = on_top_ty (types.mat c r) st
act_type make_atomic st = on_top_ty types.atomic st
act_type (make_ptr s a) st = on_top_ty (λ t. types.ptr s t a) st
act_type (make_ref s a) st = on_top_ty (λ t. types.ref s t a) st
act_type (make_texture x) st = on_ty (types.texture x) ∷ st
act_type (make_sampler x) st = on_ty (types.sampler x) ∷ st
act_type make_no_fields st = on_fields no_fields ∷ st
act_type (make_field m s a) st = on_top_both (λ t fs. field m t s a fs) st

-- the tokens that build a type or fields, and then those of r
abbrev mutual
  pub emit_ty : Ty → List TypeToken → List TypeToken
  emit_ty types.bool r = make_plain 0 ∷ r
  emit_ty types.abstract_int r = make_plain 1 ∷ r
  emit_ty types.abstract_float r = make_plain 2 ∷ r
  emit_ty types.i32 r = make_plain 3 ∷ r
  emit_ty types.u32 r = make_plain 4 ∷ r
  emit_ty types.f32 r = make_plain 5 ∷ r
  emit_ty types.f16 r = make_plain 6 ∷ r
  emit_ty types.i64 r = make_plain 7 ∷ r
  emit_ty types.u64 r = make_plain 8 ∷ r
  emit_ty types.f64 r = make_plain 9 ∷ r
  emit_ty (types.struct s fs) r = emit_fields fs (make_struct s ∷ r)
  emit_ty (types.array t o) r = emit_ty t (make_array o ∷ r)
  emit_ty (types.vec n t) r = emit_ty t (make_vec n ∷ r)
  emit_ty (types.mat c n t) r = emit_ty t (make_mat c n ∷ r)
  emit_ty (types.atomic t) r = emit_ty t (make_atomic ∷ r)
  emit_ty (types.ptr s t a) r = emit_ty t (make_ptr s a ∷ r)
  emit_ty (types.ref s t a) r = emit_ty t (make_ref s a ∷ r)
  emit_ty (types.texture x) r = make_texture x ∷ r
  emit_ty (types.sampler x) r = make_sampler x ∷ r

  pub emit_fields : Fields → List TypeToken → List TypeToken
  emit_fields no_fields r = make_no_fields ∷ r
  emit_fields (field m t s a fs) r = emit_fields fs (emit_ty t (make_field m s a ∷ r))

-- they leave the type or the fields on top
mutual
  pub run-emit_ty : (t : Ty) (r : List TypeToken) (st : List TypeItem)
      → run act_type (emit_ty t r) st ≡ run act_type r (on_ty t ∷ st)
  run-emit_ty types.bool r st = refl
  run-emit_ty types.abstract_int r st = refl
  run-emit_ty types.abstract_float r st = refl
  run-emit_ty types.i32 r st = refl
  run-emit_ty types.u32 r st = refl
  run-emit_ty types.f32 r st = refl
  run-emit_ty types.f16 r st = refl
  run-emit_ty types.i64 r st = refl
  run-emit_ty types.u64 r st = refl
  run-emit_ty types.f64 r st = refl
  run-emit_ty (types.struct s fs) r st = run-emit_fields fs (make_struct s ∷ r) st
  run-emit_ty (types.array t o) r st = run-emit_ty t (make_array o ∷ r) st
  run-emit_ty (types.vec n t) r st = run-emit_ty t (make_vec n ∷ r) st
  run-emit_ty (types.mat c n t) r st = run-emit_ty t (make_mat c n ∷ r) st
  run-emit_ty (types.atomic t) r st = run-emit_ty t (make_atomic ∷ r) st
  run-emit_ty (types.ptr s t a) r st = run-emit_ty t (make_ptr s a ∷ r) st
  run-emit_ty (types.ref s t a) r st = run-emit_ty t (make_ref s a ∷ r) st
  run-emit_ty (types.texture x) r st = refl
  run-emit_ty (types.sampler x) r st = refl

  pub run-emit_fields : (fs : Fields) (r : List TypeToken) (st : List TypeItem)
      → run act_type (emit_fields fs r) st ≡ run act_type r (on_fields fs ∷ st)
  run-emit_fields no_fields r st = refl
  run-emit_fields (field m t s a fs) r st =
      run-emit_fields fs (emit_ty t (make_field m s a ∷ r)) st ∙ run-emit_ty t (make_field m s a ∷ r) (on_fields fs ∷ st)

-- the type on top
abbrev pub top_ty : List TypeItem → Ty
top_ty (on_ty t ∷ st) = t
top_ty st = types.bool

-- the tokens of a type build that type
pub top_ty-run : (t : Ty) → top_ty (run act_type (emit_ty t []) []) ≡ t
top_ty-run t = λ i. top_ty (run-emit_ty t [] [] i)

-- a type is stored as the tokens that build it
abbrev pub ty_code : Coded Ty
ty_code =
    code_by (List TypeToken) (coded_list type_token_code) (λ t. emit_ty t []) (λ ts. top_ty (run act_type ts [])) top_ty-run

-- ---- references

-- the name or the index of a step
abbrev pub step_parts : Step → List ℕ ⊎ ℕ
step_parts (values.member m) = inl m
step_parts (values.index i) = inr i

-- the step of a name or an index
abbrev pub step_of : List ℕ ⊎ ℕ → Step
step_of (inl m) = values.member m
step_of (inr i) = values.index i

-- the name or the index of a step gives back that step
pub step_of-parts : (s : Step) → step_of (step_parts s) ≡ s
step_of-parts (values.member m) = refl
step_of-parts (values.index i) = refl

-- a step is stored as its name or its index
abbrev pub step_code : Coded Step
step_code = code_by (List ℕ ⊎ ℕ) (coded⊎ (coded_list coded_ℕ) coded_ℕ) step_parts step_of step_of-parts

-- the fields of a reference, as a tuple
abbrev pub ReferenceParts : Type 0
ReferenceParts = ℕ × (List Step × (Ty × (AddressSpace × AccessMode)))

-- their code
abbrev pub reference_parts_code : Coded ReferenceParts
reference_parts_code = coded× coded_ℕ (coded× (coded_list step_code) (coded× ty_code place_code))

-- the fields of this reference
abbrev pub reference_parts : Reference → ReferenceParts
reference_parts r = (r.cell, (r.view, (r.ty, (r.space, r.access))))

-- the reference with these fields
abbrev pub reference_of : ReferenceParts → Reference
reference_of p = record { cell = p.0; view = p.1.0; ty = p.1.1.0; space = p.1.1.1.0; access = p.1.1.1.1 }

-- a reference is stored as the tuple of its fields
abbrev pub reference_code : Coded Reference
reference_code = code_by ReferenceParts reference_parts_code reference_parts reference_of (λ _. refl)

-- ---- values

-- a step in the building of a value, from what is on the stack
pub data ValToken : Type 0 where
  make_truth : Bool → ValToken
  make_number : Kind → ℤ → ValToken
  make_record : Ty → ValToken
  make_array_of : Bool → ValToken
  make_vector : ValToken
  make_matrix : ValToken
  make_atomic_of : ValToken
  make_pointer : Reference → ValToken
  make_reference : Reference → ValToken
  make_deferred : Ty → ValToken
  make_no_vals : ValToken
  make_val : ValToken

-- what a token holds, by its case: one of three times four
abbrev pub ValParts : Type 0
ValParts =
    Four Bool (Kind × ℤ) Ty Bool
    ⊎ (Four (Unit {0}) (Unit {0}) (Unit {0}) Reference
    ⊎ Four Reference Ty (Unit {0}) (Unit {0}))

-- their code
abbrev pub val_parts_code : Coded ValParts
val_parts_code =
    coded⊎ (coded_four coded_bool (coded× kind_code coded_ℤ) ty_code coded_bool)
    (coded⊎ (coded_four coded_unit coded_unit coded_unit reference_code)
    (coded_four reference_code ty_code coded_unit coded_unit))

-- what the token holds
abbrev pub val_parts : ValToken → ValParts
val_parts (make_truth b) = inl (inl (inl b))
val_parts (make_number k z) = inl (inl (inr (k, z)))
val_parts (make_record t) = inl (inr (inl t))
val_parts (make_array_of b) = inl (inr (inr b))
val_parts make_vector = inr (inl (inl (inl tt)))
val_parts make_matrix = inr (inl (inl (inr tt)))
val_parts make_atomic_of = inr (inl (inr (inl tt)))
val_parts (make_pointer p) = inr (inl (inr (inr p)))
val_parts (make_reference p) = inr (inr (inl (inl p)))
val_parts (make_deferred t) = inr (inr (inl (inr t)))
val_parts make_no_vals = inr (inr (inr (inl tt)))
val_parts make_val = inr (inr (inr (inr tt)))

-- the token that holds this
abbrev pub val_token : ValParts → ValToken
val_token (inl (inl (inl b))) = make_truth b
val_token (inl (inl (inr p))) = make_number p.0 p.1
val_token (inl (inr (inl t))) = make_record t
val_token (inl (inr (inr b))) = make_array_of b
val_token (inr (inl (inl (inl u)))) = make_vector
val_token (inr (inl (inl (inr u)))) = make_matrix
val_token (inr (inl (inr (inl u)))) = make_atomic_of
val_token (inr (inl (inr (inr p)))) = make_pointer p
val_token (inr (inr (inl (inl p)))) = make_reference p
val_token (inr (inr (inl (inr t)))) = make_deferred t
val_token (inr (inr (inr (inl u)))) = make_no_vals
val_token (inr (inr (inr (inr u)))) = make_val

-- what a token holds gives back that token
pub val_token-parts : (t : ValToken) → val_token (val_parts t) ≡ t
val_token-parts (make_truth b) = refl
val_token-parts (make_number k z) = refl
val_token-parts (make_record t) = refl
val_token-parts (make_array_of b) = refl
val_token-parts make_vector = refl
val_token-parts make_matrix = refl
val_token-parts make_atomic_of = refl
val_token-parts (make_pointer p) = refl
val_token-parts (make_reference p) = refl
val_token-parts (make_deferred t) = refl
val_token-parts make_no_vals = refl
val_token-parts make_val = refl

-- a token is stored as what it holds
abbrev pub val_token_code : Coded ValToken
val_token_code = code_by ValParts val_parts_code val_parts val_token val_token-parts

-- what is on the stack while a value is built
pub data ValItem : Type 0 where
  on_val : Val → ValItem
  on_vals : Vals → ValItem

-- the function's value in place of the value on top
abbrev pub on_top_val : (Val → Val) → List ValItem → List ValItem
on_top_val f (on_val v ∷ st) = on_val (f v) ∷ st
on_top_val f st = st

-- the function's value in place of the values on top
abbrev pub on_top_vals : (Vals → Val) → List ValItem → List ValItem
on_top_vals f (on_vals vs ∷ st) = on_val (f vs) ∷ st
on_top_vals f st = st

-- the value on top put before the values below it
abbrev pub more_vals : List ValItem → List ValItem
more_vals (on_val v ∷ on_vals vs ∷ st) = on_vals (val v vs) ∷ st
more_vals st = st

-- what a token does to the stack
abbrev pub act_val : ValToken → List ValItem → List ValItem
act_val (make_truth b) st = on_val (values.truth b) ∷ st
act_val (make_number k z) st = on_val (values.number k z) ∷ st
act_val (make_record t) st = on_top_vals (values.record_of t) st
act_val (make_array_of b) st = on_top_vals (values.array_of b) st
act_val make_vector st = on_top_vals values.vector st
act_val make_matrix st = on_top_vals values.matrix st
act_val make_atomic_of st = on_top_val values.atomic_of st
act_val (make_pointer p) st = on_val (values.pointer p) ∷ st
act_val (make_reference p) st = on_val (values.reference p) ∷ st
act_val (make_deferred t) st = on_val (values.deferred t) ∷ st
act_val make_no_vals st = on_vals no_vals ∷ st
act_val make_val st = more_vals st

-- the tokens that build a value or values, and then those of r
abbrev mutual
  pub emit_val : Val → List ValToken → List ValToken
  emit_val (values.truth b) r = make_truth b ∷ r
  emit_val (values.number k z) r = make_number k z ∷ r
  emit_val (values.record_of t vs) r = emit_vals vs (make_record t ∷ r)
  emit_val (values.array_of b vs) r = emit_vals vs (make_array_of b ∷ r)
  emit_val (values.vector vs) r = emit_vals vs (make_vector ∷ r)
  emit_val (values.matrix vs) r = emit_vals vs (make_matrix ∷ r)
  emit_val (values.atomic_of v) r = emit_val v (make_atomic_of ∷ r)
  emit_val (values.pointer p) r = make_pointer p ∷ r
  emit_val (values.reference p) r = make_reference p ∷ r
  emit_val (values.deferred t) r = make_deferred t ∷ r

  pub emit_vals : Vals → List ValToken → List ValToken
  emit_vals no_vals r = make_no_vals ∷ r
  emit_vals (val v vs) r = emit_vals vs (emit_val v (make_val ∷ r))

-- they leave the value or the values on top
mutual
  pub run-emit_val : (v : Val) (r : List ValToken) (st : List ValItem)
      → run act_val (emit_val v r) st ≡ run act_val r (on_val v ∷ st)
  run-emit_val (values.truth b) r st = refl
  run-emit_val (values.number k z) r st = refl
  run-emit_val (values.record_of t vs) r st = run-emit_vals vs (make_record t ∷ r) st
  run-emit_val (values.array_of b vs) r st = run-emit_vals vs (make_array_of b ∷ r) st
  run-emit_val (values.vector vs) r st = run-emit_vals vs (make_vector ∷ r) st
  run-emit_val (values.matrix vs) r st = run-emit_vals vs (make_matrix ∷ r) st
  run-emit_val (values.atomic_of v) r st = run-emit_val v (make_atomic_of ∷ r) st
  run-emit_val (values.pointer p) r st = refl
  run-emit_val (values.reference p) r st = refl
  run-emit_val (values.deferred t) r st = refl

  pub run-emit_vals : (vs : Vals) (r : List ValToken) (st : List ValItem)
      → run act_val (emit_vals vs r) st ≡ run act_val r (on_vals vs ∷ st)
  run-emit_vals no_vals r st = refl
  run-emit_vals (val v vs) r st =
      run-emit_vals vs (emit_val v (make_val ∷ r)) st ∙ run-emit_val v (make_val ∷ r) (on_vals vs ∷ st)

-- the value on top
abbrev pub top_val : List ValItem → Val
top_val (on_val v ∷ st) = v
top_val st = values.deferred types.bool

-- the tokens of a value build that value
pub top_val-run : (v : Val) → top_val (run act_val (emit_val v []) []) ≡ v
top_val-run v = λ i. top_val (run-emit_val v [] [] i)

-- a value is stored as the tokens that build it
abbrev pub val_code : Coded Val
val_code =
    code_by (List ValToken) (coded_list val_token_code) (λ v. emit_val v []) (λ ts. top_val (run act_val ts [])) top_val-run
