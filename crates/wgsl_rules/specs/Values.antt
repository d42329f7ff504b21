-- The values of WGSL, as contracts see them: literals, composites, atomics, pointers and references.
-- A type seen as a value is the deferred value of that type.
use Rattle.std.specs.Prelude.{ℕ, zero, suc, ℤ, Bool, true, false, ◌≡◌, ◌<◌, ◌≤◌, List, Option, Some, None}
use Rattle.wgsl_rules.specs.Kinds as kinds
use Rattle.wgsl_rules.specs.Kinds.{Kind, InKind}
use Rattle.wgsl_rules.specs.Types as types
use Rattle.wgsl_rules.specs.Types.{Ty, Fields, no_fields, field}
use Rattle.wgsl_rules.specs.declared.syntax.AddressSpace.{AddressSpace}
use Rattle.wgsl_rules.specs.declared.syntax.AccessMode.{AccessMode}

-- one step of a view into a value: to the member of a name, or to the part of an index
pub data Step : Type 0 where
  member : List ℕ → Step
  index : ℕ → Step

-- a reference or a pointer: a part of a cell, and what may be done with it (WGSL: memory views)
pub record Reference : Type 0 where
  pub cell : ℕ
  pub view : List Step
  pub ty : Ty
  pub space : AddressSpace
  pub access : AccessMode

mutual
  pub data Val : Type 0 where
    truth : Bool → Val
    number : Kind → ℤ → Val
    -- of a struct type, its members in order
    record_of : Ty → Vals → Val
    -- whether it is runtime-sized, its elements
    array_of : Bool → Vals → Val
    vector : Vals → Val
    -- its columns
    matrix : Vals → Val
    atomic_of : Val → Val
    pointer : Reference → Val
    reference : Reference → Val
    deferred : Ty → Val

  pub data Vals : Type 0 where
    no_vals : Vals
    val : Val → Vals → Vals

abbrev pub count : Vals → ℕ
count no_vals = 0
count (val v vs) = suc (count vs)

abbrev pub item : ℕ → Vals → Option Val
item i no_vals = None
item zero (val v vs) = Some v
item (suc i) (val v vs) = item i vs

-- ---- the type of a value

abbrev pub type_of_kind : Kind → Ty
type_of_kind kinds.abstract_int = types.abstract_int
type_of_kind kinds.i32 = types.i32
type_of_kind kinds.u32 = types.u32
type_of_kind kinds.i64 = types.i64
type_of_kind kinds.u64 = types.u64

-- a matrix of so many columns of this type
abbrev pub matrix_type : ℕ → Ty → Ty
matrix_type columns (types.vec rows t) = types.mat columns rows t
matrix_type columns t = types.mat columns 0 t

abbrev pub array_type : Bool → Ty → ℕ → Ty
array_type true t n = types.array t None
array_type false t n = types.array t (Some n)

abbrev mutual
  pub type_of : Val → Ty
  type_of (truth b) = types.bool
  type_of (number k z) = type_of_kind k
  type_of (record_of t vs) = t
  type_of (array_of runtime vs) = array_type runtime (first_type vs) (count vs)
  type_of (vector vs) = types.vec (count vs) (first_type vs)
  type_of (matrix vs) = matrix_type (count vs) (first_type vs)
  type_of (atomic_of v) = types.atomic (type_of v)
  type_of (pointer r) = types.ptr r.space r.ty r.access
  type_of (reference r) = types.ref r.space r.ty r.access
  type_of (deferred t) = t

  -- the type of the first of the values, which is that of each
  pub first_type : Vals → Ty
  first_type no_vals = types.bool
  first_type (val v vs) = type_of v

-- ---- values that can be stored

-- each value is of the type
abbrev pub AllOfType : Ty → Vals → Type 0
AllOfType t no_vals = Unit {0}
AllOfType t (val v vs) = (type_of v ≡ t) × AllOfType t vs

-- as many values as members, each of its member's type
abbrev pub HaveTypes : Fields → Vals → Type 0
HaveTypes no_fields no_vals = Unit {0}
HaveTypes (field n t s a fs) (val v vs) = (type_of v ≡ t) × HaveTypes fs vs
HaveTypes fs vs = ⊥

abbrev pub AreMembers : Ty → Vals → Type 0
AreMembers (types.struct n fs) vs = HaveTypes fs vs
AreMembers t vs = ⊥

abbrev pub IsLiteral : Val → Type 0
IsLiteral (truth b) = Unit {0}
IsLiteral (number k z) = Unit {0}
IsLiteral v = ⊥

abbrev pub AreLiterals : Vals → Type 0
AreLiterals no_vals = Unit {0}
AreLiterals (val v vs) = IsLiteral v × AreLiterals vs

abbrev pub IsVector : Val → Type 0
IsVector (vector vs) = Unit {0}
IsVector v = ⊥

abbrev pub AreVectors : Vals → Type 0
AreVectors no_vals = Unit {0}
AreVectors (val v vs) = IsVector v × AreVectors vs

-- an atomic holds an i32 or a u32
abbrev pub IsAtomicContent : Val → Type 0
IsAtomicContent (number kinds.i32 z) = Unit {0}
IsAtomicContent (number kinds.u32 z) = Unit {0}
IsAtomicContent v = ⊥

-- well-formed in each part, and no part is deferred: what a cell may hold
abbrev mutual
  pub IsStorable : Val → Type 0
  IsStorable (truth b) = Unit {0}
  IsStorable (number k z) = InKind k z
  IsStorable (record_of t vs) = AreMembers t vs × AreStorable vs
  IsStorable (array_of runtime vs) = (0 < count vs) × AllOfType (first_type vs) vs × AreStorable vs
  IsStorable (vector vs) = (2 ≤ count vs) × (count vs ≤ 4) × AreLiterals vs × AllOfType (first_type vs) vs × AreStorable vs
  IsStorable (matrix vs) = (2 ≤ count vs) × (count vs ≤ 4) × AreVectors vs × AllOfType (first_type vs) vs × AreStorable vs
  IsStorable (atomic_of v) = IsAtomicContent v × IsStorable v
  IsStorable (pointer r) = Unit {0}
  IsStorable (reference r) = Unit {0}
  IsStorable (deferred t) = ⊥

  pub AreStorable : Vals → Type 0
  AreStorable no_vals = Unit {0}
  AreStorable (val v vs) = IsStorable v × AreStorable vs

-- a deferred value is well-formed by itself
abbrev pub IsWellFormed : Val → Type 0
IsWellFormed (deferred t) = Unit {0}
IsWellFormed v = IsStorable v
