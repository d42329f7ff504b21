-- What each case of a type stands for, and what a type is that is none of a case.
use Rattle.std.proofs.Common.{◌≡◌, ℕ, List, Option, refl, rules, string_bytes, Box, Global, ap}
use Rattle.wgsl_rules.specs.Types.{Ty, bool, abstract_int, abstract_float, i32, u32, f32, f16, i64, u64, f64, struct, array, vec, mat, atomic, ptr, ref, texture, sampler, Fields}
use Rattle.wgsl_rules.specs.View.{type_view, struct_view, member_view, members_view, Field}
use Rattle.wgsl_rules.specs.declared.syntax.AddressSpace.{AddressSpace}
use Rattle.wgsl_rules.specs.declared.syntax.AccessMode.{AccessMode}
use Rattle.wgsl_rules.specs.declared.syntax.TextureType.{TextureType}
use Rattle.wgsl_rules.specs.declared.syntax.SamplerType.{SamplerType}
use Rattle.wgsl_rules.specs.declared.ty.StructMemberType.{StructMemberType, out-StructMemberType}
use Rattle.wgsl_rules.specs.declared.ty.StructType.{StructType, out-StructType}
use Rattle.wgsl_rules.specs.declared.ty.Type.{«Type» as RType, Struct', Array', Vec', Mat', Atomic', Ptr', Ref', the_lemmas}
use Rattle.wgsl_rules.specs.declared.ty.Type.TheVariants as ty

pub view-Bool : type_view ty.Bool ≡ bool
view-Bool = search (rules, the_lemmas)

pub view-AbstractInt : type_view ty.AbstractInt ≡ abstract_int
view-AbstractInt = search (rules, the_lemmas)

pub view-AbstractFloat : type_view ty.AbstractFloat ≡ abstract_float
view-AbstractFloat = search (rules, the_lemmas)

pub view-I32 : type_view ty.I32 ≡ i32
view-I32 = search (rules, the_lemmas)

pub view-U32 : type_view ty.U32 ≡ u32
view-U32 = search (rules, the_lemmas)

pub view-F32 : type_view ty.F32 ≡ f32
view-F32 = search (rules, the_lemmas)

pub view-F16 : type_view ty.F16 ≡ f16
view-F16 = search (rules, the_lemmas)

pub view-I64 : type_view ty.I64 ≡ i64
view-I64 = search (rules, the_lemmas)

pub view-U64 : type_view ty.U64 ≡ u64
view-U64 = search (rules, the_lemmas)

pub view-F64 : type_view ty.F64 ≡ f64
view-F64 = search (rules, the_lemmas)

pub view-Struct : (s : Box StructType Global) → type_view (ty.Struct s) ≡ struct_view s.value
view-Struct s = search (rules, the_lemmas)

pub struct_view-is : (s : StructType) → struct_view s ≡ struct (string_bytes (out-StructType s).name) (members_view (out-StructType s).members.items)
struct_view-is s = search (rules, the_lemmas)

pub member_view-is : (m : StructMemberType) → member_view m ≡ record { name = string_bytes (out-StructMemberType m).name; ty = type_view (out-StructMemberType m).ty; size = (out-StructMemberType m).size; align = (out-StructMemberType m).align }
member_view-is m = search (rules, the_lemmas)

pub member-type : (m : StructMemberType) → (member_view m).ty ≡ type_view m.ty
member-type m = ap (λ (f : Field). f.ty) (member_view-is m)

pub view-Array : (t : Box RType Global) (n : Option ℕ) → type_view (ty.Array t n) ≡ array (type_view t.value) n
view-Array t n = search (rules, the_lemmas)

pub view-Vec : (n : ℕ) (t : Box RType Global) → type_view (ty.Vec n t) ≡ vec n (type_view t.value)
view-Vec n t = search (rules, the_lemmas)

pub view-Mat : (c : ℕ) (r : ℕ) (t : Box RType Global) → type_view (ty.Mat c r t) ≡ mat c r (type_view t.value)
view-Mat c r t = search (rules, the_lemmas)

pub view-Atomic : (t : Box RType Global) → type_view (ty.Atomic t) ≡ atomic (type_view t.value)
view-Atomic t = search (rules, the_lemmas)

pub view-Ptr : (s : AddressSpace) (t : Box RType Global) (a : AccessMode) → type_view (ty.Ptr s t a) ≡ ptr s (type_view t.value) a
view-Ptr s t a = search (rules, the_lemmas)

pub view-Ref : (s : AddressSpace) (t : Box RType Global) (a : AccessMode) → type_view (ty.Ref s t a) ≡ ref s (type_view t.value) a
view-Ref s t a = search (rules, the_lemmas)

pub view-Texture : (x : TextureType) → type_view (ty.Texture x) ≡ texture x
view-Texture x = search (rules, the_lemmas)

pub view-Sampler : (x : SamplerType) → type_view (ty.Sampler x) ≡ sampler x
view-Sampler x = search (rules, the_lemmas)

shown-Struct : (p : Box (Unit {0}) Global) (t : StructType) → type_view (Struct' p t) ≡ struct_view t
shown-Struct p t = view-Struct (record { ptr = p.ptr; alloc = p.alloc; value = t })

shown-Array : (p : Box (Unit {0}) Global) (t : RType) (n : Option ℕ) → type_view (Array' p t n) ≡ array (type_view t) n
shown-Array p t n = view-Array (record { ptr = p.ptr; alloc = p.alloc; value = t }) n

shown-Vec : (n : ℕ) (p : Box (Unit {0}) Global) (t : RType) → type_view (Vec' n p t) ≡ vec n (type_view t)
shown-Vec n p t = view-Vec n (record { ptr = p.ptr; alloc = p.alloc; value = t })

shown-Mat : (c : ℕ) (r : ℕ) (p : Box (Unit {0}) Global) (t : RType) → type_view (Mat' c r p t) ≡ mat c r (type_view t)
shown-Mat c r p t = view-Mat c r (record { ptr = p.ptr; alloc = p.alloc; value = t })

shown-Atomic : (p : Box (Unit {0}) Global) (t : RType) → type_view (Atomic' p t) ≡ atomic (type_view t)
shown-Atomic p t = view-Atomic (record { ptr = p.ptr; alloc = p.alloc; value = t })

shown-Ptr : (s : AddressSpace) (p : Box (Unit {0}) Global) (t : RType) (a : AccessMode) → type_view (Ptr' s p t a) ≡ ptr s (type_view t) a
shown-Ptr s p t a = view-Ptr s (record { ptr = p.ptr; alloc = p.alloc; value = t }) a

shown-Ref : (s : AddressSpace) (p : Box (Unit {0}) Global) (t : RType) (a : AccessMode) → type_view (Ref' s p t a) ≡ ref s (type_view t) a
shown-Ref s p t a = view-Ref s (record { ptr = p.ptr; alloc = p.alloc; value = t }) a

ruleset shown = (shown-Struct, shown-Array, shown-Vec, shown-Mat, shown-Atomic, shown-Ptr, shown-Ref, view-Bool, view-AbstractInt, view-AbstractFloat, view-I32, view-U32, view-F32, view-F16, view-I64, view-U64, view-F64, view-Struct, struct_view-is, view-Array, view-Vec, view-Mat, view-Atomic, view-Ptr, view-Ref, view-Texture, view-Sampler)

pub ruleset views = (view-Bool, view-AbstractInt, view-AbstractFloat, view-I32, view-U32, view-F32, view-F16, view-I64, view-U64, view-F64, view-Struct, struct_view-is, view-Array, view-Vec, view-Mat, view-Atomic, view-Ptr, view-Ref, view-Texture, view-Sampler)

pub not-Array : (u : RType) → ((b : Box RType Global) (n : Option ℕ) → u ≡ ty.Array b n → ⊥) → (v : Ty) (n : Option ℕ) → type_view u ≡ array v n → ⊥
not-Array (Array' p t n₁) h v n e = absurd (h (record { ptr = p.ptr; alloc = p.alloc; value = t }) n₁ refl)
not-Array u h v n e = let k = simp shown at e in absurd (cc)

pub not-Vec : (u : RType) → ((n : ℕ) (b : Box RType Global) → u ≡ ty.Vec n b → ⊥) → (n : ℕ) (v : Ty) → type_view u ≡ vec n v → ⊥
not-Vec (Vec' n₁ p t) h n v e = absurd (h n₁ (record { ptr = p.ptr; alloc = p.alloc; value = t }) refl)
not-Vec u h n v e = let k = simp shown at e in absurd (cc)

pub not-Mat : (u : RType) → ((c : ℕ) (r : ℕ) (b : Box RType Global) → u ≡ ty.Mat c r b → ⊥) → (c : ℕ) (r : ℕ) (v : Ty) → type_view u ≡ mat c r v → ⊥
not-Mat (Mat' c₁ r₁ p t) h c r v e = absurd (h c₁ r₁ (record { ptr = p.ptr; alloc = p.alloc; value = t }) refl)
not-Mat u h c r v e = let k = simp shown at e in absurd (cc)

pub not-Atomic : (u : RType) → ((b : Box RType Global) → u ≡ ty.Atomic b → ⊥) → (v : Ty) → type_view u ≡ atomic v → ⊥
not-Atomic (Atomic' p t) h v e = absurd (h (record { ptr = p.ptr; alloc = p.alloc; value = t }) refl)
not-Atomic u h v e = let k = simp shown at e in absurd (cc)

pub not-Ptr : (u : RType) → ((s : AddressSpace) (b : Box RType Global) (a : AccessMode) → u ≡ ty.Ptr s b a → ⊥) → (s : AddressSpace) (v : Ty) (a : AccessMode) → type_view u ≡ ptr s v a → ⊥
not-Ptr (Ptr' s₁ p t a₁) h s v a e = absurd (h s₁ (record { ptr = p.ptr; alloc = p.alloc; value = t }) a₁ refl)
not-Ptr u h s v a e = let k = simp shown at e in absurd (cc)

pub not-Ref : (u : RType) → ((s : AddressSpace) (b : Box RType Global) (a : AccessMode) → u ≡ ty.Ref s b a → ⊥) → (s : AddressSpace) (v : Ty) (a : AccessMode) → type_view u ≡ ref s v a → ⊥
not-Ref (Ref' s₁ p t a₁) h s v a e = absurd (h s₁ (record { ptr = p.ptr; alloc = p.alloc; value = t }) a₁ refl)
not-Ref u h s v a e = let k = simp shown at e in absurd (cc)

pub not-Struct : (u : RType) → ((b : Box StructType Global) → u ≡ ty.Struct b → ⊥) → (n : List ℕ) (fs : Fields) → type_view u ≡ struct n fs → ⊥
not-Struct (Struct' p t) h n fs e = absurd (h (record { ptr = p.ptr; alloc = p.alloc; value = t }) refl)
not-Struct u h n fs e = let k = simp shown at e in absurd (cc)

pub not-Texture : (u : RType) → ((x : TextureType) → u ≡ ty.Texture x → ⊥) → (x : TextureType) → type_view u ≡ texture x → ⊥
not-Texture (ty.Texture x₁) h x e = absurd (h x₁ refl)
not-Texture u h x e = let k = simp shown at e in absurd (cc)

pub not-Sampler : (u : RType) → ((x : SamplerType) → u ≡ ty.Sampler x → ⊥) → (x : SamplerType) → type_view u ≡ sampler x → ⊥
not-Sampler (ty.Sampler x₁) h x e = absurd (h x₁ refl)
not-Sampler u h x e = let k = simp shown at e in absurd (cc)
