-- The arms for other types, and members of two counts.
use Rattle.std.proofs.Common.{◌≡◌, ◌≢◌, ℕ, suc, List, [], ◌∷◌, length, Option, true, false, refl, ap}
use Rattle.wgsl_rules.specs.Types.{Ty, struct, array, vec, mat, atomic, ptr, ref, texture, sampler, Fields}
use Rattle.wgsl_rules.specs.View.{members_view, member_view}
use Rattle.wgsl_rules.specs.Same.{same, same_fields, same_field}
use Rattle.wgsl_rules.specs.declared.syntax.AddressSpace.{AddressSpace}
use Rattle.wgsl_rules.specs.declared.syntax.AccessMode.{AccessMode}
use Rattle.wgsl_rules.specs.declared.syntax.TextureType.{TextureType}
use Rattle.wgsl_rules.specs.declared.syntax.SamplerType.{SamplerType}
use Rattle.wgsl_rules.specs.declared.ty.StructMemberType.{StructMemberType}
use Rattle.wgsl_rules.proofs.lemmas.Views.{views, not-Struct, not-Array, not-Vec, not-Mat, not-Atomic, not-Ptr, not-Ref, not-Texture, not-Sampler}
use Rattle.wgsl_rules.proofs.eq.+same.Goals as goal
use Rattle.wgsl_rules.proofs.lemmas.Tests.{and_false}

same-not_struct : (name : List ℕ) (fs : Fields) (u : Ty) → ((name : List ℕ) (fs : Fields) → u ≡ struct name fs → ⊥) → false ≡ same (struct name fs) u
same-not_struct name fs (struct name₁ fs₁) h = absurd (h name₁ fs₁ refl)
same-not_struct name fs u h = refl

pub TypePartialEq::eq-returns-in_default-other : goal.TypePartialEq::eq-returns-in_default-other
TypePartialEq::eq-returns-in_default-other t c =
    simp (c.in-Struct.is, views) (same-not_struct _ _ _ (not-Struct _ c.in_default-other.not-Struct))

same-not_array : (t : Ty) (n : Option ℕ) (u : Ty) → ((t : Ty) (n : Option ℕ) → u ≡ array t n → ⊥) → false ≡ same (array t n) u
same-not_array t n (array t₁ n₁) h = absurd (h t₁ n₁ refl)
same-not_array t n u h = refl

pub TypePartialEq::eq-returns-in_default-other-2 : goal.TypePartialEq::eq-returns-in_default-other-2
TypePartialEq::eq-returns-in_default-other-2 t c =
    simp (c.in-Array.is, views) (same-not_array _ _ _ (not-Array _ c.in_default-other-2.not-Array))

same-not_vec : (n : ℕ) (t : Ty) (u : Ty) → ((n : ℕ) (t : Ty) → u ≡ vec n t → ⊥) → false ≡ same (vec n t) u
same-not_vec n t (vec n₁ t₁) h = absurd (h n₁ t₁ refl)
same-not_vec n t u h = refl

pub TypePartialEq::eq-returns-in_default-other-3 : goal.TypePartialEq::eq-returns-in_default-other-3
TypePartialEq::eq-returns-in_default-other-3 t c =
    simp (c.in-Vec.is, views) (same-not_vec _ _ _ (not-Vec _ c.in_default-other-3.not-Vec))

same-not_mat : (c : ℕ) (r : ℕ) (t : Ty) (u : Ty) → ((c : ℕ) (r : ℕ) (t : Ty) → u ≡ mat c r t → ⊥) → false ≡ same (mat c r t) u
same-not_mat c r t (mat c₁ r₁ t₁) h = absurd (h c₁ r₁ t₁ refl)
same-not_mat c r t u h = refl

pub TypePartialEq::eq-returns-in_default-other-4 : goal.TypePartialEq::eq-returns-in_default-other-4
TypePartialEq::eq-returns-in_default-other-4 t c =
    simp (c.in-Mat.is, views) (same-not_mat _ _ _ _ (not-Mat _ c.in_default-other-4.not-Mat))

same-not_atomic : (t : Ty) (u : Ty) → ((t : Ty) → u ≡ atomic t → ⊥) → false ≡ same (atomic t) u
same-not_atomic t (atomic t₁) h = absurd (h t₁ refl)
same-not_atomic t u h = refl

pub TypePartialEq::eq-returns-in_default-other-5 : goal.TypePartialEq::eq-returns-in_default-other-5
TypePartialEq::eq-returns-in_default-other-5 t c =
    simp (c.in-Atomic.is, views) (same-not_atomic _ _ (not-Atomic _ c.in_default-other-5.not-Atomic))

same-not_ptr : (s : AddressSpace) (t : Ty) (a : AccessMode) (u : Ty) → ((s : AddressSpace) (t : Ty) (a : AccessMode) → u ≡ ptr s t a → ⊥) → false ≡ same (ptr s t a) u
same-not_ptr s t a (ptr s₁ t₁ a₁) h = absurd (h s₁ t₁ a₁ refl)
same-not_ptr s t a u h = refl

pub TypePartialEq::eq-returns-in_default-other-6 : goal.TypePartialEq::eq-returns-in_default-other-6
TypePartialEq::eq-returns-in_default-other-6 t c =
    simp (c.in-Ptr.is, views) (same-not_ptr _ _ _ _ (not-Ptr _ c.in_default-other-6.not-Ptr))

same-not_ref : (s : AddressSpace) (t : Ty) (a : AccessMode) (u : Ty) → ((s : AddressSpace) (t : Ty) (a : AccessMode) → u ≡ ref s t a → ⊥) → false ≡ same (ref s t a) u
same-not_ref s t a (ref s₁ t₁ a₁) h = absurd (h s₁ t₁ a₁ refl)
same-not_ref s t a u h = refl

pub TypePartialEq::eq-returns-in_default-other-7 : goal.TypePartialEq::eq-returns-in_default-other-7
TypePartialEq::eq-returns-in_default-other-7 t c =
    simp (c.in-Ref.is, views) (same-not_ref _ _ _ _ (not-Ref _ c.in_default-other-7.not-Ref))

same-not_texture : (t : TextureType) (u : Ty) → ((t : TextureType) → u ≡ texture t → ⊥) → false ≡ same (texture t) u
same-not_texture t (texture t₁) h = absurd (h t₁ refl)
same-not_texture t u h = refl

pub TypePartialEq::eq-returns-in_default-other-8 : goal.TypePartialEq::eq-returns-in_default-other-8
TypePartialEq::eq-returns-in_default-other-8 t c =
    simp (c.in-Texture.is, views) (same-not_texture _ _ (not-Texture _ c.in_default-other-8.not-Texture))

same-not_sampler : (s : SamplerType) (u : Ty) → ((s : SamplerType) → u ≡ sampler s → ⊥) → false ≡ same (sampler s) u
same-not_sampler s (sampler s₁) h = absurd (h s₁ refl)
same-not_sampler s u h = refl

pub TypePartialEq::eq-returns-in_default-other-9 : goal.TypePartialEq::eq-returns-in_default-other-9
TypePartialEq::eq-returns-in_default-other-9 t c =
    simp (c.in-Sampler.is, views) (same-not_sampler _ _ (not-Sampler _ c.in_default-other-9.not-Sampler))

same_fields-lengths : (a b : List StructMemberType) → length a ≢ length b → false ≡ same_fields (members_view a) (members_view b)
same_fields-lengths [] [] h = absurd (h refl)
same_fields-lengths [] (y ∷ ys) h = refl
same_fields-lengths (x ∷ xs) [] h = refl
same_fields-lengths (x ∷ xs) (y ∷ ys) h =
    and_false (same_field (member_view x) (member_view y)) _ (same_fields-lengths xs ys (λ e. h (ap suc e)))

pub same_members-returns-then-a-b : goal.same_members-returns-then-a-b
same_members-returns-then-a-b t c = same_fields-lengths _ _ c.if-a-b.true
