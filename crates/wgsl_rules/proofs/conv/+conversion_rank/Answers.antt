-- The arms for other types.
use Rattle.std.proofs.Common.{◌≡◌, ◌∙◌, ℕ, List, Option, None, Bool, false, refl, sym, ap, string_bytes}
use Rattle.wgsl_rules.specs.Types.{Ty, struct, array, vec, mat, Fields}
use Rattle.wgsl_rules.specs.Conversion.{unequal_rank, zero_if}
use Rattle.wgsl_rules.specs.View.{members_view}
use Rattle.wgsl_rules.specs.declared.ty.StructType.{out-StructType}
use Rattle.wgsl_rules.proofs.lemmas.Views.{views, not-Struct, not-Array, not-Vec, not-Mat}
use Rattle.wgsl_rules.proofs.conv.+conversion_rank.Goals as goal

unequal : (b : Bool) (rank : Option ℕ) → b ≡ false → None ≡ rank → None ≡ zero_if b rank
unequal b rank e h = h ∙ ap (λ x. zero_if x rank) (sym e)

rank-not_struct : (name : List ℕ) (fs : Fields) (u : Ty) → ((name : List ℕ) (fs : Fields) → u ≡ struct name fs → ⊥) → None ≡ unequal_rank (struct name fs) u
rank-not_struct name fs (struct name₁ fs₁) h = absurd (h name₁ fs₁ refl)
rank-not_struct name fs u h = refl

pub returns-in_default : goal.returns-in_default
returns-in_default t c =
    unequal _ _ (sym c.eq.ensures ∙ c.if-eq.false)
    (simp (c.in-Struct.is, views) (rank-not_struct (string_bytes (out-StructType c.in-Struct.s.value).name) (members_view (out-StructType c.in-Struct.s.value).members.items) _ (not-Struct _ c.in_default.not-Struct)))

rank-not_array : (t : Ty) (n : Option ℕ) (u : Ty) → ((t : Ty) (n : Option ℕ) → u ≡ array t n → ⊥) → None ≡ unequal_rank (array t n) u
rank-not_array t n (array t₁ n₁) h = absurd (h t₁ n₁ refl)
rank-not_array t n u h = refl

pub returns-in_default-b : goal.returns-in_default-b
returns-in_default-b t c =
    unequal _ _ (sym c.eq.ensures ∙ c.if-eq.false)
    (simp (c.in-Array.is, views) (rank-not_array _ _ _ (not-Array _ c.in_default-b.not-Array)))

rank-not_vec : (n : ℕ) (t : Ty) (u : Ty) → ((n : ℕ) (t : Ty) → u ≡ vec n t → ⊥) → None ≡ unequal_rank (vec n t) u
rank-not_vec n t (vec n₁ t₁) h = absurd (h n₁ t₁ refl)
rank-not_vec n t u h = refl

pub returns-in_default-b-2 : goal.returns-in_default-b-2
returns-in_default-b-2 t c =
    unequal _ _ (sym c.eq.ensures ∙ c.if-eq.false)
    (simp (c.in-Vec.is, views) (rank-not_vec _ _ _ (not-Vec _ c.in_default-b-2.not-Vec)))

rank-not_mat : (c : ℕ) (r : ℕ) (t : Ty) (u : Ty) → ((c : ℕ) (r : ℕ) (t : Ty) → u ≡ mat c r t → ⊥) → None ≡ unequal_rank (mat c r t) u
rank-not_mat c r t (mat c₁ r₁ t₁) h = absurd (h c₁ r₁ t₁ refl)
rank-not_mat c r t u h = refl

pub returns-in_default-b-3 : goal.returns-in_default-b-3
returns-in_default-b-3 t c =
    unequal _ _ (sym c.eq.ensures ∙ c.if-eq.false)
    (simp (c.in-Mat.is, views) (rank-not_mat _ _ _ _ (not-Mat _ c.in_default-b-3.not-Mat)))
