-- How many bytes a value takes, and what they are.
use Rattle.std.proofs.Common.{◌≡◌, ℕ, suc, ◌-◌, List, [], ◌∷◌, length, Option, Some, None, Bool, true, refl, sym, ap, arith}
use Rattle.std.specs.Prelude.{slice_get, if◌then◌else◌}
use Rattle.wgsl_rules.specs.Layout.{elements, last_elements, has_layout, length_in, layout_len, layout_of, runtime_count}
use Rattle.wgsl_rules.specs.Values.{Val, deferred, type_of, IsStorable}
use Rattle.wgsl_values.specs.View.{value_of, vals_view}
use Rattle.wgsl_values.specs.declared.instance.Instance.{Instance}
use Rattle.wgsl_layout.specs.Buffers.{buffer, buffer_of}
use Rattle.wgsl_layout.proofs.lemmas.Tidy.{tidy}

-- ---- the elements of the last member

pub last-elements : (n : ℕ) (vs : List Instance) (x : Instance) → Some x ≡ slice_get vs (length vs - 1) → last_elements n (vals_view vs) ≡ elements (value_of x)
last-elements n [] x e = absurd (cc)
last-elements n (v ∷ []) x e = let same : x ≡ v = cc in ap (λ (y : Instance). elements (value_of y)) (sym same)
last-elements n (v ∷ (w ∷ vs)) x e =
    let at : length (v ∷ (w ∷ vs)) - 1 ≡ suc (length (w ∷ vs) - 1) = omega arith in
    last-elements (elements (value_of v)) (w ∷ vs) x (rw at at e)

there-is-a-last : (v : Instance) (vs : List Instance) → None ≡ slice_get (v ∷ vs) (length (v ∷ vs) - 1) → ⊥
there-is-a-last v [] e = absurd (cc)
there-is-a-last v (w ∷ vs) e =
    let at : length (v ∷ (w ∷ vs)) - 1 ≡ suc (length (w ∷ vs) - 1) = omega arith in
    there-is-a-last w vs (rw at at e)

pub no-last : (vs : List Instance) → None ≡ slice_get vs (length vs - 1) → last_elements 0 (vals_view vs) ≡ 0
no-last [] e = refl
no-last (v ∷ vs) e = absurd (there-is-a-last v vs e)

-- ---- the bytes

pub length-is : (v : Val) → has_layout (type_of v) ≡ true → length_in (layout_of v) ≡ layout_len (runtime_count v) (type_of v)
length-is v h = (tidy (type_of v) (runtime_count v) h).1

pub buffer_of-is : (v : Val) → IsStorable v → has_layout (type_of v) ≡ true → buffer_of v ≡ Some (buffer v)
buffer_of-is (deferred t) s h = absurd s
buffer_of-is v s h = let at : Bool → Option (List ℕ) = λ b. if b then Some (buffer v) else None in ap at h
