-- Where characters begin.
use Rattle.std.proofs.Common.{◌≡◌, ℕ, ◌<◌, ◌≤◌, ◌↔◌, nat_le, nat_lt, ◌&&◌, ◌||◌, Bool, true, false, IsTrue, List, length, slice_index, refl, arith}
use Rattle.std.proofs.lemmas.Grind.{common_steps}
use Rattle.std.specs.Str.{IsCharBoundary}
use Rattle.wgsl_source.specs.Cuts.{is_boundary}

pub boundary_passes : (at l x : ℕ) → at ≤ l → (at < l → 128 ≤ x → 192 ≤ x) → (l ≤ at → x ≡ 0) → (nat_le at l && (nat_lt x 128 || nat_le 192 x)) ≡ true
boundary_passes at l x within start end = grind (arith, common_steps)

pub boundary_is : (at l x : ℕ) → (nat_le at l && (nat_lt x 128 || nat_le 192 x)) ≡ true → (at ≤ l) × (at < l → 128 ≤ x → 192 ≤ x)
boundary_is at l x e = (grind (arith, common_steps), λ within high. grind (arith, common_steps))

pub same_as_boundary : (text : List ℕ) (at : ℕ) (b c : Bool) → is_boundary text at ≡ c → IsTrue b ↔ IsCharBoundary text at → b ≡ c
same_as_boundary text at true true e h = refl
same_as_boundary text at false false e h = refl
same_as_boundary text at true false e h =
    let k : IsCharBoundary text at = h.0 refl in
    let behind : length text ≤ at → slice_index text at ≡ 0 = λ past. grind (arith, common_steps) in
    let p = boundary_passes at (length text) (slice_index text at) k.0 k.1 behind in
    absurd (cc (e, p))
same_as_boundary text at false true e h = absurd (cc (h.1 (boundary_is at (length text) (slice_index text at) e)))
