-- A value that is written in place.
use Rattle.std.proofs.Common.{◌≡◌, ℕ, ◌+◌, ◌≤◌, List, [], ◌++◌, length, take, drop, replicate, refl, ap, ◌∙◌, arith, append-nil, drop_of_length-le, length-drop}
use Rattle.std.proofs.lemmas.List.{length-replicate, get_or-replicate, length-take-le, drop-drop}
use Rattle.std.specs.Prelude.{slice_index}
use Rattle.wgsl_rules.specs.Values.{Val, type_of, IsStorable}
use Rattle.wgsl_rules.specs.Layout.{HasLayout, length_in, layout_of, runtime_count}
use Rattle.wgsl_layout.specs.Buffers.{number_at, buffer}
use Rattle.wgsl_layout.specs.Ranges.{overwritten}
use Rattle.wgsl_layout.proofs.lemmas.Ranges.{length-bytes}
use Rattle.wgsl_layout.proofs.lemmas.Tidy.{tidy}
use Rattle.wgsl_layout.specs.Plan.{plan_of}
use Rattle.wgsl_layout.specs.Walk.{put}
use Rattle.wgsl_layout.proofs.lemmas.Leaves.{AreZero, layout-bytes, over-again, over-inside, over-length}
use Rattle.wgsl_layout.proofs.lemmas.Standing.{put-leaves}

-- into a range that is zeroed
pub value-written : (v : Val) (o : ℕ) (b : List ℕ) → IsStorable v → HasLayout (type_of v) → o + length_in (layout_of v) ≤ length b → AreZero b o (length_in (layout_of v)) → put v (plan_of (type_of v)) o b ≡ overwritten b o (buffer v)
value-written v o b s h le z = put-leaves v o b s h ∙ layout-bytes (number_at v) (layout_of v) o b (tidy (type_of v) (runtime_count v) h).0 le z

-- into so many zeros
pub whole-written : (v : Val) (n : ℕ) (b new : List ℕ) → IsStorable v → HasLayout (type_of v) → n ≡ length_in (layout_of v) → b ≡ replicate n 0 → new ≡ put v (plan_of (type_of v)) 0 b → new ≡ buffer v
whole-written v n b new s h e zeros is =
    let long : length b ≡ n = ap length zeros ∙ length-replicate n 0 in
    let own = length-bytes (number_at v) (layout_of v) in
    let zeroed : AreZero b 0 (length_in (layout_of v)) = record { zeros = λ j lt. ap (λ (c : List ℕ). slice_index c (0 + j)) zeros ∙ get_or-replicate n (0 + j) 0 0 (omega (arith, e)) } in
    let nothing : drop (0 + length (buffer v)) b ≡ [] = drop_of_length-le b {i = 0 + length (buffer v)} (omega (arith, own, long, e)) in
    is ∙ value-written v 0 b s h (omega (arith, long, e)) zeroed ∙ ap (λ (c : List ℕ). buffer v ++ c) nothing ∙ append-nil (buffer v)

-- into a range of which each byte is made 0 first
pub part-written : (v : Val) (o n : ℕ) (b mid new : List ℕ) → IsStorable v → HasLayout (type_of v) → n ≡ length_in (layout_of v) → o + n ≤ length b → mid ≡ overwritten b o (replicate n 0) → length mid ≡ length b
    → new ≡ put v (plan_of (type_of v)) o mid → new ≡ overwritten b o (buffer v)
part-written v o n b mid new s h e le mid_is same is =
    let own = length-bytes (number_at v) (layout_of v) in
    let few : length (replicate {A = ℕ} n 0) ≡ n = length-replicate n 0 in
    let zeroed : AreZero mid o (length_in (layout_of v)) = record { zeros = λ j lt. ap (λ (c : List ℕ). slice_index c (o + j)) mid_is ∙ over-inside b (replicate n 0) o (o + j) j (omega (arith, few)) refl (omega (arith, few, e)) ∙ get_or-replicate n j 0 0 (omega (arith, e)) } in
    is ∙ value-written v o mid s h (omega (arith, e, same)) zeroed ∙ ap (λ (c : List ℕ). overwritten c o (buffer v)) mid_is ∙ over-again b (buffer v) (replicate n 0) o (omega (arith, few, own, e)) (omega (arith, own, e))

-- what filling a part of a slice with zeros leaves
pub filled-is : (b ys : List ℕ) (o k n : ℕ) → k ≡ n → o + n ≤ length b → ys ≡ replicate (length (take k (drop o b))) 0 → take o b ++ (ys ++ drop k (drop o b)) ≡ overwritten b o (replicate n 0)
filled-is b ys o k n e le is =
    let rest = length-drop o b in
    let few : length (take k (drop o b)) ≡ n = length-take-le k (drop o b) (omega arith) ∙ e in
    let zeros : ys ≡ replicate n 0 = is ∙ ap (λ (m : ℕ). replicate m 0) few in
    let whole : length (replicate {A = ℕ} n 0) ≡ n = length-replicate n 0 in
    let at : o + k ≡ o + length (replicate {A = ℕ} n 0) = omega (arith, whole) in
    ap (λ (c : List ℕ). take o b ++ (c ++ drop k (drop o b))) zeros ∙ ap (λ (c : List ℕ). take o b ++ (replicate n 0 ++ c)) (drop-drop k o b ∙ ap (λ (m : ℕ). drop m b) at)

pub zeroed-length : (b : List ℕ) (o n : ℕ) → o + n ≤ length b → length (overwritten b o (replicate n 0)) ≡ length b
zeroed-length b o n le = let whole : length (replicate {A = ℕ} n 0) ≡ n = length-replicate n 0 in over-length b (replicate n 0) o (omega (arith, whole))
