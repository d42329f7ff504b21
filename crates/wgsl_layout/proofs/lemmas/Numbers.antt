-- A number comes back from its bytes.
use Rattle.std.proofs.Common.{◌≡◌, ℕ, zero, suc, ◌+◌, ◌-◌, ◌*◌, ◌/◌, ◌%◌, ◌^◌, ◌<◌, ℤ, pos, negsuc, List, arith, sym, ap, ◌∙◌}
use Rattle.std.specs.Prelude.{slice_index}
use Rattle.std.proofs.lemmas.Int.{ints}
use native.Mathlib.Nat.{pow-suc, div-div-eq-div-mul, mul_comm, mod-lt}
use lib.Arith.{mod-mul}
use Rattle.wgsl_rules.specs.Kinds as kinds
use Rattle.wgsl_rules.specs.Kinds.{Kind, width, bytes_of, modulo, floor_div, wrap, InKind}
use Rattle.wgsl_layout.specs.Buffers.{byte_of, number_from, read_number}

-- byte j of a number, as the byte before it of the number without its lowest byte
pub next-byte : (a j : ℕ) → a / 256 / 256 ^ j ≡ a / 256 ^ suc j
next-byte a j = div-div-eq-div-mul a 256 (256 ^ j) ∙ ap (λ (x : ℕ). a / x) (mul_comm 256 (256 ^ j) ∙ sym (pow-suc 256 j))

power : (n : ℕ) → 0 < 256 ^ n
power zero = omega arith
power (suc n) = let e = pow-suc 256 n in let h = power n in omega arith

two-digits : (a n : ℕ) → a % 256 + 256 * (a / 256 % 256 ^ n) ≡ a % 256 ^ suc n
two-digits a n =
    let m = mod-mul a {m = 256 ^ n} {c = 256} (power n) (omega arith) in
    let e : a % 256 ^ suc n ≡ a % (256 ^ n * 256) = ap (λ (x : ℕ). a % x) (pow-suc 256 n) in
    omega (arith, m, e)

-- the number that the digits of a number give
digits : (b : List ℕ) (n o a : ℕ) → ((j : ℕ) → j < n → slice_index b (o + j) ≡ a / 256 ^ j % 256) → number_from b o n ≡ a % 256 ^ n
digits b zero o a h = omega arith
digits b (suc n) o a h =
    let z : o + 0 ≡ o = omega arith in
    let zeroth : a / 256 ^ 0 % 256 ≡ a % 256 = omega arith in
    let first : slice_index b o ≡ a % 256 = rw z at (h 0 (omega arith)) ∙ zeroth in
    let rest = digits b n (o + 1) (a / 256) (λ j lt. let e : o + 1 + j ≡ o + suc j = omega arith in rw e (h (suc j) (omega arith) ∙ ap (λ (x : ℕ). x % 256) (sym (next-byte a j)))) in
    rw (first, rest) (two-digits a n)

-- and the number that their complements give
complements : (b : List ℕ) (n o a : ℕ) → ((j : ℕ) → j < n → slice_index b (o + j) ≡ 255 - a / 256 ^ j % 256) → number_from b o n + a % 256 ^ n + 1 ≡ 256 ^ n
complements b zero o a h = omega arith
complements b (suc n) o a h =
    let z : o + 0 ≡ o = omega arith in
    let zeroth : a / 256 ^ 0 % 256 ≡ a % 256 = omega arith in
    let first : slice_index b o ≡ 255 - a % 256 = rw z at (h 0 (omega arith)) ∙ ap (λ (x : ℕ). 255 - x) zeroth in
    let rest = complements b n (o + 1) (a / 256) (λ j lt. let e : o + 1 + j ≡ o + suc j = omega arith in rw e (h (suc j) (omega arith) ∙ ap (λ (x : ℕ). 255 - x % 256) (sym (next-byte a j)))) in
    let both = two-digits a n in
    let e = pow-suc 256 n in
    let low : a % 256 < 256 = mod-lt a (omega arith) in
    omega arith

-- the bytes of a number give it back, modulo the width
whole : (b : List ℕ) (n o : ℕ) (z : ℤ) → ((j : ℕ) → j < n → slice_index b (o + j) ≡ byte_of z j) → number_from b o n ≡ modulo z (256 ^ n)
whole b n o (pos a) h = digits b n o a h
whole b n o (negsuc a) h = let all = complements b n o a (λ j lt. let e : 256 - 1 - a / 256 ^ j % 256 ≡ 255 - a / 256 ^ j % 256 = omega arith in h j lt ∙ e) in omega arith

wraps-back : (k : Kind) (z : ℤ) → InKind k z → wrap k (pos (modulo z (256 ^ bytes_of k))) ≡ z
wraps-back kinds.abstract_int (pos a) h = grind (arith, ints)
wraps-back kinds.abstract_int (negsuc a) h = grind (arith, ints)
wraps-back kinds.i32 (pos a) h = grind (arith, ints)
wraps-back kinds.i32 (negsuc a) h = grind (arith, ints)
wraps-back kinds.u32 (pos a) h = grind (arith, ints)
wraps-back kinds.u32 (negsuc a) h = grind (arith, ints)
wraps-back kinds.i64 (pos a) h = grind (arith, ints)
wraps-back kinds.i64 (negsuc a) h = grind (arith, ints)
wraps-back kinds.u64 (pos a) h = grind (arith, ints)
wraps-back kinds.u64 (negsuc a) h = grind (arith, ints)

pub number-back : (b : List ℕ) (o : ℕ) (k : Kind) (z : ℤ) → InKind k z → ((j : ℕ) → j < bytes_of k → slice_index b (o + j) ≡ byte_of z j) → read_number b o k ≡ z
number-back b o k z i h = ap (λ (n : ℕ). wrap k (pos n)) (whole b (bytes_of k) o z h) ∙ wraps-back k z i
