-- What tests tell of what they are made of, and of numbers, and what makes them hold.
use Rattle.std.proofs.Common.{◌≡◌, ℕ, ◌+◌, ◌*◌, ◌<◌, ◌≤◌, Bool, true, false, refl, arith}
use Rattle.std.specs.Prelude.{nat_lt, nat_le, ◌&&◌, ◌||◌}
pub use Rattle.std.proofs.lemmas.Bool.{and_from as both}
use Rattle.std.proofs.lemmas.Bool.Decides.{nat_tests}
use Rattle.wgsl_rules.specs.Layout.{is_from_2_to_4}

pub and_false : (a b : Bool) → false ≡ b → false ≡ (a && b)
and_false true b h = h
and_false false b h = refl

pub or-false : (b : Bool) → (b || false) ≡ true → b ≡ true
or-false true h = refl
or-false false h = h

-- the n numbers from o on
pub inside : (o n i : ℕ) → (nat_le o i && nat_lt i (o + n)) ≡ true → (o ≤ i) × (i < o + n)
inside o n i h = (grind (arith, nat_tests), grind (arith, nat_tests))

pub at-least-2 : (n : ℕ) → is_from_2_to_4 n ≡ true → 2 ≤ n
at-least-2 n h = grind (arith, nat_tests)

pub at-most-4 : (n : ℕ) → is_from_2_to_4 n ≡ true → n ≤ 4
at-most-4 n h = grind (arith, nat_tests)

pub product : (a b : ℕ) → 1 ≤ a → 1 ≤ b → 1 ≤ a * b
product a b h k = grind arith
