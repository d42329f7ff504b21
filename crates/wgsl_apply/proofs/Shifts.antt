-- One of four places, or none.
use Rattle.std.proofs.Common.{◌≡◌, ℕ, zero, suc, ◌+◌, ◌<◌, Bool, true, false, refl, arith, below_more}
use Rattle.std.specs.Prelude.{◌||◌}
use Rattle.wgsl_rules.specs.Values.{Val}
use Rattle.wgsl_apply.specs.Standard.{is_past_width_at, shifts_past_width}

or-left : (a b : Bool) → a ≡ true → (a || b) ≡ true
or-left true b e = refl
or-left false b e = absurd (cc)

or-right : (a b : Bool) → b ≡ true → (a || b) ≡ true
or-right true b e = refl
or-right false b e = e

or-none : (a b : Bool) → a ≡ false → b ≡ false → (a || b) ≡ false
or-none true b e h = absurd (cc)
or-none false b e h = h

one-of : (f : ℕ → Bool) (k : ℕ) → k < 4 → f k ≡ true → (f 0 || (f 1 || (f 2 || f 3))) ≡ true
one-of f zero h e = or-left (f 0) (f 1 || (f 2 || f 3)) e
one-of f (suc zero) h e = or-right (f 0) (f 1 || (f 2 || f 3)) (or-left (f 1) (f 2 || f 3) e)
one-of f (suc (suc zero)) h e = or-right (f 0) (f 1 || (f 2 || f 3)) (or-right (f 1) (f 2 || f 3) (or-left (f 2) (f 3) e))
one-of f (suc (suc (suc zero))) h e = or-right (f 0) (f 1 || (f 2 || f 3)) (or-right (f 1) (f 2 || f 3) (or-right (f 2) (f 3) e))
one-of f (suc (suc (suc (suc k)))) h e = absurd (omega arith)

none-of : (f : ℕ → Bool) → ((k : ℕ) → k < 4 → f k ≡ false) → (f 0 || (f 1 || (f 2 || f 3))) ≡ false
none-of f h = or-none (f 0) (f 1 || (f 2 || f 3)) (h 0 (omega arith)) (or-none (f 1) (f 2 || f 3) (h 1 (omega arith)) (or-none (f 2) (f 3) (h 2 (omega arith)) (h 3 (omega arith))))

pub past-at : (v w : Val) (k : ℕ) → k < 4 → is_past_width_at v w k ≡ true → shifts_past_width v w ≡ true
past-at v w k h e = one-of (is_past_width_at v w) k h e

pub never-past : (v w : Val) → ((k : ℕ) → k < 4 → is_past_width_at v w k ≡ false) → shifts_past_width v w ≡ false
never-past v w h = none-of (is_past_width_at v w) h

pub one-more : (f : ℕ → Bool) (i : ℕ) → f i ≡ false → ((k : ℕ) → k < i → f k ≡ false) → (k : ℕ) → k < i + 1 → f k ≡ false
one-more f i here before = below_more (λ (k : ℕ). f k ≡ false) i before here
