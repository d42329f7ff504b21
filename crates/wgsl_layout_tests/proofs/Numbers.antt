-- Numbers that stand where a cell may put another of their kind.
use Rattle.std.proofs.Common.{◌≡◌, [], ◌∷◌, Some, option_map, true, refl, sym, subst}
use Rattle.std.specs.Prelude.{IsSomeAnd}
use Rattle.std.specs.Result.{result_ok}
use Rattle.wgsl_rules.specs.Layout.{layout, runtime_count}
use Rattle.wgsl_rules.specs.Paths.{part_at}
use Rattle.wgsl_rules.specs.Types.{Ty, vec, u32}
use Rattle.wgsl_rules.specs.Values.{Val, vector, no_vals, val, atomic_of, type_of}
use Rattle.wgsl_layout.specs.Atomics.{IsAtomicOf, number_in}
use Rattle.wgsl_layout.specs.Components.{is_vector}
use Rattle.wgsl_layout.specs.NumbersIn.{HasNumberAt, IsLikeNumber}
use Rattle.wgsl_layout.specs.Ranges.{range_in}

-- an atomic whose number is of the type
pub is-atomic : (x v : Val) (t : Ty) → Some v ≡ number_in x → t ≡ type_of v → IsAtomicOf t x
is-atomic (atomic_of u) v t e h = let same : v ≡ u = cc in subst (λ (y : Val). type_of y ≡ t) same (sym h)
is-atomic x v t e h = absurd (cc)

-- the number in the second component of a vector of three begins behind the four bytes of the first
pub second-number : (x y w : Val) → is_vector x ≡ true → type_of x ≡ vec 3 u32
    → option_map (λ p. p.1) (result_ok (part_at 1 x)) ≡ Some y → IsLikeNumber w y → HasNumberAt x 4 w
second-number (vector (val a (val b rest))) y w v t e like =
    let same : y ≡ b = cc in
    record {
      path = 1 ∷ [];
      is = record {
        there = subst (IsLikeNumber w) same like;
        begins = subst (λ (s : Ty). IsSomeAnd (range_in (1 ∷ []) (layout (runtime_count (vector (val a (val b rest)))) s)) (λ r. r.start ≡ 4)) (sym t) refl;
      };
    }
second-number (vector (val a no_vals)) y w v t e like = absurd (cc)
second-number (vector no_vals) y w v t e like = absurd (cc)
second-number x y w v t e like = absurd (cc)
