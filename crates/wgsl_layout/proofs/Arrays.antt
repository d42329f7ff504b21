-- How many elements the array has that bytes lay out, by its type.
use Rattle.std.proofs.Common.{◌≡◌, ℕ, List, Option, Some, None, refl, sym, ap, ◌∙◌, option_map}
use Rattle.std.specs.Option.{unwrap_or}
use Rattle.wgsl_rules.specs.Kinds.{Kind}
use Rattle.wgsl_rules.specs.Layout.{layout, leaf, atomic_kind}
use Rattle.wgsl_rules.specs.TypeParts.{array_part}
use Rattle.wgsl_rules.specs.Types.{Ty, array, atomic}
use Rattle.wgsl_layout.specs.Arrays.{elements_in}
use Rattle.wgsl_layout.specs.Buffers.{decoded}
use Rattle.wgsl_layout.specs.Ranges.{parts_in}
use Rattle.wgsl_layout.proofs.Locating.{array-count, count-decoded}

-- the count of the type, or so many elements of a runtime-sized array
abbrev pub counted_type : ℕ → Ty → Option ℕ
counted_type n t = option_map (λ p. unwrap_or p.1 n) (array_part t)

pub elements-decoded : (n : ℕ) (t : Ty) (b : List ℕ) (o : ℕ) → elements_in (decoded b o (layout n t)) ≡ counted_type n t
elements-decoded n (array t None) b o = ap (λ (k : ℕ). Some k) (count-decoded b o (parts_in (layout n (array t None))) ∙ sym (array-count n n None t refl))
elements-decoded n (array t (Some k)) b o = ap (λ (k : ℕ). Some k) (count-decoded b o (parts_in (layout n (array t (Some k)))) ∙ sym (array-count k n (Some k) t refl))
elements-decoded n (atomic t) b o = by (atomic_kind t)
  where
    by : (k : Option Kind) → elements_in (decoded b o (leaf (atomic t) k)) ≡ None
    by None = refl
    by (Some k) = refl
elements-decoded n t b o = refl
