-- A converted value may be stored where it could be.
use Rattle.std.proofs.Common.{◌≡◌, ℤ, Bool, true, false, Option, Some, None, if◌then◌else◌, ◌==◌, refl, sym, ap, ◌∙◌}
use Rattle.std.proofs.lemmas.Bool.{false≢true}
use Rattle.wgsl_rules.specs.Converted.{converted, all_converted, abstract_converted, type_count}
use Rattle.wgsl_rules.specs.Kinds as kinds
use Rattle.wgsl_rules.specs.Kinds.{Kind, in_kind}
use Rattle.wgsl_rules.specs.Same.{same_number}
use Rattle.wgsl_rules.specs.Types as types
use Rattle.wgsl_rules.specs.Types.{Ty}
use Rattle.wgsl_rules.specs.Values.{Val, number, array_of, vector, matrix, deferred, count, IsStorable, IsWellFormed}
use Rattle.wgsl_rules.proofs.lemmas.Converted.{mapped, keeps, converted-well_formed, storable-well_formed}

-- ---- numbers

in-range : (b : Bool) (x w : Val) → (if b then Some x else None) ≡ Some w → w ≡ x
in-range true x w e = cc
in-range false x w e = absurd (cc)

-- an abstract integer becomes a number
pub record IsNumber (w : Val) : Type 0 where
  pub kind : Kind
  pub whole : ℤ
  pub is : w ≡ number kind whole

pub number-is : (z : ℤ) (t : Ty) (w : Val) → abstract_converted z t ≡ Some w → IsNumber w
number-is z types.abstract_int w e = record { kind = kinds.abstract_int; whole = z; is = let same : w ≡ number kinds.abstract_int z = cc in same }
number-is z types.i32 w e = record { kind = kinds.i32; whole = z; is = in-range (in_kind kinds.i32 z) (number kinds.i32 z) w e }
number-is z types.u32 w e = record { kind = kinds.u32; whole = z; is = in-range (in_kind kinds.u32 z) (number kinds.u32 z) w e }
number-is z t w e = absurd (cc)

-- ---- values that may be stored

is_deferred : Val → Bool
is_deferred (deferred t) = true
is_deferred v = false

same-deferred : (v w : Val) (t : Ty) → converted v t ≡ Some w → is_deferred w ≡ is_deferred v
unfolding is_deferred
same-deferred (number kinds.abstract_int z) w t e = ap is_deferred ((number-is z t w e).is)
same-deferred (array_of runtime vs) w (types.array t n) e = ap is_deferred ((mapped (same_number (type_count runtime (count vs)) n) (array_of runtime) (all_converted vs t) w e).is)
same-deferred (vector vs) w (types.vec n t) e = ap is_deferred ((mapped (count vs == n) vector (all_converted vs t) w e).is)
same-deferred (matrix vs) w (types.mat n r t) e = ap is_deferred ((mapped (count vs == n) matrix (all_converted vs (types.vec r t)) w e).is)
same-deferred v w t e = ap is_deferred ((keeps v w t e).1)

not-deferred : (v : Val) → IsStorable v → is_deferred v ≡ false
unfolding is_deferred
not-deferred (deferred t) h = absurd h
not-deferred v h = refl

storable : (w : Val) → is_deferred w ≡ false → IsWellFormed w → IsStorable w
unfolding is_deferred
storable (deferred t) n h = absurd (false≢true (sym n))
storable w n h = h

pub converted-storable : (v w : Val) (t : Ty) → IsStorable v → converted v t ≡ Some w → IsStorable w
converted-storable v w t h e = storable w (same-deferred v w t e ∙ not-deferred v h) (converted-well_formed v w t (storable-well_formed v h) e)
