-- The laws of conversion, of types.
use Rattle.std.proofs.Common.{◌≡◌, Bool, true, false, Some, None, is_some, if◌then◌else◌, refl}
use Rattle.wgsl_rules.specs.Conversion.{rank}
use Rattle.wgsl_rules.specs.Converted.{type_converted}
use Rattle.wgsl_rules.specs.Equal.{same-Decides}
use Rattle.wgsl_rules.specs.Types.{Ty}
use Rattle.wgsl_rules.specs.Values.{Val, deferred, type_of, IsWellFormed}

-- what is given where a test holds has what the given has
given : (P : Val → Type 0) (b : Bool) (x w : Val) → (if b then Some x else None) ≡ Some w → P x → P w
given P true x w h e = let same : x ≡ w = cc in rw (← same) e
given P false x w h e = cc

pub rank-same : (t : Ty) → rank t t ≡ Some 0
rank-same t = rw ((same-Decides t t).1 refl) refl

pub type_gives_type : (s : Ty) (w : Val) (t : Ty) → type_converted (deferred s) t ≡ Some w → type_of w ≡ t
type_gives_type s w t h = given (λ w. type_of w ≡ t) (is_some (rank s t)) (deferred t) w h refl

pub type_gives_well_formed : (s : Ty) (w : Val) (t : Ty) → type_converted (deferred s) t ≡ Some w → IsWellFormed w
type_gives_well_formed s w t h = given IsWellFormed (is_some (rank s t)) (deferred t) w h tt

pub type_keeps_own : (t : Ty) → type_converted (deferred t) t ≡ Some (deferred t)
type_keeps_own t = rw (rank-same t) refl
