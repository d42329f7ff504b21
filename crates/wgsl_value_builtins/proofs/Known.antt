-- What is converted is no deferred value where it was none.
use Rattle.std.proofs.Common.{◌≡◌, ℤ, Bool, true, false, Option, Some, None, Ok, if◌then◌else◌, ◌==◌, refl, ap, ◌∙◌}
use Rattle.wgsl_rules.proofs.lemmas.Converted.{mapped, keeps}
use Rattle.wgsl_rules.specs.Conversion.{common_type}
use Rattle.wgsl_rules.specs.Converted.{converted, all_converted, abstract_converted, type_count}
use Rattle.wgsl_rules.specs.InCommon.{both, both_in, in_common}
use Rattle.wgsl_rules.specs.Kinds as kinds
use Rattle.wgsl_rules.specs.Kinds.{in_kind}
use Rattle.wgsl_rules.specs.Refusals.{builtin}
use Rattle.wgsl_rules.specs.Same.{same_number}
use Rattle.wgsl_rules.specs.Types as types
use Rattle.wgsl_rules.specs.Types.{Ty}
use Rattle.wgsl_rules.specs.Values.{Val, number, array_of, vector, matrix, deferred, count, type_of, IsStorable, IsWellFormed}
use Rattle.wgsl_value_ops.proofs.Outcomes.{some-of}
use Rattle.wgsl_value_builtins.specs.Lifts.{in_common_type}
use Rattle.wgsl_value_builtins.specs.Logical.{is_known}

in-range : (b : Bool) (x w : Val) → (if b then Some x else None) ≡ Some w → is_known x ≡ true → is_known w ≡ true
in-range true x w e h = let same : w ≡ x = cc in ap is_known same ∙ h
in-range false x w e h = absurd (cc)

number-known : (z : ℤ) (t : Ty) (w : Val) → abstract_converted z t ≡ Some w → is_known w ≡ true
number-known z types.abstract_int w e = let same : w ≡ number kinds.abstract_int z = cc in ap is_known same
number-known z types.i32 w e = in-range (in_kind kinds.i32 z) (number kinds.i32 z) w e refl
number-known z types.u32 w e = in-range (in_kind kinds.u32 z) (number kinds.u32 z) w e refl
number-known z t w e = absurd (cc)

pub converted-known : (v w : Val) (t : Ty) → is_known v ≡ true → converted v t ≡ Some w → is_known w ≡ true
converted-known (number kinds.abstract_int z) w t h e = number-known z t w e
converted-known (array_of runtime vs) w (types.array t n) h e = ap is_known ((mapped (same_number (type_count runtime (count vs)) n) (array_of runtime) (all_converted vs t) w e).is)
converted-known (vector vs) w (types.vec n t) h e = ap is_known ((mapped (count vs == n) vector (all_converted vs t) w e).is)
converted-known (matrix vs) w (types.mat n r t) h e = ap is_known ((mapped (count vs == n) matrix (all_converted vs (types.vec r t)) w e).is)
converted-known v w t h e = ap is_known ((keeps v w t e).1) ∙ h

pub known-storable : (v : Val) → is_known v ≡ true → IsWellFormed v → IsStorable v
known-storable (deferred t) k h = absurd (cc)
known-storable v k h = h

pub both-is : (o q : Option Val) (p : Val × Val) → both o q ≡ Some p → (o ≡ Some p.0) × (q ≡ Some p.1)
both-is (Some x) (Some y) p e =
    let same : (x, y) ≡ p = cc in (ap (λ (z : Val × Val). Some z.0) same, ap (λ (z : Val × Val). Some z.1) same)
both-is o q p e = absurd (cc)

pair-known : (v w : Val) (o : Option Ty) (p : Val × Val) → is_known v ≡ true → is_known w ≡ true → both_in converted converted v w o ≡ Some p → (is_known p.0 ≡ true) × (is_known p.1 ≡ true)
pair-known v w None p h k e = absurd (cc)
pair-known v w (Some t) p h k e = let b = both-is (converted v t) (converted w t) p e in (converted-known v p.0 t h b.0, converted-known w p.1 t k b.1)

pub common-known : (v w : Val) (p : Val × Val) → is_known v ≡ true → is_known w ≡ true → in_common_type v w ≡ Ok p → (is_known p.0 ≡ true) × (is_known p.1 ≡ true)
common-known v w p h k e = pair-known v w (common_type (type_of v) (type_of w)) p h k (some-of builtin (in_common converted v w) p e)
