-- Shifts (WGSL: bit expressions).
use Rattle.std.specs.Prelude.{ℕ, ◌%◌, ◌^◌, ℤ, pos, ◌*ℤ◌, nat_lt, Option, Some, None, if◌then◌else◌, Ok, Err, unsigned_abs}
use Rattle.wgsl_rules.specs.Kinds as kinds
use Rattle.wgsl_rules.specs.Kinds.{Kind, in_kind, width, wrap, floor_div}
use Rattle.wgsl_rules.specs.Types as types
use Rattle.wgsl_rules.specs.Values.{Val, number, type_of}
use Rattle.wgsl_rules.specs.Refusals.{Outcome, and_then, binary, shl_overflow, shr_overflow}
use Rattle.wgsl_rules.specs.declared.syntax.ShaderStage.{ShaderStage}
use Rattle.wgsl_rules.specs.declared.syntax.ShaderStage.TheVariants as stages
use Rattle.wgsl_rules.specs.declared.syntax.BinaryOperator.{BinaryOperator}
use Rattle.wgsl_rules.specs.declared.syntax.BinaryOperator.TheVariants as between
use Rattle.wgsl_scalar.specs.Literals.{Number, number_of, kind_of}
use Rattle.wgsl_rules.specs.Converted.{converted}
use Rattle.wgsl_scalar.specs.Operands.{ok_or}
use Rattle.wgsl_scalar.specs.declared.kind.Kind.{Kind as CodeKind}

-- a number, and how many places it is shifted
pub record Shift : Type 0 where
  pub kind : Kind
  pub value : ℤ
  pub places : ℕ

abbrev pub count_of : Val → ℕ
count_of (number k z) = unsigned_abs z
count_of v = 0

-- how many places: the value as a u32, where it converts
abbrev pub places_of : Val → Option ℕ
places_of w = counted (converted w types.u32)
  where
    counted : Option Val → Option ℕ
    counted None = None
    counted (Some c) = Some (count_of c)

abbrev pub shift_of : Option Number → Option ℕ → Option Shift
shift_of (Some n) (Some r) = Some (record { kind = n.kind; value = n.value; places = r })
shift_of n r = None

abbrev pub shift_operands : BinaryOperator → Val → Val → Outcome Shift
shift_operands op v w = ok_or (binary op (type_of v) (type_of w)) (shift_of (number_of v) (places_of w))

-- ---- to the left

-- a number that leaves its kind is refused, but wraps while the shader runs
abbrev pub shifted_out : ShaderStage → Kind → ℤ → ℕ → Outcome Val
shifted_out stages.Exec k a r = Ok (number k (wrap k (a *ℤ pos (2 ^ r))))
shifted_out stage k a r = Err (shl_overflow r (number k a))

-- a * 2 ^ r, where it is a number of the kind
abbrev pub scaled_in : ShaderStage → Kind → ℤ → ℕ → Outcome Val
scaled_in stage k a r = if in_kind k (a *ℤ pos (2 ^ r)) then Ok (number k (a *ℤ pos (2 ^ r))) else shifted_out stage k a r

-- an abstract number is 0 past its width, and another is shifted by the places modulo its width
abbrev pub shifted_left_in : ShaderStage → Kind → ℤ → ℕ → Outcome Val
shifted_left_in stage kinds.abstract_int a r = if nat_lt r 64 then scaled_in stage kinds.abstract_int a r else Ok (number kinds.abstract_int (pos 0))
shifted_left_in stage k a r = scaled_in stage k a (r % width k)

abbrev pub shifted_left : ShaderStage → Val → Val → Outcome Val
shifted_left stage v w = and_then (shift_operands between.ShiftLeft v w) (λ s. shifted_left_in stage s.kind s.value s.places)

-- ---- to the right

-- the number by 2 ^ r, rounded down
abbrev pub floored : Kind → ℤ → ℕ → Val
floored k a r = number k (floor_div a (2 ^ r))

-- so many places or more are refused, but taken modulo the width while the shader runs
abbrev pub shifted_far : ShaderStage → Kind → ℤ → ℕ → Outcome Val
shifted_far stages.Exec k a r = Ok (floored k a (r % width k))
shifted_far stage k a r = Err (shr_overflow r (number k a))

abbrev pub shifted_right_in : ShaderStage → Kind → ℤ → ℕ → Outcome Val
shifted_right_in stage kinds.abstract_int a r = Ok (floored kinds.abstract_int a r)
shifted_right_in stage k a r = if nat_lt r (width k) then Ok (floored k a r) else shifted_far stage k a r

abbrev pub shifted_right : ShaderStage → Val → Val → Outcome Val
shifted_right stage v w = and_then (shift_operands between.ShiftRight v w) (λ s. shifted_right_in stage s.kind s.value s.places)

-- the kind, the number and the places in the code
abbrev pub shift_view : CodeKind × ℤ × ℕ → Shift
shift_view p = record { kind = kind_of p.0; value = p.1; places = p.2 }
