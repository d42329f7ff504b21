-- Which refusals are of numbers, and not of types.
use Rattle.std.specs.Prelude.{Bool, true, false, Option, Some, None, is_some, if◌then◌else◌}
use Rattle.wgsl_rules.specs.Conversion.{common_type}
use Rattle.wgsl_rules.specs.Refusals.{Refusal, out_of_bounds, conv_overflow, binary, add_overflow, sub_overflow, mul_overflow, div_by_zero, rem_zero_div, shl_overflow, shr_overflow, builtin}
use Rattle.wgsl_rules.specs.Same.{same}
use Rattle.wgsl_rules.specs.Types.{Ty}
use Rattle.wgsl_scalar.specs.declared.builtin.BuiltinReason.{BuiltinReason}
use Rattle.wgsl_scalar.specs.declared.builtin.BuiltinReason.TheVariants.{OutOfRange}

abbrev pub is_of_range : Option BuiltinReason → Bool
is_of_range (Some OutOfRange) = true
is_of_range reason = false

-- the type of two operands of which one has no number in it
abbrev pub unequal_common_type : Ty → Ty → Option Ty
unequal_common_type s t = if same s t then None else common_type s t

-- numbers that are out of range, and indices. Operands of two types that have a common one are refused for a
-- number that is none of it; a builtin function for its reason
abbrev pub is_of_numbers : Option Refusal → Option BuiltinReason → Bool
is_of_numbers (Some add_overflow) reason = true
is_of_numbers (Some sub_overflow) reason = true
is_of_numbers (Some mul_overflow) reason = true
is_of_numbers (Some div_by_zero) reason = true
is_of_numbers (Some rem_zero_div) reason = true
is_of_numbers (Some (shl_overflow n v)) reason = true
is_of_numbers (Some (shr_overflow n v)) reason = true
is_of_numbers (Some (conv_overflow v t)) reason = true
is_of_numbers (Some (out_of_bounds i t n)) reason = true
is_of_numbers (Some (binary op s t)) reason = is_some (unequal_common_type s t)
is_of_numbers (Some builtin) reason = is_of_range reason
is_of_numbers r reason = false
