-- Where the standard refuses an operator that the library answers.
use Rattle.std.specs.Prelude.{ℕ, nat_le, Bool, true, false, not, ◌&&◌, ◌||◌, Option, Some, option_and_then}
use Rattle.wgsl_rules.specs.Kinds as kinds
use Rattle.wgsl_rules.specs.Kinds.{width}
use Rattle.wgsl_rules.specs.Values.{Val, truth, number}
use Rattle.wgsl_rules.specs.declared.syntax.ShaderStage.{ShaderStage}
use Rattle.wgsl_rules.specs.declared.syntax.ShaderStage.TheVariants as stages
use Rattle.wgsl_rules.specs.declared.syntax.BinaryOperator.{BinaryOperator}
use Rattle.wgsl_rules.specs.declared.syntax.BinaryOperator.TheVariants as between
use Rattle.wgsl_scalar.specs.Arith.{is_zero}
use Rattle.wgsl_apply.specs.Literals.{component_of, natural_of}

abbrev pub is_runtime : ShaderStage → Bool
is_runtime stages.Exec = true
is_runtime stage = false

abbrev pub is_truth : Option Val → Bool
is_truth (Some (truth b)) = true
is_truth v = false

-- the number has not more bits than places; an abstract 0 may be shifted by any
abbrev pub has_not_more_bits : Val → ℕ → Bool
has_not_more_bits (number kinds.abstract_int z) places = nat_le 64 places && not (is_zero z)
has_not_more_bits (number k z) places = nat_le (width k) places
has_not_more_bits v places = false

abbrev pub is_past_width : Option Val → Option ℕ → Bool
is_past_width (Some v) (Some places) = has_not_more_bits v places
is_past_width v places = false

-- one of the components is shifted by its width or more
abbrev pub is_past_width_at : Val → Val → ℕ → Bool
is_past_width_at v w i = is_past_width (component_of v i) (option_and_then natural_of (component_of w i))

abbrev pub shifts_past_width : Val → Val → Bool
shifts_past_width v w = is_past_width_at v w 0 || (is_past_width_at v w 1 || (is_past_width_at v w 2 || is_past_width_at v w 3))

-- bools have no order (WGSL: comparison expressions), and in const-expressions and override-expressions a
-- number is shifted left by less than its width (WGSL: bit expressions)
abbrev pub is_against : BinaryOperator → ShaderStage → Val → Val → Bool
is_against between.LessThan stage v w = is_truth (component_of v 0)
is_against between.LessThanEqual stage v w = is_truth (component_of v 0)
is_against between.GreaterThan stage v w = is_truth (component_of v 0)
is_against between.GreaterThanEqual stage v w = is_truth (component_of v 0)
is_against between.ShiftLeft stage v w = not (is_runtime stage) && shifts_past_width v w
is_against op stage v w = false
