-- Where the standard refuses a function that the library answers.
use Rattle.std.specs.Prelude.{ℕ, ◌+◌, nat_lt, Bool, true, false, not, ◌&&◌, ◌||◌, List, [], ◌∷◌, Option, Some, option_and_then, Ok}
use Rattle.wgsl_apply.specs.Literals.{component_of, natural_of}
use Rattle.wgsl_apply.specs.Standard.{is_runtime}
use Rattle.wgsl_rules.specs.Kinds as kinds
use Rattle.wgsl_rules.specs.Refusals.{Outcome}
use Rattle.wgsl_rules.specs.Values.{Val, truth, number, vector}
use Rattle.wgsl_rules.specs.declared.syntax.ShaderStage.{ShaderStage}
use Rattle.wgsl_scalar.specs.Order.{is_greater}
use Rattle.wgsl_functions.specs.declared.builtin.Builtin.{Builtin}
use Rattle.wgsl_functions.specs.declared.builtin.Builtin.TheVariants as functions
use Rattle.wgsl_functions.specs.declared.builtin.OfOne.{OfOne}
use Rattle.wgsl_functions.specs.declared.builtin.OfOne.TheVariants as ones
use Rattle.wgsl_functions.specs.declared.builtin.OfThree.TheVariants as threes

abbrev pub is_u32 : Option Val → Bool
is_u32 (Some (number kinds.u32 z)) = true
is_u32 v = false

abbrev pub is_abstract : Option Val → Bool
is_abstract (Some (number kinds.abstract_int z)) = true
is_abstract v = false

-- of a u32 there is no sign, and bits are counted of an i32 or a u32 (WGSL: numeric builtin functions)
abbrev pub is_against_one : OfOne → Val → Bool
is_against_one ones.Sign v = is_u32 (component_of v 0)
is_against_one ones.CountLeadingZeros v = is_abstract (component_of v 0)
is_against_one ones.CountOneBits v = is_abstract (component_of v 0)
is_against_one ones.CountTrailingZeros v = is_abstract (component_of v 0)
is_against_one f v = false

abbrev pub is_scalar_or_vector : Val → Bool
is_scalar_or_vector (truth b) = true
is_scalar_or_vector (number k z) = true
is_scalar_or_vector (vector vs) = true
is_scalar_or_vector v = false

abbrev pub holds : Outcome Bool → Bool
holds (Ok b) = b
holds o = false

-- both are there, and the first is greater
abbrev pub is_above : Option Val → Option Val → Bool
is_above (Some v) (Some w) = holds (is_greater v w)
is_above v w = false

abbrev pub is_above_at : Val → Val → ℕ → Bool
is_above_at v w i = is_above (component_of v i) (component_of w i)

-- a component of the first is greater than that of the second
abbrev pub is_any_above : Val → Val → Bool
is_any_above v w = is_above_at v w 0 || (is_above_at v w 1 || (is_above_at v w 2 || is_above_at v w 3))

-- both are there, and their sum is more than 32
abbrev pub is_past_32 : Option ℕ → Option ℕ → Bool
is_past_32 (Some offset) (Some count) = nat_lt 32 (offset + count)
is_past_32 offset count = false

-- a field of bits, from the offset on, of so many, is not inside of 32
abbrev pub is_field_outside : Val → Val → Bool
is_field_outside offset count =
    is_past_32 (option_and_then natural_of (component_of offset 0)) (option_and_then natural_of (component_of count 0))

-- a choice is between scalars or vectors (WGSL: select); in const-expressions and override-expressions low is at most
-- high, and a field lies inside (WGSL: numeric builtin functions, `clamp`, `extractBits`, `insertBits`)
abbrev pub is_against_function : Builtin → ShaderStage → List Val → Bool
is_against_function (functions.One f) stage (e ∷ []) = is_against_one f e
is_against_function (functions.Three threes.Clamp) stage (e ∷ low ∷ high ∷ []) =
    not (is_runtime stage) && is_any_above low high
is_against_function (functions.Three threes.Select) stage (v ∷ w ∷ condition ∷ []) = not (is_scalar_or_vector v)
is_against_function (functions.Three threes.ExtractBits) stage (e ∷ offset ∷ count ∷ []) =
    not (is_runtime stage) && is_field_outside offset count
is_against_function functions.InsertBits stage (e ∷ bits ∷ offset ∷ count ∷ []) =
    not (is_runtime stage) && is_field_outside offset count
is_against_function f stage vs = false
