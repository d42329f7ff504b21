-- Why there is no value: what needs floats, and what calls of builtin functions need.
use Rattle.std.specs.Prelude.{Bool, true, false, ◌||◌}
use Rattle.wgsl_functions.specs.declared.builtin.Builtin.{Builtin}
use Rattle.wgsl_functions.specs.declared.builtin.Builtin.TheVariants as functions
use Rattle.wgsl_rules.specs.Types as types
use Rattle.wgsl_rules.specs.Types.{Ty, Fields, no_fields, field}
use Rattle.wgsl_scalar.specs.declared.literal.LiteralInstance.{LiteralInstance}
use Rattle.wgsl_scalar.specs.declared.literal.LiteralInstance.TheVariants as literals
use Rattle.wgsl_eval.specs.declared.answer.Need.{Need}
use Rattle.wgsl_eval.specs.declared.answer.Need.TheVariants as needs

-- whether floats are in a value of the type
abbrev mutual
  pub has_floats : Ty → Bool
  has_floats types.f32 = true
  has_floats types.f16 = true
  has_floats types.f64 = true
  has_floats types.abstract_float = true
  has_floats (types.vec n t) = has_floats t
  has_floats (types.mat c r t) = has_floats t
  has_floats (types.array t n) = has_floats t
  has_floats (types.atomic t) = has_floats t
  has_floats (types.struct n fs) = have_floats fs
  has_floats t = false

  pub have_floats : Fields → Bool
  have_floats no_fields = false
  have_floats (field n t s a fs) = has_floats t || have_floats fs

-- what a call of a function needs that is none of integers
abbrev pub need_of : Builtin → Need
need_of functions.Float = needs.Float
need_of f = needs.Runtime

-- integers of 64 bits, which WGSL does not have
abbrev pub is_wide : LiteralInstance → Bool
is_wide (literals.I64 n) = true
is_wide (literals.U64 n) = true
is_wide l = false
