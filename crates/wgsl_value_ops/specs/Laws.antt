-- Laws of the operators on vectors and on any two values.
use Rattle.std.specs.Prelude.{◌≡◌, Option, Some, None, Ok}
use Rattle.wgsl_rules.specs.Conversion.{common_type}
use Rattle.wgsl_rules.specs.Refusals.{Outcome}
use Rattle.wgsl_rules.specs.Types as types
use Rattle.wgsl_rules.specs.Types.{Ty}
use Rattle.wgsl_rules.specs.Values.{Val, Vals, count, type_of, IsLiteral, IsStorable}
use Rattle.wgsl_rules.specs.declared.syntax.ShaderStage.{ShaderStage}
use Rattle.wgsl_rules.specs.declared.syntax.UnaryOperator.{UnaryOperator}
use Rattle.wgsl_rules.specs.declared.syntax.BinaryOperator.{BinaryOperator}
use Rattle.wgsl_rules.specs.declared.syntax.BinaryOperator.TheVariants as between
use Rattle.wgsl_value_ops.specs.Instances.{of_two}
use Rattle.wgsl_value_ops.specs.Lift.{lifted, lifted2}
use Rattle.wgsl_value_ops.specs.Literals.{of_literal, of_literals}
use Rattle.wgsl_value_ops.specs.Vectors.{of_scalar_before, of_vector_scalar}

abbrev pub type_or_bool : Option Ty → Ty
type_or_bool (Some t) = t
type_or_bool None = types.bool

-- the type of what an operator gives for two literals of these types: a truth value of a comparison, the
-- left type of a shift, and else the common type
abbrev pub answer_type : BinaryOperator → Ty → Ty → Ty
answer_type between.ShortCircuitOr s t = types.bool
answer_type between.ShortCircuitAnd s t = types.bool
answer_type between.Equality s t = types.bool
answer_type between.Inequality s t = types.bool
answer_type between.LessThan s t = types.bool
answer_type between.LessThanEqual s t = types.bool
answer_type between.GreaterThan s t = types.bool
answer_type between.GreaterThanEqual s t = types.bool
answer_type between.ShiftLeft s t = s
answer_type between.ShiftRight s t = s
answer_type op s t = type_or_bool (common_type s t)

-- what an operator gives for two literals depends in its type on their types alone
abbrev pub AnswersHaveTheType : Type 0
AnswersHaveTheType = (op : BinaryOperator) (stage : ShaderStage) (v w x : Val) → of_literals op stage v w ≡ Ok x → type_of x ≡ answer_type op (type_of v) (type_of w)

-- what an operator gives for two literals may be stored
abbrev pub AnswersAreStorable : Type 0
AnswersAreStorable = (op : BinaryOperator) (stage : ShaderStage) (v w x : Val) → IsStorable v → of_literals op stage v w ≡ Ok x → IsStorable x

-- of one literal the type stays
abbrev pub AnswersKeepTheType : Type 0
AnswersKeepTheType = (op : UnaryOperator) (v x : Val) → of_literal op v ≡ Ok x → type_of x ≡ type_of v

-- what is lifted has as many values as the operand
abbrev pub LiftedKeepsTheCount : Type 0
LiftedKeepsTheCount = (f : Val → Outcome Val) (vs ws : Vals) → lifted f vs ≡ Ok ws → count ws ≡ count vs

abbrev pub Lifted2KeepsTheCount : Type 0
Lifted2KeepsTheCount = (f : Val → Val → Outcome Val) (vs ws us : Vals) → count vs ≡ count ws → lifted2 f vs ws ≡ Ok us → count us ≡ count vs

-- an operator on two literals is the operator on literals
abbrev pub LiteralsAreJoinedAsLiterals : Type 0
LiteralsAreJoinedAsLiterals = (op : BinaryOperator) (stage : ShaderStage) (v w : Val) → IsLiteral v → IsLiteral w → of_two op stage v w ≡ of_literals op stage v w

-- a sum and a product of a scalar and a vector are those of the vector and the scalar
pub record SumsAndProductsSwap (stage : ShaderStage) (s v : Val) : Type 0 where
  pub sums : of_scalar_before between.Addition stage s v ≡ of_vector_scalar between.Addition stage v s
  pub products : of_scalar_before between.Multiplication stage s v ≡ of_vector_scalar between.Multiplication stage v s
