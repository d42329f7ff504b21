-- Worked rows of the operators, by computation.
use Rattle.std.proofs.Common.{◌≡◌, pos, negsuc, true, false, Some, None, Ok, Err, refl}
use Rattle.wgsl_rules.specs.Refusals.{unary, binary, compwise_binary, add_overflow, mul_overflow, div_by_zero, rem_zero_div, shl_overflow}
use Rattle.wgsl_rules.specs.Types as types
use Rattle.wgsl_rules.specs.Types.{mat, array, atomic}
use Rattle.wgsl_rules.specs.Values.{array_of, atomic_of, deferred, no_vals, val}
use Rattle.wgsl_rules.specs.declared.syntax.ShaderStage.TheVariants as stages
use Rattle.wgsl_rules.specs.declared.syntax.UnaryOperator.TheVariants as before
use Rattle.wgsl_rules.specs.declared.syntax.BinaryOperator.TheVariants as between
use Rattle.wgsl_scalar.specs.Bits.{from_bits}
use Rattle.wgsl_value_ops.specs.Instances.{of_two, of_one}
use Rattle.wgsl_value_ops.specs.Vectors.{of_vector_scalar, of_scalar_before, dot_product}
use Rattle.wgsl_value_ops.proofs.Made.{n, i, u, b, vec2, vec3, mat2, vec2_of, vec3_of}

-- ---- two vectors

unequal_counts_of_bits : of_two between.BitwiseOr stages.Const (vec2 (u 1) (u 2)) (vec3 (u 1) (u 2) (u 3)) ≡ Err (compwise_binary (vec2_of types.u32) (vec3_of types.u32))
unequal_counts_of_bits = refl

unequal_counts_of_sums : of_two between.Addition stages.Const (vec2 (u 1) (u 2)) (vec3 (u 1) (u 2) (u 3)) ≡ Err (binary between.Addition (vec2_of types.u32) (vec3_of types.u32))
unequal_counts_of_sums = refl

unequal_counts_the_other_way : of_two between.Addition stages.Const (vec3 (u 1) (u 2) (u 3)) (vec2 (u 1) (u 2)) ≡ Err (binary between.Addition (vec3_of types.u32) (vec2_of types.u32))
unequal_counts_the_other_way = refl

unequal_counts_of_shifts : of_two between.ShiftRight stages.Exec (vec3 (i (pos 1)) (i (pos 2)) (i (pos 3))) (vec2 (u 1) (u 2)) ≡ Err (compwise_binary (vec3_of types.i32) (vec2_of types.u32))
unequal_counts_of_shifts = refl

unequal_counts_of_comparisons : of_two between.Equality stages.Exec (vec3 (i (pos 1)) (i (pos 2)) (i (pos 3))) (vec2 (i (pos 1)) (i (pos 2))) ≡ Err (binary between.Equality (vec3_of types.i32) (vec2_of types.i32))
unequal_counts_of_comparisons = refl

abstract_with_typed : of_two between.Addition stages.Const (vec2 (n (pos 1)) (n (pos 2))) (vec2 (u 3) (u 4)) ≡ Ok (vec2 (u 4) (u 6))
abstract_with_typed = refl

-- a component that does not fit the common type: the types of the vectors
abstract_out_of_range : of_two between.Addition stages.Const (vec2 (n (pos 1)) (n (pos 4294967295))) (vec2 (i (pos 3)) (i (pos 4))) ≡ Err (binary between.Addition (vec2_of types.abstract_int) (vec2_of types.i32))
abstract_out_of_range = refl

-- of a bit expression each component is converted by itself: the types of the components
abstract_bits_out_of_range : of_two between.BitwiseAnd stages.Const (vec2 (n (pos 1)) (n (pos 4294967295))) (vec2 (i (pos 3)) (i (pos 4))) ≡ Err (binary between.BitwiseAnd types.abstract_int types.i32)
abstract_bits_out_of_range = refl

abstract_bits : of_two between.BitwiseXor stages.Const (vec2 (n (pos 1)) (n (pos 2))) (vec2 (i (pos 3)) (i (pos 4))) ≡ Ok (vec2 (i (pos 2)) (i (pos 6)))
unfolding from_bits
abstract_bits = refl

two_kinds : of_two between.Multiplication stages.Const (vec2 (i (pos 1)) (i (pos 2))) (vec2 (u 3) (u 4)) ≡ Err (binary between.Multiplication (vec2_of types.i32) (vec2_of types.u32))
two_kinds = refl

two_kinds_of_bits : of_two between.BitwiseOr stages.Const (vec2 (i (pos 1)) (i (pos 2))) (vec2 (u 3) (u 4)) ≡ Err (binary between.BitwiseOr types.i32 types.u32)
two_kinds_of_bits = refl

-- the vectors convert, so the operator on literals words the refusal
sum_of_bools : of_two between.Addition stages.Const (vec2 (b true) (b false)) (vec2 (b true) (b true)) ≡ Err (binary between.Addition types.bool types.bool)
sum_of_bools = refl

bits_of_bools : of_two between.BitwiseAnd stages.Const (vec2 (b true) (b false)) (vec2 (b true) (b true)) ≡ Ok (vec2 (b true) (b false))
bits_of_bools = refl

xor_of_bools : of_two between.BitwiseXor stages.Const (vec2 (b true) (b false)) (vec2 (b true) (b true)) ≡ Err (binary between.BitwiseXor types.bool types.bool)
xor_of_bools = refl

-- the first refusal in the order of the components
first_refusal : of_two between.Addition stages.Exec (vec2 (n (pos 9223372036854775807)) (n (pos 1))) (vec2 (n (pos 1)) (n (pos 1))) ≡ Err add_overflow
first_refusal = refl

first_of_two_refusals : of_two between.ShiftLeft stages.Const (vec2 (i (pos 2)) (i (pos 3))) (vec2 (u 31) (u 31)) ≡ Err (shl_overflow 31 (i (pos 2)))
first_of_two_refusals = refl

division_by_a_vector : of_two between.Division stages.Const (vec2 (i (pos 7)) (i (pos 8))) (vec2 (i (pos 2)) (i (pos 0))) ≡ Err div_by_zero
division_by_a_vector = refl

division_by_a_vector_in_a_shader : of_two between.Division stages.Exec (vec2 (n (pos 7)) (n (pos 8))) (vec2 (i (pos 2)) (i (pos 0))) ≡ Ok (vec2 (i (pos 3)) (i (pos 8)))
division_by_a_vector_in_a_shader = refl

remainder_by_a_vector : of_two between.Remainder stages.Override (vec2 (i (pos 7)) (i (pos 8))) (vec2 (i (pos 2)) (i (pos 0))) ≡ Ok (vec2 (i (pos 1)) (i (pos 0)))
remainder_by_a_vector = refl

remainder_by_a_vector_const : of_two between.Remainder stages.Const (vec2 (i (pos 7)) (i (pos 8))) (vec2 (i (pos 2)) (i (pos 0))) ≡ Err rem_zero_div
remainder_by_a_vector_const = refl

-- ---- comparisons

less : of_two between.LessThan stages.Const (vec2 (u 1) (u 2)) (vec2 (u 2) (u 2)) ≡ Ok (vec2 (b true) (b false))
less = refl

at_most : of_two between.LessThanEqual stages.Const (vec2 (u 1) (u 3)) (vec2 (u 1) (u 2)) ≡ Ok (vec2 (b true) (b false))
at_most = refl

greater : of_two between.GreaterThan stages.Const (vec2 (u 1) (u 3)) (vec2 (u 1) (u 2)) ≡ Ok (vec2 (b false) (b true))
greater = refl

at_least : of_two between.GreaterThanEqual stages.Const (vec2 (u 1) (u 1)) (vec2 (u 1) (u 2)) ≡ Ok (vec2 (b true) (b false))
at_least = refl

equal_in_common : of_two between.Equality stages.Const (vec2 (n (pos 1)) (n (pos 2))) (vec2 (u 1) (u 3)) ≡ Ok (vec2 (b true) (b false))
equal_in_common = refl

unequal_bools : of_two between.Inequality stages.Const (vec2 (b true) (b false)) (vec2 (b false) (b false)) ≡ Ok (vec2 (b true) (b false))
unequal_bools = refl

equal_literals : of_two between.Equality stages.Exec (i (pos 1)) (n (pos 1)) ≡ Ok (b true)
equal_literals = refl

compared_with_a_scalar : of_two between.LessThan stages.Const (vec2 (u 1) (u 2)) (u 2) ≡ Err (binary between.LessThan (vec2_of types.u32) types.u32)
compared_with_a_scalar = refl

-- ---- shifts

shifted : of_two between.ShiftLeft stages.Const (vec2 (i (pos 1)) (i (negsuc 0))) (vec2 (u 1) (u 31)) ≡ Ok (vec2 (i (pos 2)) (i (negsuc 2147483647)))
shifted = refl

shifted_out_of_range : of_two between.ShiftLeft stages.Const (vec2 (i (pos 1)) (i (pos 2))) (vec2 (u 0) (u 31)) ≡ Err (shl_overflow 31 (i (pos 2)))
shifted_out_of_range = refl

shifted_by_a_scalar : of_two between.ShiftLeft stages.Const (vec2 (i (pos 1)) (i (pos 2))) (u 1) ≡ Err (binary between.ShiftLeft (vec2_of types.i32) types.u32)
shifted_by_a_scalar = refl

-- the counts are no u32: the types of the first two components
shifted_by_signed : of_two between.ShiftRight stages.Const (vec2 (i (pos 1)) (i (pos 2))) (vec2 (i (pos 1)) (i (pos 1))) ≡ Err (binary between.ShiftRight types.i32 types.i32)
shifted_by_signed = refl

-- a deferred u32 has the type of a count, and is none
shifted_by_deferred : of_two between.ShiftLeft stages.Const (i (pos 1)) (deferred types.u32) ≡ Err (binary between.ShiftLeft types.i32 types.u32)
shifted_by_deferred = refl

-- a shift takes its own stage
shifted_far_in_a_shader : of_two between.ShiftRight stages.Exec (vec2 (u 8) (u 8)) (vec2 (u 1) (u 32)) ≡ Ok (vec2 (u 4) (u 8))
shifted_far_in_a_shader = refl

-- ---- a vector and a scalar

sum_with_a_scalar : of_vector_scalar between.Addition stages.Const (vec2 (n (pos 1)) (n (pos 2))) (u 3) ≡ Ok (vec2 (u 4) (u 5))
sum_with_a_scalar = refl

-- the types of a sum in a refusal are those of the vector and the scalar, of a difference as given
sum_of_a_scalar_refused : of_scalar_before between.Addition stages.Const (u 2) (vec2 (i (pos 1)) (i (pos 2))) ≡ Err (binary between.Addition (vec2_of types.i32) types.u32)
sum_of_a_scalar_refused = refl

product_of_a_scalar_refused : of_scalar_before between.Multiplication stages.Const (u 2) (vec2 (i (pos 1)) (i (pos 2))) ≡ Err (binary between.Multiplication (vec2_of types.i32) types.u32)
product_of_a_scalar_refused = refl

difference_of_a_scalar_refused : of_scalar_before between.Subtraction stages.Const (u 2) (vec2 (i (pos 1)) (i (pos 2))) ≡ Err (binary between.Subtraction types.u32 (vec2_of types.i32))
difference_of_a_scalar_refused = refl

quotient_of_a_scalar_refused : of_scalar_before between.Division stages.Exec (u 2) (vec2 (i (pos 1)) (i (pos 2))) ≡ Err (binary between.Division types.u32 (vec2_of types.i32))
quotient_of_a_scalar_refused = refl

remainder_of_a_scalar_refused : of_scalar_before between.Remainder stages.Exec (u 2) (vec2 (i (pos 1)) (i (pos 2))) ≡ Err (binary between.Remainder types.u32 (vec2_of types.i32))
remainder_of_a_scalar_refused = refl

quotient_with_a_scalar_refused : of_vector_scalar between.Division stages.Exec (vec2 (i (pos 7)) (i (pos 8))) (u 2) ≡ Err (binary between.Division (vec2_of types.i32) types.u32)
quotient_with_a_scalar_refused = refl

difference_with_a_scalar : of_vector_scalar between.Subtraction stages.Const (vec2 (i (pos 5)) (i (pos 7))) (n (pos 2)) ≡ Ok (vec2 (i (pos 3)) (i (pos 5)))
difference_with_a_scalar = refl

difference_of_a_scalar : of_scalar_before between.Subtraction stages.Const (n (pos 2)) (vec2 (i (pos 5)) (i (pos 7))) ≡ Ok (vec2 (i (negsuc 2)) (i (negsuc 4)))
difference_of_a_scalar = refl

quotient_of_a_scalar : of_scalar_before between.Division stages.Const (n (pos 20)) (vec2 (i (pos 5)) (i (pos 7))) ≡ Ok (vec2 (i (pos 4)) (i (pos 2)))
quotient_of_a_scalar = refl

-- both convert as wholes first: a later component that does not fit is refused with the vector's type
inner_out_of_range : of_vector_scalar between.Addition stages.Const (vec2 (n (pos 1)) (n (pos 4294967295))) (i (pos 1)) ≡ Err (binary between.Addition (vec2_of types.abstract_int) types.i32)
inner_out_of_range = refl

scalar_out_of_range : of_scalar_before between.Addition stages.Const (n (pos 4294967295)) (vec2 (i (pos 1)) (i (pos 2))) ≡ Err (binary between.Addition (vec2_of types.i32) types.abstract_int)
scalar_out_of_range = refl

bools_with_a_bool : of_vector_scalar between.Addition stages.Const (vec2 (b true) (b false)) (b true) ≡ Err (binary between.Addition types.bool types.bool)
bools_with_a_bool = refl

-- ---- of any two values

values_sum : of_two between.Addition stages.Const (vec2 (n (pos 1)) (n (pos 2))) (u 3) ≡ Ok (vec2 (u 4) (u 5))
values_sum = refl

values_sum_before : of_two between.Addition stages.Const (u 2) (vec2 (i (pos 1)) (i (pos 2))) ≡ Err (binary between.Addition (vec2_of types.i32) types.u32)
values_sum_before = refl

values_difference_before : of_two between.Subtraction stages.Const (u 2) (vec2 (i (pos 1)) (i (pos 2))) ≡ Err (binary between.Subtraction types.u32 (vec2_of types.i32))
values_difference_before = refl

values_quotient : of_two between.Division stages.Exec (vec2 (i (pos 7)) (i (pos 8))) (u 2) ≡ Err (binary between.Division types.i32 types.u32)
values_quotient = refl

values_quotient_before : of_two between.Division stages.Exec (u 2) (vec2 (i (pos 7)) (i (pos 8))) ≡ Err (binary between.Division types.u32 types.i32)
values_quotient_before = refl

values_remainder : of_two between.Remainder stages.Exec (vec2 (i (pos 7)) (i (pos 8))) (u 2) ≡ Err (binary between.Remainder types.i32 types.u32)
values_remainder = refl

abstract_quotients : of_two between.Division stages.Const (vec2 (n (pos 7)) (n (pos 7))) (i (pos 2)) ≡ Ok (vec2 (i (pos 3)) (i (pos 3)))
abstract_quotients = refl

quotients_by_zero_in_a_shader : of_two between.Division stages.Exec (vec2 (n (pos 7)) (n (pos 7))) (i (pos 0)) ≡ Ok (vec2 (i (pos 7)) (i (pos 7)))
quotients_by_zero_in_a_shader = refl

quotients_by_zero : of_two between.Division stages.Override (vec2 (n (pos 7)) (n (pos 7))) (i (pos 0)) ≡ Err div_by_zero
quotients_by_zero = refl

-- a component is converted where its turn comes: the one before it is refused first
quotient_before_conversion : of_two between.Division stages.Const (vec2 (n (pos 1)) (n (pos 4294967295))) (i (pos 0)) ≡ Err div_by_zero
quotient_before_conversion = refl

quotient_out_of_range : of_two between.Division stages.Const (vec2 (n (pos 1)) (n (pos 4294967295))) (i (pos 1)) ≡ Err (binary between.Division types.abstract_int types.i32)
quotient_out_of_range = refl

matrices : of_two between.Addition stages.Const (mat2 (vec2 (u 1) (u 2)) (vec2 (u 3) (u 4))) (mat2 (vec2 (u 1) (u 2)) (vec2 (u 3) (u 4))) ≡ Err (binary between.Addition (mat 2 2 types.u32) (mat 2 2 types.u32))
matrices = refl

matrix_by_a_scalar : of_two between.Multiplication stages.Const (mat2 (vec2 (u 1) (u 2)) (vec2 (u 3) (u 4))) (u 2) ≡ Err (binary between.Multiplication (mat 2 2 types.u32) types.u32)
matrix_by_a_scalar = refl

vector_by_a_matrix : of_two between.Multiplication stages.Const (vec2 (u 1) (u 2)) (mat2 (vec2 (u 1) (u 2)) (vec2 (u 3) (u 4))) ≡ Err (binary between.Multiplication (vec2_of types.u32) (mat 2 2 types.u32))
vector_by_a_matrix = refl

atomics : of_two between.Equality stages.Const (atomic_of (i (pos 1))) (atomic_of (i (pos 1))) ≡ Err (binary between.Equality (atomic types.i32) (atomic types.i32))
atomics = refl

arrays : of_two between.Equality stages.Const (array_of true (val (i (pos 1)) no_vals)) (array_of false (val (i (pos 1)) no_vals)) ≡ Err (binary between.Equality (array types.i32 None) (array types.i32 (Some 1)))
arrays = refl

deferred_vector : of_two between.Addition stages.Const (vec2 (u 1) (u 2)) (deferred (vec2_of types.u32)) ≡ Err (binary between.Addition (vec2_of types.u32) (vec2_of types.u32))
deferred_vector = refl

-- ---- `||` and `&&`

both_true : of_two between.ShortCircuitAnd stages.Const (b true) (b false) ≡ Ok (b false)
both_true = refl

either_true : of_two between.ShortCircuitOr stages.Const (b true) (b false) ≡ Ok (b true)
either_true = refl

either_of_numbers : of_two between.ShortCircuitOr stages.Const (i (pos 1)) (b false) ≡ Err (binary between.ShortCircuitOr types.i32 types.bool)
either_of_numbers = refl

both_of_vectors : of_two between.ShortCircuitAnd stages.Const (vec2 (b true) (b true)) (vec2 (b true) (b true)) ≡ Err (binary between.ShortCircuitAnd (vec2_of types.bool) (vec2_of types.bool))
both_of_vectors = refl

both_of_a_scalar_and_a_vector : of_two between.ShortCircuitAnd stages.Const (b true) (vec2 (b true) (b true)) ≡ Err (binary between.ShortCircuitAnd types.bool (vec2_of types.bool))
both_of_a_scalar_and_a_vector = refl

-- ---- one value

negated : of_one before.Negation (vec2 (i (pos 1)) (i (negsuc 2147483647))) ≡ Ok (vec2 (i (negsuc 0)) (i (negsuc 2147483647)))
negated = refl

negated_unsigned : of_one before.Negation (vec2 (u 1) (u 2)) ≡ Err (unary before.Negation types.u32)
negated_unsigned = refl

not_each : of_one before.LogicalNegation (vec2 (b true) (b false)) ≡ Ok (vec2 (b false) (b true))
not_each = refl

not_of_numbers : of_one before.LogicalNegation (vec2 (i (pos 1)) (i (pos 2))) ≡ Err (unary before.LogicalNegation types.i32)
not_of_numbers = refl

turned : of_one before.BitwiseComplement (vec2 (u 0) (u 4294967295)) ≡ Ok (vec2 (u 4294967295) (u 0))
turned = refl

turned_bool : of_one before.BitwiseComplement (b true) ≡ Err (unary before.BitwiseComplement types.bool)
turned_bool = refl

negated_matrix : of_one before.Negation (mat2 (vec2 (i (pos 1)) (i (pos 2))) (vec2 (i (pos 3)) (i (pos 4)))) ≡ Err (unary before.Negation (mat 2 2 types.i32))
negated_matrix = refl

negated_deferred : of_one before.Negation (deferred types.i32) ≡ Err (unary before.Negation types.i32)
negated_deferred = refl

-- ---- dot products

dot_of_two : dot_product stages.Const (vec2 (i (pos 3)) (i (pos 4))) (vec2 (i (pos 5)) (i (pos 6))) ≡ Ok (i (pos 39))
dot_of_two = refl

dot_wraps : dot_product stages.Const (vec2 (u 4294967295) (u 1)) (vec2 (u 1) (u 2)) ≡ Ok (u 1)
dot_wraps = refl

dot_of_unequal_counts : dot_product stages.Const (vec2 (i (pos 3)) (i (pos 4))) (vec3 (i (pos 5)) (i (pos 6)) (i (pos 7))) ≡ Err (compwise_binary (vec2_of types.i32) (vec3_of types.i32))
dot_of_unequal_counts = refl

dot_of_bools : dot_product stages.Const (vec2 (b true) (b true)) (vec2 (b true) (b true)) ≡ Err (binary between.Multiplication types.bool types.bool)
dot_of_bools = refl

-- the products come first, even where the sum of the first ones is out of range
dot_products_first : dot_product stages.Exec (vec3 (n (pos 9223372036854775807)) (n (pos 1)) (n (pos 9223372036854775807))) (vec3 (n (pos 1)) (n (pos 1)) (n (pos 2))) ≡ Err mul_overflow
dot_products_first = refl

-- from the left: the sum of the first two is out of range, though the sum of all is not
dot_from_the_left : dot_product stages.Exec (vec3 (n (pos 9223372036854775807)) (n (pos 1)) (n (negsuc 0))) (vec3 (n (pos 1)) (n (pos 1)) (n (pos 1))) ≡ Err add_overflow
dot_from_the_left = refl

-- each product by itself: an abstract vector with a typed one
dot_of_abstract : dot_product stages.Const (vec2 (n (pos 3)) (n (pos 4))) (vec2 (u 5) (u 6)) ≡ Ok (u 39)
dot_of_abstract = refl
