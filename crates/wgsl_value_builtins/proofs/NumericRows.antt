-- The worked answers of numeric and logical builtins, by computation.
use Rattle.std.proofs.Common.{◌≡◌, [], ◌∷◌, Ok, Err, true, false, refl}
use Rattle.wgsl_rules.specs.Types as types
use Rattle.wgsl_rules.specs.Refusals.{builtin, binary, add_overflow, mul_overflow}
use Rattle.wgsl_rules.specs.Values.{truth, array_of, matrix, deferred}
use Rattle.wgsl_rules.specs.declared.syntax.ShaderStage.TheVariants as stages
use Rattle.wgsl_rules.specs.declared.syntax.BinaryOperator.TheVariants as between
use Rattle.wgsl_scalar.specs.Counts.{bit_length, bit_count, lowest_place}
use Rattle.wgsl_value_builtins.specs.Logical.{all_hold, any_holds, selected}
use Rattle.wgsl_value_builtins.specs.Numeric.{magnitudes, signs, lesser_of, greater_of, clamped, dotted, transposition, leading_zero_counts, one_bit_counts, trailing_zero_counts}
use Rattle.wgsl_value_builtins.proofs.Made.{any, any_minus, int, minus, word, long, long_minus, long_word, all, vec_of}

-- ---- abs, sign

abs_of_least : magnitudes (vec_of (minus 3 ∷ minus 2147483648 ∷ [])) ≡ Ok (vec_of (int 3 ∷ minus 2147483648 ∷ []))
abs_of_least = refl

abs_of_least_long : magnitudes (long_minus 9223372036854775808) ≡ Ok (long_minus 9223372036854775808)
abs_of_least_long = refl

abs_of_least_abstract : magnitudes (any_minus 9223372036854775808) ≡ Ok (any_minus 9223372036854775808)
abs_of_least_abstract = refl

abs_of_bool : magnitudes (truth true) ≡ Err builtin
abs_of_bool = refl

abs_of_bools : magnitudes (vec_of (truth true ∷ truth false ∷ [])) ≡ Err builtin
abs_of_bools = refl

abs_of_deferred : magnitudes (deferred types.i32) ≡ Err builtin
abs_of_deferred = refl

abs_of_matrix : magnitudes (matrix (all (vec_of (int 1 ∷ int 2 ∷ []) ∷ vec_of (int 1 ∷ int 2 ∷ []) ∷ []))) ≡ Err builtin
abs_of_matrix = refl

signs_of_three : signs (vec_of (minus 7 ∷ int 0 ∷ int 7 ∷ [])) ≡ Ok (vec_of (minus 1 ∷ int 0 ∷ int 1 ∷ []))
signs_of_three = refl

sign_of_word : signs (word 4294967295) ≡ Ok (word 1)
sign_of_word = refl

-- ---- min, max, clamp

min_of_longs : lesser_of (long_minus 1) (long 1) ≡ Ok (long_minus 1)
min_of_longs = refl

max_of_long_words : greater_of (long_word 18446744073709551615) (long_word 1) ≡ Ok (long_word 18446744073709551615)
max_of_long_words = refl

min_takes_the_common_type : lesser_of (any 3) (word 4) ≡ Ok (word 3)
min_takes_the_common_type = refl

min_out_of_range : lesser_of (any 4294967295) (int 1) ≡ Err builtin
min_out_of_range = refl

min_of_vector_and_scalar : lesser_of (vec_of (int 1 ∷ int 2 ∷ [])) (int 1) ≡ Err builtin
min_of_vector_and_scalar = refl

min_of_unequal_counts : lesser_of (vec_of (int 1 ∷ int 2 ∷ [])) (vec_of (int 1 ∷ int 2 ∷ int 3 ∷ [])) ≡ Err builtin
min_of_unequal_counts = refl

min_of_bools : lesser_of (truth true) (truth false) ≡ Err builtin
min_of_bools = refl

max_of_vectors : greater_of (vec_of (any 1 ∷ any 5 ∷ [])) (vec_of (minus 3 ∷ int 7 ∷ [])) ≡ Ok (vec_of (int 1 ∷ int 7 ∷ []))
max_of_vectors = refl

clamp_of_abstract : clamped (any 300) (int 0) (int 255) ≡ Ok (int 255)
clamp_of_abstract = refl

-- low above high: high is answered
clamp_of_crossed : clamped (int 5) (int 9) (int 3) ≡ Ok (int 3)
clamp_of_crossed = refl

clamp_from_the_left : clamped (any 1) (any 2) (word 9) ≡ Ok (word 2)
clamp_from_the_left = refl

clamp_of_mixed : clamped (any 1) (int 2) (word 9) ≡ Err builtin
clamp_of_mixed = refl

clamp_out_of_range : clamped (any_minus 1) (any 0) (word 9) ≡ Err builtin
clamp_out_of_range = refl

clamp_of_vectors : clamped (vec_of (any_minus 5 ∷ any 50 ∷ [])) (vec_of (int 0 ∷ int 0 ∷ [])) (vec_of (int 9 ∷ int 9 ∷ [])) ≡ Ok (vec_of (int 0 ∷ int 9 ∷ []))
clamp_of_vectors = refl

-- ---- dot

dot_of_ints : dotted stages.Const (vec_of (int 3 ∷ int 4 ∷ [])) (vec_of (int 5 ∷ int 6 ∷ [])) ≡ Ok (int 39)
dot_of_ints = refl

dot_wraps : dotted stages.Const (vec_of (int 65536 ∷ int 1 ∷ [])) (vec_of (int 65536 ∷ int 7 ∷ [])) ≡ Ok (int 7)
dot_wraps = refl

dot_of_abstract_and_word : dotted stages.Const (vec_of (any 3 ∷ any 4 ∷ [])) (vec_of (word 5 ∷ word 6 ∷ [])) ≡ Ok (word 39)
dot_of_abstract_and_word = refl

dot_of_bools : dotted stages.Const (vec_of (truth true ∷ truth true ∷ [])) (vec_of (truth true ∷ truth false ∷ [])) ≡ Err (binary between.Multiplication types.bool types.bool)
dot_of_bools = refl

dot_of_unequal_counts : dotted stages.Const (vec_of (int 1 ∷ int 2 ∷ [])) (vec_of (int 1 ∷ int 2 ∷ int 3 ∷ [])) ≡ Err builtin
dot_of_unequal_counts = refl

-- all products come before the sums: the third overflows, and so does the sum of the first two
dot_products_first : dotted stages.Const (vec_of (any 9223372036854775807 ∷ any 1 ∷ any 9223372036854775807 ∷ [])) (vec_of (any 1 ∷ any 1 ∷ any 2 ∷ [])) ≡ Err mul_overflow
dot_products_first = refl

-- sums go from the left: the last would bring the sum back into range
dot_sums_from_the_left : dotted stages.Const (vec_of (any 9223372036854775807 ∷ any 1 ∷ any_minus 1 ∷ [])) (vec_of (any 1 ∷ any 1 ∷ any 1 ∷ [])) ≡ Err add_overflow
dot_sums_from_the_left = refl

dot_of_scalars : dotted stages.Const (int 3) (int 4) ≡ Err builtin
dot_of_scalars = refl

-- ---- transpose

columns : transposition (matrix (all (vec_of (word 1 ∷ word 2 ∷ word 3 ∷ []) ∷ vec_of (word 4 ∷ word 5 ∷ word 6 ∷ []) ∷ [])))
    ≡ Ok (matrix (all (vec_of (word 1 ∷ word 4 ∷ []) ∷ vec_of (word 2 ∷ word 5 ∷ []) ∷ vec_of (word 3 ∷ word 6 ∷ []) ∷ [])))
columns = refl

transpose_of_vector : transposition (vec_of (word 1 ∷ word 2 ∷ [])) ≡ Err builtin
transpose_of_vector = refl

-- ---- counts

leading_of_abstract : leading_zero_counts (any 1) ≡ Ok (any 63)
unfolding bit_length
leading_of_abstract = refl

leading_of_zero : leading_zero_counts (word 0) ≡ Ok (word 32)
unfolding bit_length
leading_of_zero = refl

leading_of_minus : leading_zero_counts (minus 1) ≡ Ok (int 0)
unfolding bit_length
leading_of_minus = refl

trailing_of_zero : trailing_zero_counts (word 0) ≡ Ok (word 32)
unfolding lowest_place
trailing_of_zero = refl

trailing_of_least_long : trailing_zero_counts (long_minus 9223372036854775808) ≡ Ok (long 63)
unfolding lowest_place
trailing_of_least_long = refl

ones_of_minus : one_bit_counts (minus 1) ≡ Ok (int 32)
unfolding bit_count
ones_of_minus = refl

ones_of_vector : one_bit_counts (vec_of (word 255 ∷ word 4294967295 ∷ [])) ≡ Ok (vec_of (word 8 ∷ word 32 ∷ []))
unfolding bit_count
ones_of_vector = refl

ones_of_bool : one_bit_counts (truth true) ≡ Err builtin
ones_of_bool = refl

-- ---- all, any, select

all_of_mixed : all_hold (vec_of (truth true ∷ truth false ∷ [])) ≡ Ok (truth false)
all_of_mixed = refl

all_of_true : all_hold (vec_of (truth true ∷ truth true ∷ truth true ∷ [])) ≡ Ok (truth true)
all_of_true = refl

any_of_mixed : any_holds (vec_of (truth false ∷ truth true ∷ truth false ∷ [])) ≡ Ok (truth true)
any_of_mixed = refl

any_of_false : any_holds (vec_of (truth false ∷ truth false ∷ [])) ≡ Ok (truth false)
any_of_false = refl

all_of_bool : all_hold (truth false) ≡ Ok (truth false)
all_of_bool = refl

any_of_numbers : any_holds (vec_of (word 1 ∷ word 0 ∷ [])) ≡ Err builtin
any_of_numbers = refl

any_of_deferred : any_holds (deferred types.bool) ≡ Err builtin
any_of_deferred = refl

select_false : selected (any 1) (word 2) (truth false) ≡ Ok (word 1)
select_false = refl

select_true : selected (any 1) (word 2) (truth true) ≡ Ok (word 2)
select_true = refl

select_by_component : selected (vec_of (int 1 ∷ int 2 ∷ [])) (vec_of (int 3 ∷ int 4 ∷ [])) (vec_of (truth true ∷ truth false ∷ [])) ≡ Ok (vec_of (int 3 ∷ int 2 ∷ []))
select_by_component = refl

select_of_bools : selected (truth false) (truth true) (truth true) ≡ Ok (truth true)
select_of_bools = refl

select_of_unequal_counts : selected (vec_of (int 1 ∷ int 2 ∷ [])) (vec_of (int 3 ∷ int 4 ∷ [])) (vec_of (truth true ∷ truth false ∷ truth true ∷ [])) ≡ Err builtin
select_of_unequal_counts = refl

select_of_scalars_by_vector : selected (int 1) (int 3) (vec_of (truth true ∷ truth false ∷ [])) ≡ Err builtin
select_of_scalars_by_vector = refl

select_out_of_range : selected (any 4294967296) (word 2) (truth true) ≡ Err builtin
select_out_of_range = refl

select_of_deferred : selected (deferred types.i32) (int 2) (truth true) ≡ Err builtin
select_of_deferred = refl

select_of_arrays : selected (array_of false (all (any 1 ∷ []))) (array_of false (all (int 2 ∷ []))) (truth false) ≡ Ok (array_of false (all (int 1 ∷ [])))
select_of_arrays = refl

select_by_number : selected (int 1) (int 2) (int 1) ≡ Err builtin
select_by_number = refl
