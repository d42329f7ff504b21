-- The worked answers of builtins on bits, by computation.
use Rattle.std.proofs.Common.{◌≡◌, [], ◌∷◌, Ok, Err, true, refl}
use Rattle.wgsl_rules.specs.Types as types
use Rattle.wgsl_rules.specs.Refusals.{builtin}
use Rattle.wgsl_rules.specs.Values.{truth, deferred}
use Rattle.wgsl_scalar.specs.Bits.{from_bits}
use Rattle.wgsl_scalar.specs.Counts.{bit_length, lowest_place}
use Rattle.wgsl_value_builtins.specs.BitFunctions.{extracted_bits, inserted_bits, first_leading_bits, first_trailing_bits, reversed_bits}
use Rattle.wgsl_value_builtins.proofs.Made.{any, any_minus, int, minus, word, long, vec_of}

-- ---- extractBits

extract_word : extracted_bits (word 240) (word 4) (word 4) ≡ Ok (word 15)
unfolding from_bits
extract_word = refl

extract_int : extracted_bits (int 240) (word 4) (word 4) ≡ Ok (minus 1)
unfolding from_bits
extract_int = refl

extract_past_the_end : extracted_bits (word 4294967295) (word 28) (word 10) ≡ Ok (word 15)
unfolding from_bits
extract_past_the_end = refl

extract_from_past_the_end : extracted_bits (word 1) (word 40) (word 5) ≡ Ok (word 0)
unfolding from_bits
extract_from_past_the_end = refl

extract_none_of_negative : extracted_bits (minus 1) (word 0) (word 0) ≡ Ok (int 0)
unfolding from_bits
extract_none_of_negative = refl

extract_whole : extracted_bits (minus 5) (word 0) (word 32) ≡ Ok (minus 5)
unfolding from_bits
extract_whole = refl

extract_positive_field : extracted_bits (int 112) (word 4) (word 4) ≡ Ok (int 7)
unfolding from_bits
extract_positive_field = refl

extract_from_vector : extracted_bits (vec_of (word 240 ∷ word 256 ∷ [])) (any 4) (any 4) ≡ Ok (vec_of (word 15 ∷ word 0 ∷ []))
unfolding from_bits
extract_from_vector = refl

extract_by_int : extracted_bits (word 240) (int 4) (word 4) ≡ Err builtin
extract_by_int = refl

extract_by_negative : extracted_bits (word 240) (word 4) (any_minus 4) ≡ Err builtin
extract_by_negative = refl

extract_by_deferred : extracted_bits (word 240) (deferred types.u32) (word 4) ≡ Err builtin
extract_by_deferred = refl

extract_from_abstract : extracted_bits (any 240) (word 4) (word 4) ≡ Err builtin
extract_from_abstract = refl

extract_from_long : extracted_bits (long 240) (word 4) (word 4) ≡ Err builtin
extract_from_long = refl

-- ---- insertBits

insert_word : inserted_bits (word 0) (word 5) (word 3) (word 2) ≡ Ok (word 8)
unfolding from_bits
insert_word = refl

insert_past_the_end : inserted_bits (word 255) (word 0) (word 4) (word 32) ≡ Ok (word 15)
unfolding from_bits
insert_past_the_end = refl

insert_sign : inserted_bits (int 0) (any_minus 1) (word 31) (word 1) ≡ Ok (minus 2147483648)
unfolding from_bits
insert_sign = refl

insert_none : inserted_bits (word 7) (word 0) (word 2) (word 0) ≡ Ok (word 7)
unfolding from_bits
insert_none = refl

insert_whole : inserted_bits (word 7) (word 9) (word 0) (word 32) ≡ Ok (word 9)
unfolding from_bits
insert_whole = refl

insert_from_past_the_end : inserted_bits (word 7) (word 9) (word 32) (word 4294967295) ≡ Ok (word 7)
unfolding from_bits
insert_from_past_the_end = refl

insert_mixed : inserted_bits (word 7) (int 9) (word 0) (word 32) ≡ Err builtin
insert_mixed = refl

insert_abstracts : inserted_bits (any 7) (any 9) (word 0) (word 32) ≡ Err builtin
insert_abstracts = refl

insert_out_of_range : inserted_bits (word 7) (any_minus 9) (word 0) (word 32) ≡ Err builtin
insert_out_of_range = refl

insert_vectors : inserted_bits (vec_of (word 0 ∷ word 255 ∷ [])) (vec_of (any 3 ∷ any 0 ∷ [])) (word 1) (word 2) ≡ Ok (vec_of (word 6 ∷ word 249 ∷ []))
unfolding from_bits
insert_vectors = refl

insert_scalar_in_vector : inserted_bits (vec_of (word 0 ∷ word 255 ∷ [])) (word 3) (word 1) (word 2) ≡ Err builtin
insert_scalar_in_vector = refl

-- ---- firstLeadingBit, firstTrailingBit

leading_words : first_leading_bits (vec_of (word 0 ∷ word 8 ∷ word 4294967295 ∷ [])) ≡ Ok (vec_of (word 4294967295 ∷ word 3 ∷ word 31 ∷ []))
unfolding bit_length
leading_words = refl

leading_ints : first_leading_bits (vec_of (minus 1 ∷ minus 2 ∷ minus 2147483648 ∷ int 0 ∷ [])) ≡ Ok (vec_of (minus 1 ∷ int 0 ∷ int 30 ∷ minus 1 ∷ []))
unfolding bit_length
leading_ints = refl

leading_positive : first_leading_bits (int 2147483647) ≡ Ok (int 30)
unfolding bit_length
leading_positive = refl

leading_abstract : first_leading_bits (any 8) ≡ Err builtin
leading_abstract = refl

trailing_word : first_trailing_bits (word 8) ≡ Ok (word 3)
unfolding lowest_place
trailing_word = refl

trailing_ints : first_trailing_bits (vec_of (int 0 ∷ minus 2147483648 ∷ minus 1 ∷ [])) ≡ Ok (vec_of (minus 1 ∷ int 31 ∷ int 0 ∷ []))
unfolding lowest_place
trailing_ints = refl

trailing_zero_word : first_trailing_bits (word 0) ≡ Ok (word 4294967295)
unfolding lowest_place
trailing_zero_word = refl

trailing_long : first_trailing_bits (long 8) ≡ Err builtin
trailing_long = refl

-- ---- reverseBits

reverse_ones : reversed_bits (word 1) ≡ Ok (word 2147483648)
unfolding from_bits
reverse_ones = refl

reverse_int : reversed_bits (int 1) ≡ Ok (minus 2147483648)
unfolding from_bits
reverse_int = refl

reverse_mixed : reversed_bits (vec_of (word 305419896 ∷ word 4294967295 ∷ [])) ≡ Ok (vec_of (word 510274632 ∷ word 4294967295 ∷ []))
unfolding from_bits
reverse_mixed = refl

reverse_abstract : reversed_bits (any 1) ≡ Err builtin
reverse_abstract = refl

reverse_bool : reversed_bits (truth true) ≡ Err builtin
reverse_bool = refl
