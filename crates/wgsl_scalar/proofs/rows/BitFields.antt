-- Worked rows of the builtins on the bits of an i32 or a u32, by computation.
use Rattle.std.proofs.Common.{◌≡◌, ℕ, pos, neg_ℤ, true, Ok, Err, refl}
use Rattle.wgsl_rules.specs.Kinds as kinds
use Rattle.wgsl_rules.specs.Refusals.{builtin}
use Rattle.wgsl_rules.specs.Values.{Val, truth, number}
use Rattle.wgsl_scalar.specs.BitFields.{extracted, inserted, first_leading, first_trailing, reversed}
use Rattle.wgsl_scalar.specs.Bits.{from_bits}
use Rattle.wgsl_scalar.specs.Counts.{bit_length, lowest_place}

abbrev any : ℕ → Val
any n = number kinds.abstract_int (pos n)

abbrev any_minus : ℕ → Val
any_minus n = number kinds.abstract_int (neg_ℤ (pos n))

abbrev int : ℕ → Val
int n = number kinds.i32 (pos n)

abbrev minus : ℕ → Val
minus n = number kinds.i32 (neg_ℤ (pos n))

abbrev word : ℕ → Val
word n = number kinds.u32 (pos n)

abbrev long : ℕ → Val
long n = number kinds.i64 (pos n)

-- ---- extractBits

extract_word : extracted 4 4 (word 240) ≡ Ok (word 15)
unfolding from_bits
extract_word = refl

extract_int : extracted 4 4 (int 240) ≡ Ok (minus 1)
unfolding from_bits
extract_int = refl

extract_past_the_end : extracted 28 10 (word 4294967295) ≡ Ok (word 15)
unfolding from_bits
extract_past_the_end = refl

extract_from_past_the_end : extracted 40 5 (word 1) ≡ Ok (word 0)
unfolding from_bits
extract_from_past_the_end = refl

extract_none_of_negative : extracted 0 0 (minus 1) ≡ Ok (int 0)
unfolding from_bits
extract_none_of_negative = refl

extract_whole : extracted 0 32 (minus 5) ≡ Ok (minus 5)
unfolding from_bits
extract_whole = refl

extract_positive_field : extracted 4 4 (int 112) ≡ Ok (int 7)
unfolding from_bits
extract_positive_field = refl

extract_from_abstract : extracted 4 4 (any 240) ≡ Err builtin
extract_from_abstract = refl

extract_from_long : extracted 4 4 (long 240) ≡ Err builtin
extract_from_long = refl

-- ---- insertBits

insert_word : inserted 3 2 (word 0) (word 5) ≡ Ok (word 8)
unfolding from_bits
insert_word = refl

insert_past_the_end : inserted 4 32 (word 255) (word 0) ≡ Ok (word 15)
unfolding from_bits
insert_past_the_end = refl

insert_sign : inserted 31 1 (int 0) (any_minus 1) ≡ Ok (minus 2147483648)
unfolding from_bits
insert_sign = refl

insert_none : inserted 2 0 (word 7) (word 0) ≡ Ok (word 7)
unfolding from_bits
insert_none = refl

insert_from_past_the_end : inserted 32 4294967295 (word 7) (word 9) ≡ Ok (word 7)
unfolding from_bits
insert_from_past_the_end = refl

insert_mixed : inserted 0 32 (word 7) (int 9) ≡ Err builtin
insert_mixed = refl

insert_abstracts : inserted 0 32 (any 7) (any 9) ≡ Err builtin
insert_abstracts = refl

insert_out_of_range : inserted 0 32 (word 7) (any_minus 9) ≡ Err builtin
insert_out_of_range = refl

-- ---- firstLeadingBit, firstTrailingBit

leading_of_none : first_leading (word 0) ≡ Ok (word 4294967295)
unfolding bit_length
leading_of_none = refl

leading_of_word : first_leading (word 8) ≡ Ok (word 3)
unfolding bit_length
leading_of_word = refl

leading_of_minus_one : first_leading (minus 1) ≡ Ok (minus 1)
unfolding bit_length
leading_of_minus_one = refl

leading_of_minus_two : first_leading (minus 2) ≡ Ok (int 0)
unfolding bit_length
leading_of_minus_two = refl

leading_of_least : first_leading (minus 2147483648) ≡ Ok (int 30)
unfolding bit_length
leading_of_least = refl

leading_of_abstract : first_leading (any 8) ≡ Err builtin
leading_of_abstract = refl

trailing_of_word : first_trailing (word 8) ≡ Ok (word 3)
unfolding lowest_place
trailing_of_word = refl

trailing_of_none : first_trailing (int 0) ≡ Ok (minus 1)
unfolding lowest_place
trailing_of_none = refl

trailing_of_least : first_trailing (minus 2147483648) ≡ Ok (int 31)
unfolding lowest_place
trailing_of_least = refl

trailing_of_long : first_trailing (long 8) ≡ Err builtin
trailing_of_long = refl

-- ---- reverseBits

reverse_word : reversed (word 1) ≡ Ok (word 2147483648)
unfolding from_bits
reverse_word = refl

reverse_int : reversed (int 1) ≡ Ok (minus 2147483648)
unfolding from_bits
reverse_int = refl

reverse_mixed : reversed (word 305419896) ≡ Ok (word 510274632)
unfolding from_bits
reverse_mixed = refl

reverse_bool : reversed (truth true) ≡ Err builtin
reverse_bool = refl
