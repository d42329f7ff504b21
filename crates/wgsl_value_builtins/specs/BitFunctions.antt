-- Fields of bits, the first and the last 1, and bits in reverse (WGSL: numeric builtin functions).
use Rattle.std.specs.Prelude.{unsigned_abs}
use Rattle.wgsl_rules.specs.Refusals.{Outcome, and_then}
use Rattle.wgsl_rules.specs.Values.{Val}
use Rattle.wgsl_scalar.specs.BitFields.{extracted, first_leading, first_trailing, inserted, reversed}
use Rattle.wgsl_value_builtins.specs.Lifts.{on_components, on_both, in_common_type}
use Rattle.wgsl_value_builtins.specs.Packing.{word_in}

-- WGSL: reverseBits
abbrev pub reversed_bits : Val → Outcome Val
reversed_bits v = on_components reversed v

-- WGSL: firstLeadingBit
abbrev pub first_leading_bits : Val → Outcome Val
first_leading_bits v = on_components first_leading v

-- WGSL: firstTrailingBit
abbrev pub first_trailing_bits : Val → Outcome Val
first_trailing_bits v = on_components first_trailing v

-- WGSL: extractBits
abbrev pub extracted_bits : Val → Val → Val → Outcome Val
extracted_bits v offset count =
    and_then (word_in offset) (λ o. and_then (word_in count) (λ c. on_components (extracted (unsigned_abs o) (unsigned_abs c)) v))

-- WGSL: insertBits
abbrev pub inserted_bits : Val → Val → Val → Val → Outcome Val
inserted_bits v w offset count =
    and_then (word_in offset) (λ o. and_then (word_in count) (λ c.
    and_then (in_common_type v w) (λ p. on_both (inserted (unsigned_abs o) (unsigned_abs c)) p.0 p.1)))
