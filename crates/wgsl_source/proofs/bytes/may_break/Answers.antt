use Rattle.std.proofs.Common.{rules, ◌≡◌, ℕ, ◌+◌, ◌%◌, ◌<◌, slice_index, slice_index_or, bit_and, bit_or, arith}
use Rattle.std.proofs.lemmas.Bool.{not-false, eqb-true}
use Rattle.std.proofs.lemmas.List.{get_or_default}
use Rattle.wgsl_source.proofs.Words.{number_of, repeated, numbers, IsDifference, difference_of, low_from_mask, low_parts, passed, no_break}
use Rattle.wgsl_source.proofs.bytes.may_break.Goals as goal

pub returns : goal.returns
returns c = λ none k d within.
    let word = c.from_le_bytes-word.result in
    let byte : ℕ → ℕ = slice_index c.args.bytes in
    let difference : ℕ = (word + 17433981653976478194) % 18446744073709551616 in
    let is : word ≡ number_of byte 8 = omega arith in
    let small : (i : ℕ) → byte i < 256 = search rules in
    let mask : bit_and (bit_or difference word) 9259542123273814144 ≡ 0 = eqb-true _ _ (not-false _ none) in
    let low = low_parts 8 difference word (low_from_mask 8 (bit_or difference word) mask) in
    let less : IsDifference (numbers 8) (number_of byte 8) (repeated 14 8) difference = difference_of (number_of byte 8) difference (omega arith) (omega arith) in
    let range = passed 8 byte difference small less low.0 (rw (← is) low.1) k (omega arith) in
    let read : slice_index_or c.args.bytes k d ≡ byte k = get_or_default c.args.bytes k d 0 within in
    rw read (no_break (byte k) range.0 range.1)
