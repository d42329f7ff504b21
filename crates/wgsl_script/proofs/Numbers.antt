-- Numbers and handles of a script, by what std says of parsed text.
use Rattle.std.proofs.Common.{◌≢◌, ◌≤◌, ◌<◌, ◌^◌, ℕ, List, [], ◌∷◌, length, get_or, ap, arith, Result, Ok, Err, None}
use Rattle.std.specs.Option.{SomeIff}
use Rattle.std.specs.Result.{result_ok}
use Rattle.std.specs.Str.Parse.{AllDigits, ParsesUnsigned}
use Rattle.std.specs.Str.Pattern.{FindsCharPrefix}
use Rattle.std.proofs.lemmas.Str.Parse.{IsNumeralModel, numerals_by_value, tells_digits, parse_plain, digits_value_short}
use Rattle.std.proofs.lemmas.Str.Pattern.{strip_prefix_char}
use Rattle.wgsl_script.specs.Words.{IsNumber, number, IsHandle}

own : IsNumeralModel (AllDigits 10) number
own = numerals_by_value _ tells_digits

-- a number of 10 digits fits
fits : (word : List ℕ) → AllDigits 10 word → length word ≤ 10 → number word < 2 ^ 64
fits word digits short = omega (arith, digits_value_short own word 10 digits short)

-- a text without a `+` in front, of no more than 10 digits
pub number_read : {E : Type 0} (word : List ℕ) (r : Result ℕ E) → ParsesUnsigned 64 10 word r → get_or word 0 0 ≢ 43 → length word ≤ 10 → SomeIff (result_ok r) (IsNumber word) (number word)
number_read {E} word (Ok n) h plain short =
    let read = parse_plain own {E = E} 64 word (Ok n) h plain in
    (((read.0.1, read.0.0), short), read.1)
number_read {E} word (Err e) h plain short =
    let unread = parse_plain own {E = E} 64 word (Err e) h plain in
    λ is. unread (is.0.1, is.0.0, fits word is.0.1 short)

-- a text without an `&` in front is no handle
pub no_handle : (word : List ℕ) → FindsCharPrefix 38 word None → ¬ IsHandle word
no_handle [] h is = is
no_handle (c ∷ cs) h is = strip_prefix_char 38 (c ∷ cs) None h (omega arith) cs (ap (λ x. x ∷ cs) is.0)
