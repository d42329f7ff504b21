-- What a numeric literal stands for (WGSL: numeric literals).
use Rattle.std.specs.Prelude.{◌≡◌, ℕ, ◌^◌, ◌<◌, ◌⊎◌, pos, Bool, true, false, ◌&&◌, ◌||◌, ◌==◌, nat_lt, Option, Some, None, List, [], ◌∷◌, ◌++◌, codes, if◌then◌else◌, length, slice_index, SomeIff, MatchBool}
use Rattle.std.specs.Char.{digit_value}
use Rattle.std.specs.List.{list_any}
use Rattle.std.specs.Str.Parse.{IsNumeral, digits_value, without_leading_plus}
use Rattle.wgsl_rules.specs.Kinds as kinds
use Rattle.wgsl_rules.specs.Kinds.{Kind, in_kind}
use Rattle.wgsl_rules.specs.Values.{Val, number}
use Rattle.wgsl_scalar.specs.Literals.{literal_of}
use Rattle.wgsl_scalar.specs.declared.literal.LiteralInstance.{LiteralInstance}
use Rattle.wgsl_source.specs.declared.literal.Literal.{Literal}
use Rattle.wgsl_source.specs.declared.literal.Literal.TheVariants as literals
use Rattle.wgsl_source.specs.declared.literal.Suffix.{Suffix}
use Rattle.wgsl_source.specs.declared.literal.Suffix.TheVariants as suffixes

-- ---- the suffix

abbrev pub suffix_text : Suffix → List ℕ
suffix_text suffixes.None = codes ""
suffix_text suffixes.I32 = codes "i"
suffix_text suffixes.U32 = codes "u"
suffix_text suffixes.I64 = codes "li"
suffix_text suffixes.U64 = codes "lu"

abbrev pub suffix_kind : Suffix → Kind
suffix_kind suffixes.None = kinds.abstract_int
suffix_kind suffixes.I32 = kinds.i32
suffix_kind suffixes.U32 = kinds.u32
suffix_kind suffixes.I64 = kinds.i64
suffix_kind suffixes.U64 = kinds.u64

-- the number in the kind of the suffix, where it is one of it
abbrev pub number_in : Suffix → ℕ → Option Val
number_in s n = if in_kind (suffix_kind s) (pos n) then Some (number (suffix_kind s) (pos n)) else None

-- ---- the digits

-- the number that these digits write, if it is below 2 ^ 64
abbrev pub Reads : ℕ → List ℕ → Option ℕ → Type 0
Reads base digits r =
    SomeIff r (IsNumeral base (without_leading_plus digits) × (digits_value base (without_leading_plus digits) < 2 ^ 64)) (digits_value base (without_leading_plus digits))

-- a decimal number of more digits than one begins with 0
abbrev pub has_leading_zero : List ℕ → Bool
has_leading_zero digits = nat_lt 1 (length digits) && (slice_index digits 0 == 48)

abbrev pub ReadsDecimal : List ℕ → Option ℕ → Type 0
ReadsDecimal digits r = MatchBool (has_leading_zero digits) (r ≡ None) (Reads 10 digits r)

-- these digits come behind `0x` or `0X`
abbrev pub IsHexadecimal : List ℕ → List ℕ → Type 0
IsHexadecimal text digits = (text ≡ codes "0x" ++ digits) ⊎ (text ≡ codes "0X" ++ digits)

-- the number that the text writes without a suffix, if it is below 2 ^ 64
pub record ReadsNumeral (text : List ℕ) (r : Option ℕ) : Type 0 where
  pub hexadecimal : (digits : List ℕ) → IsHexadecimal text digits → Reads 16 digits r
  pub decimal : ((digits : List ℕ) → ¬ IsHexadecimal text digits) → ReadsDecimal text r

-- ---- an integer

-- a digit of some base is the last byte
abbrev pub EndsInDigit : List ℕ → Type 0
EndsInDigit digits = (front : List ℕ) × (b : ℕ) × (digits ≡ front ++ (b ∷ [])) × (digit_value b < 16)

-- the text is a numeral of n and the suffix
pub record Writes (text digits : List ℕ) (suffix : Suffix) (n : ℕ) : Type 0 where
  pub parts : text ≡ digits ++ suffix_text suffix
  pub number : ReadsNumeral digits (Some n)

-- an integer is the number that digits write, in the kind of the suffix behind them
abbrev pub MeansInteger : List ℕ → LiteralInstance → Type 0
MeansInteger text x =
    (digits : List ℕ) × (suffix : Suffix) × (n : ℕ) × Writes text digits suffix n × (number_in suffix n ≡ Some (literal_of x))

-- ---- floats

abbrev pub has_byte : List ℕ → ℕ → Bool
has_byte text byte = list_any (λ b. b == byte) text

-- `0x` or `0X` stand in front
abbrev pub begins_hexadecimal : List ℕ → Bool
begins_hexadecimal [] = false
begins_hexadecimal (x ∷ []) = false
begins_hexadecimal (x ∷ y ∷ rest) = x == 48 && (y == 120 || y == 88)

-- the exponent or the suffix of a decimal number
abbrev pub is_decimal_float_text : List ℕ → Bool
is_decimal_float_text text = (has_byte text 101 || has_byte text 69) || (has_byte text 102 || has_byte text 104)

-- a point, an exponent (`p`, where the number is hexadecimal, else `e`) or a suffix (`f`, `h`) makes a number one of floats
abbrev pub is_float_text : List ℕ → Bool
is_float_text text =
    has_byte text 46
    || (if begins_hexadecimal text then has_byte text 112 || has_byte text 80 else is_decimal_float_text text)

-- ---- all literals

-- what the text of a numeric literal stands for
abbrev pub Means : List ℕ → Literal → Type 0
Means text (literals.Integer x) = (is_float_text text ≡ false) × MeansInteger text x
Means text literals.Float = is_float_text text ≡ true
Means text literals.Wrong = (is_float_text text ≡ false) × ((x : LiteralInstance) → ¬ MeansInteger text x)
