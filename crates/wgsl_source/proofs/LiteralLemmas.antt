-- What the text of a literal means.
use Rattle.std.proofs.Common.{◌≡◌, ℕ, Bool, true, false, cond, ◌||◌, inl, inr, Option, Some, None, MatchBool, SomeIff, option_and_then, List, [], ◌∷◌, ◌++◌, refl, ◌∙◌, ap, sym, subst, arith}
use Rattle.wgsl_scalar.specs.Literals.{literal_of}
use Rattle.wgsl_scalar.specs.declared.literal.LiteralInstance.{LiteralInstance}
use Rattle.wgsl_source.specs.Numbers.{suffix_text, number_in, has_byte, EndsInDigit, IsHexadecimal, begins_hexadecimal, is_decimal_float_text, is_float_text, has_leading_zero, Reads, ReadsDecimal, ReadsNumeral, Writes, MeansInteger}
use Rattle.wgsl_source.specs.declared.literal.Suffix.{Suffix}
use Rattle.wgsl_source.proofs.Suffixes.{is_hexadecimal, no_hexadecimal, reads_ends, ends_behind}

-- ---- a number of floats

pub is_float_text-hexadecimal : (text digits : List ℕ) → IsHexadecimal text digits → is_float_text text ≡ (has_byte text 46 || (has_byte digits 112 || has_byte digits 80))
is_float_text-hexadecimal text digits (inl p) = ap is_float_text p ∙ ap (λ t. has_byte t 46 || (has_byte digits 112 || has_byte digits 80)) (sym p)
is_float_text-hexadecimal text digits (inr p) = ap is_float_text p ∙ ap (λ t. has_byte t 46 || (has_byte digits 112 || has_byte digits 80)) (sym p)

pub begins_as_decimal : (text : List ℕ) (b : Bool) → begins_hexadecimal text ≡ b → ((digits : List ℕ) → ¬ IsHexadecimal text digits) → begins_hexadecimal text ≡ false
begins_as_decimal text true e none = absurd (none (is_hexadecimal text e).0 (is_hexadecimal text e).1)
begins_as_decimal text false e none = e

pub is_float_text-decimal : (text : List ℕ) → ((digits : List ℕ) → ¬ IsHexadecimal text digits) → is_float_text text ≡ (has_byte text 46 || is_decimal_float_text text)
is_float_text-decimal text none =
    ap (λ b. has_byte text 46 || cond b (has_byte text 112 || has_byte text 80) (is_decimal_float_text text))
    (begins_as_decimal text (begins_hexadecimal text) refl none)

-- ---- a numeral is of one number

pub SomeIff-one : (P : Type 0) (r s : Option ℕ) (v : ℕ) → SomeIff r P v → SomeIff s P v → r ≡ s
SomeIff-one P None None v f g = refl
SomeIff-one P None (Some y) v f g = absurd (f g.0)
SomeIff-one P (Some x) None v f g = absurd (g f.0)
SomeIff-one P (Some x) (Some y) v f g = ap Some (f.1 ∙ sym g.1)

pub ReadsDecimal-one : (text : List ℕ) (r s : Option ℕ) → ReadsDecimal text r → ReadsDecimal text s → r ≡ s
ReadsDecimal-one text r s f g = decimal (has_leading_zero text) f g
  where
    decimal : (b : Bool) → MatchBool b (r ≡ None) (Reads 10 text r) → MatchBool b (s ≡ None) (Reads 10 text s) → r ≡ s
    decimal true f g = f ∙ sym g
    decimal false f g = SomeIff-one _ r s _ f g

pub ReadsNumeral-one : (text : List ℕ) (b : Bool) → begins_hexadecimal text ≡ b → (r s : Option ℕ) → ReadsNumeral text r → ReadsNumeral text s → r ≡ s
ReadsNumeral-one text true e r s f g =
    let h = is_hexadecimal text e in
    SomeIff-one _ r s _ (f.hexadecimal h.0 h.1) (g.hexadecimal h.0 h.1)
ReadsNumeral-one text false e r s f g =
    let none = no_hexadecimal text e in
    ReadsDecimal-one text r s (f.decimal none) (g.decimal none)

-- ---- it ends in a digit

pub decimal_ends : (text : List ℕ) (n : ℕ) (b : Bool) → MatchBool b (Some n ≡ None) (Reads 10 text (Some n)) → EndsInDigit text
decimal_ends text n true h = absurd cc
decimal_ends text n false h = reads_ends 10 n text (omega arith) h

pub hexadecimal_ends : (text digits : List ℕ) → IsHexadecimal text digits → EndsInDigit digits → EndsInDigit text
hexadecimal_ends text digits (inl p) ends = subst EndsInDigit (sym p) (ends_behind (48 ∷ 120 ∷ []) digits ends)
hexadecimal_ends text digits (inr p) ends = subst EndsInDigit (sym p) (ends_behind (48 ∷ 88 ∷ []) digits ends)

pub numeral_has_end : (text : List ℕ) (n : ℕ) (b : Bool) → begins_hexadecimal text ≡ b → ReadsNumeral text (Some n) → EndsInDigit text
numeral_has_end text n true e h =
    let x = is_hexadecimal text e in hexadecimal_ends text x.0 x.1 (reads_ends 16 n x.0 (omega arith) (h.hexadecimal x.0 x.1))
numeral_has_end text n false e h = decimal_ends text n (has_leading_zero text) (h.decimal (no_hexadecimal text e))

-- ---- no integer

-- where the only numeral of the text is no number of the kind of its suffix
pub no_integer : (text digits : List ℕ) (suffix : Suffix) (r : Option ℕ) → ((ds : List ℕ) (s : Suffix) → EndsInDigit ds → text ≡ ds ++ suffix_text s → (suffix ≡ s) × (digits ≡ ds)) → ReadsNumeral digits r → ((n : ℕ) → r ≡ Some n → number_in suffix n ≡ None) → (x : LiteralInstance) → ¬ MeansInteger text x
no_integer text digits suffix r only reads none x means =
    let w : Writes text means.0 means.1 means.2 = means.3 in
    let ends = numeral_has_end means.0 means.2 (begins_hexadecimal means.0) refl w.number in
    let same = only means.0 means.1 ends w.parts in
    let P : List ℕ → Type 0 = λ ds. ReadsNumeral ds (Some means.2) in
    let number : ReadsNumeral digits (Some means.2) = subst P (sym same.1) w.number in
    let e : r ≡ Some means.2 = ReadsNumeral-one digits (begins_hexadecimal digits) refl r (Some means.2) reads number in
    let n : number_in suffix means.2 ≡ None = none means.2 e in
    let m : number_in suffix means.2 ≡ Some (literal_of x) = ap (λ s. number_in s means.2) same.0 ∙ means.4 in
    cc (sym n ∙ m)

-- where it is one
pub is_integer : (text digits : List ℕ) (suffix : Suffix) (r : Option ℕ) (x : LiteralInstance) → text ≡ digits ++ suffix_text suffix → ReadsNumeral digits r → option_and_then (number_in suffix) r ≡ Some (literal_of x) → MeansInteger text x
is_integer text digits suffix None x parts reads e = absurd cc
is_integer text digits suffix (Some n) x parts reads e = (digits, suffix, n, record { parts = parts; number = reads }, e)
