-- Blank text.
use lib.Utf8.{encode}
use Rattle.std.proofs.Common.{◌≡◌, ℕ, ◌+◌, ◌<◌, ◌≤◌, nat_eq, Bool, true, false, not, List, [], ◌∷◌, ◌++◌, Contains, length, take, drop, zero, suc, refl, subst, sym, ◌∙◌, ap, encode_utf8, inl, inr, get_or, append_assoc, ◌-◌, ◌||◌, length-drop, drop-cons, add-one, ◌⊎◌, arith}
use Rattle.std.proofs.lemmas.Bool.{cases_lt}
use Rattle.std.proofs.lemmas.Bool.Decides.{Decides-eqb}
use Rattle.std.proofs.lemmas.Grind.{common_steps}
use Rattle.std.proofs.lemmas.List.{take-append-drop, drop-drop}
use Rattle.std.proofs.lemmas.Slice.Eq.{starts_is}
use Rattle.std.specs.Char.{is_ascii_alphanumeric}
use Rattle.std.specs.List.{starts_with}
use Rattle.wgsl_source.specs.Blanks.{blanks, IsBlank, IsCharacter, IsHashLine, IsLineComment, IsBlockComment, Line, Comment, begins_line_break, begins_with_one, HasNoBlank, has_no_mark}
use Rattle.wgsl_source.specs.Blanks.Line.{ends, breaks, goes_on}
use Rattle.wgsl_source.specs.Blanks.Comment.{closes, inner, passes}
use Rattle.wgsl_source.specs.Bytes.{class_of, may_begin_line_break, may_begin_blank, wide_blanks}
use Rattle.wgsl_source.specs.declared.bytes.Class.{Class}
use Rattle.wgsl_source.specs.declared.bytes.Class.TheVariants.{Letter, Digit, Lead, Symbol, Blank, Break}

-- a character that begins a text
pub begun : (text needle : List ℕ) (r : Bool) → r ≡ starts_with nat_eq text needle → r ≡ true → text ≡ needle ++ drop (length needle) text
begun text needle r is found = (starts_is Decides-eqb text needle r is).0 found

-- no line break
pub no_break_begins : (byte : ℕ) (rest : List ℕ) → may_begin_line_break byte ≡ false → begins_line_break (byte ∷ rest) ≡ false
unfolding encode
no_break_begins byte rest none = grind (arith, common_steps)

pub neither_class : (byte : ℕ) (class : Class) → class ≡ class_of byte → (class ≡ Lead → ⊥) → (class ≡ Break → ⊥) → false ≡ may_begin_line_break byte
unfolding encode
neither_class byte class is not_lead not_break = grind (arith, common_steps)

-- bytes that begin no line break
pub passed_bytes : (bytes rest behind : List ℕ) → ((k d : ℕ) → k < length bytes → may_begin_line_break (get_or bytes k d) ≡ false) → Line rest behind → Line (bytes ++ rest) behind
passed_bytes [] rest behind none line = line
passed_bytes (b ∷ bs) rest behind none line =
    goes_on (no_break_begins b (bs ++ rest) (none 0 0 (omega arith))) (passed_bytes bs rest behind (λ k d h. none (suc k) d (omega arith)) line)

-- so many comments, one behind the other
abbrev pub Comments : ℕ → List ℕ → List ℕ → Type 0
Comments zero text behind = Comment text behind
Comments (suc n) text behind = (middle : List ℕ) × Comment text middle × Comments n middle behind

pub comment_begins : (n : ℕ) (text behind : List ℕ) → Comments (suc n) text behind → Comments n (47 ∷ 42 ∷ text) behind
comment_begins zero text behind (middle, first, rest) = inner first rest
comment_begins (suc n) text behind (middle, first, (next, second, rest)) = (next, inner first second, rest)

pub comment_ends : (n : ℕ) (text behind : List ℕ) → Comments n text behind → Comments (suc n) (42 ∷ 47 ∷ text) behind
comment_ends n text behind rest = (text, closes, rest)

pub comment_goes_on : (n byte : ℕ) (text behind : List ℕ) → has_no_mark (byte ∷ text) ≡ true → Comments n text behind → Comments n (byte ∷ text) behind
comment_goes_on zero byte text behind none rest = passes none rest
comment_goes_on (suc n) byte text behind none (middle, first, rest) = (middle, passes none first, rest)

-- ---- what is behind is the end of the text

pub line_suffix : {text behind : List ℕ} → Line text behind → (front : List ℕ) × (text ≡ front ++ behind)
line_suffix ends = ([], refl)
line_suffix (breaks b) = ([], refl)
line_suffix (goes_on {byte = byte} none line) = let s = line_suffix line in (byte ∷ s.0, ap (λ t. byte ∷ t) s.1)

pub comment_suffix : {text behind : List ℕ} → Comment text behind → (front : List ℕ) × (text ≡ front ++ behind)
comment_suffix closes = (42 ∷ 47 ∷ [], refl)
comment_suffix (inner {text = text} {middle = middle} {behind = behind} first rest) =
    let s = comment_suffix first in
    let t = comment_suffix rest in
    (47 ∷ 42 ∷ (s.0 ++ t.0), ap (λ u. 47 ∷ 42 ∷ u) (s.1 ∙ ap (λ u. s.0 ++ u) t.1 ∙ sym (append_assoc s.0 t.0 behind)))
comment_suffix (passes {byte = byte} none rest) = let s = comment_suffix rest in (byte ∷ s.0, ap (λ t. byte ∷ t) s.1)

pub drop_front : (front behind : List ℕ) → drop (length (front ++ behind) - length behind) (front ++ behind) ≡ behind
drop_front front behind =
    let l : length (front ++ behind) ≡ length front + length behind = grind (arith, common_steps) in
    let n : length (front ++ behind) - length behind ≡ length front = omega (arith, l) in
    ap (λ k. drop k (front ++ behind)) n ∙ grind (arith, common_steps)

-- ---- steps of the loops, over what is left

pub line_breaks_here : (left : List ℕ) (b : Bool) → b ≡ begins_line_break left → b ≡ true → Line left left
line_breaks_here left b is found = breaks (sym is ∙ found)

pub line_ends_here : (left : List ℕ) → length left ≤ 0 → Line left left
line_ends_here [] h = ends
line_ends_here (x ∷ xs) h = absurd (omega arith)

pub line_goes_on : (left behind : List ℕ) (b : Bool) → 0 < length left → b ≡ begins_line_break left → b ≡ false → Line (drop 1 left) behind → Line left behind
line_goes_on [] behind b some is none rest = absurd (omega arith)
line_goes_on (x ∷ xs) behind b some is none rest = goes_on (sym is ∙ none) rest

pub comment_opens_here : (n : ℕ) (left behind : List ℕ) (b : Bool) → b ≡ starts_with nat_eq left (47 ∷ 42 ∷ []) → b ≡ true → Comments (suc n) (drop 2 left) behind → Comments n left behind
comment_opens_here n left behind b is found rest =
    let P : List ℕ → Type 0 = λ text. Comments n text behind in
    subst P (sym (begun left (47 ∷ 42 ∷ []) b is found)) (comment_begins n (drop 2 left) behind rest)

pub comment_closes_here : (n : ℕ) (left behind : List ℕ) (b : Bool) → b ≡ starts_with nat_eq left (42 ∷ 47 ∷ []) → b ≡ true → Comments n (drop 2 left) behind → Comments (suc n) left behind
comment_closes_here n left behind b is found rest =
    let P : List ℕ → Type 0 = λ text. Comments (suc n) text behind in
    subst P (sym (begun left (42 ∷ 47 ∷ []) b is found)) (comment_ends n (drop 2 left) behind rest)

pub comment_closed : (left : List ℕ) (b : Bool) → b ≡ starts_with nat_eq left (42 ∷ 47 ∷ []) → b ≡ true → Comments 0 left (drop 2 left)
comment_closed left b is found =
    let P : List ℕ → Type 0 = λ text. Comment text (drop 2 left) in
    subst P (sym (begun left (42 ∷ 47 ∷ []) b is found)) closes

no_mark : (a b : Bool) → a ≡ false → b ≡ false → not (a || b) ≡ true
no_mark a b p q = grind (arith, common_steps)

pub comment_passes : (n : ℕ) (left behind : List ℕ) (a b : Bool) → 0 < length left → a ≡ starts_with nat_eq left (47 ∷ 42 ∷ []) → a ≡ false → b ≡ starts_with nat_eq left (42 ∷ 47 ∷ []) → b ≡ false → Comments n (drop 1 left) behind → Comments n left behind
comment_passes n [] behind a b some is_a no_a is_b no_b rest = absurd (omega arith)
comment_passes n (x ∷ xs) behind a b some is_a no_a is_b no_b rest =
    comment_goes_on n x xs behind (no_mark _ _ (sym is_a ∙ no_a) (sym is_b ∙ no_b)) rest

no_mark_begins : (byte : ℕ) (text : List ℕ) → (byte ≡ 47 → ⊥) → (byte ≡ 42 → ⊥) → has_no_mark (byte ∷ text) ≡ true
no_mark_begins byte text no_slash no_star = grind (arith, common_steps)

pub comment_passes_other : (n : ℕ) (left behind : List ℕ) → 0 < length left → ¬ ((get_or left 0 0 ≡ 47) ⊎ (get_or left 0 0 ≡ 42)) → Comments n (drop 1 left) behind → Comments n left behind
comment_passes_other n [] behind some other rest = absurd (omega arith)
comment_passes_other n (x ∷ xs) behind some other rest = comment_goes_on n x xs behind (no_mark_begins x xs (λ e. other (inl e)) (λ e. other (inr e))) rest

pub no_break_at : (text : List ℕ) (b : Bool) → 0 < length text → b ≡ may_begin_line_break (get_or text 0 0) → b ≡ false → false ≡ begins_line_break text
no_break_at [] b some is none = absurd (omega arith)
no_break_at (x ∷ xs) b some is none = sym (no_break_begins x xs (sym is ∙ none))

-- ---- where a comment ends

suffix_end : (bytes front left : List ℕ) (place : ℕ) → drop place bytes ≡ front ++ left → place ≤ length bytes → (length left ≤ length bytes - place) × (drop (length bytes - length left) bytes ≡ left)
suffix_end bytes front left place is within =
    let all : bytes ≡ (take place bytes ++ front) ++ left = sym (take-append-drop place bytes) ∙ ap (λ t. take place bytes ++ t) is ∙ sym (append_assoc (take place bytes) front left) in
    let P : List ℕ → Type 0 = λ t. drop (length t - length left) t ≡ left in
    let l : length bytes - place ≡ length (front ++ left) = sym (length-drop place bytes) ∙ ap length is in
    let m : length (front ++ left) ≡ length front + length left = grind (arith, common_steps) in
    (omega (arith, l, m), subst P (sym all) (drop_front (take place bytes ++ front) left))

drop_two : (bytes : List ℕ) (start : ℕ) → drop 2 (drop start bytes) ≡ drop (start + 2) bytes
drop_two bytes start = drop-drop 2 start bytes

pub line_comment : (bytes left : List ℕ) (start : ℕ) → starts_with nat_eq (drop start bytes) (47 ∷ 47 ∷ []) ≡ true → Line (drop (start + 2) bytes) left → start + 2 ≤ length bytes → (length left ≤ length bytes - (start + 2)) × IsLineComment (drop start bytes) (drop (length bytes - length left) bytes)
line_comment bytes left start begins line within =
    let s = line_suffix line in
    let e = suffix_end bytes s.0 left (start + 2) s.1 within in
    let P : List ℕ → Type 0 = λ b. Line (drop (start + 2) bytes) b in
    let text = begun (drop start bytes) (47 ∷ 47 ∷ []) (starts_with nat_eq (drop start bytes) (47 ∷ 47 ∷ [])) refl begins in
    (e.0, (drop (start + 2) bytes, text ∙ ap (λ t. 47 ∷ 47 ∷ t) (drop_two bytes start), subst P (sym e.1) line))

pub block_comment : (bytes left : List ℕ) (start : ℕ) → starts_with nat_eq (drop start bytes) (47 ∷ 42 ∷ []) ≡ true → Comment (drop (start + 2) bytes) left → start + 2 ≤ length bytes → (length left ≤ length bytes - (start + 2)) × IsBlockComment (drop start bytes) (drop (length bytes - length left) bytes)
block_comment bytes left start begins comment within =
    let s = comment_suffix comment in
    let e = suffix_end bytes s.0 left (start + 2) s.1 within in
    let P : List ℕ → Type 0 = λ b. Comment (drop (start + 2) bytes) b in
    let text = begun (drop start bytes) (47 ∷ 42 ∷ []) (starts_with nat_eq (drop start bytes) (47 ∷ 42 ∷ [])) refl begins in
    (e.0, (drop (start + 2) bytes, text ∙ ap (λ t. 47 ∷ 42 ∷ t) (drop_two bytes start), subst P (sym e.1) comment))

pub hash_line : (bytes left : List ℕ) (start : ℕ) → start < length bytes → get_or bytes start 0 ≡ 35 → Line (drop (start + 1) bytes) left → (length left ≤ length bytes - (start + 1)) × IsHashLine (drop start bytes) (drop (length bytes - length left) bytes)
hash_line bytes left start within hash line =
    let s = line_suffix line in
    let e = suffix_end bytes s.0 left (start + 1) s.1 (omega (arith, within)) in
    let P : List ℕ → Type 0 = λ b. Line (drop (start + 1) bytes) b in
    let text = drop-cons bytes start 0 within ∙ ap (λ b. b ∷ drop (suc start) bytes) hash ∙ ap (λ n. 35 ∷ drop n bytes) (sym (add-one start)) in
    (e.0, (drop (start + 1) bytes, text, subst P (sym e.1) line))

-- ---- a blank byte

blank_bytes : (byte : ℕ) (class : Class) → class ≡ class_of byte → (class ≡ Blank) ⊎ (class ≡ Break) → ((byte ≡ 0x20) ⊎ (byte ≡ 0x09)) ⊎ ((byte ≡ 0x0a) ⊎ ((byte ≡ 0x0b) ⊎ ((byte ≡ 0x0c) ⊎ (byte ≡ 0x0d))))
unfolding encode
blank_bytes byte class is (inl e) = grind (arith, common_steps)
blank_bytes byte class is (inr e) = grind (arith, common_steps)

one_byte : (bytes : List ℕ) (start c : ℕ) → start < length bytes → encode_utf8 c ≡ c ∷ [] → Contains blanks c → get_or bytes start 0 ≡ c → IsCharacter (drop start bytes) (drop (start + 1) bytes)
one_byte bytes start c within encoded blank is =
    let first : drop start bytes ≡ c ∷ drop (start + 1) bytes =
    drop-cons bytes start 0 within ∙ ap (λ b. b ∷ drop (suc start) bytes) is ∙ ap (λ n. c ∷ drop n bytes) (sym (add-one start)) in
    (c, blank, first ∙ ap (λ cs. cs ++ drop (start + 1) bytes) (sym encoded))

pub blank_byte : (bytes : List ℕ) (start : ℕ) (class : Class) → start < length bytes → class ≡ class_of (get_or bytes start 0) → (class ≡ Blank) ⊎ (class ≡ Break) → IsBlank (drop start bytes) (drop (start + 1) bytes)
unfolding encode
blank_byte bytes start class within is blank =
    inl (elim (blank_bytes (get_or bytes start 0) class is blank) [
      | inl spaces ↦ elim spaces [
        | inl e ↦ one_byte bytes start 0x20 within refl (0, omega arith, refl) e
        | inr e ↦ one_byte bytes start 0x09 within refl (1, omega arith, refl) e
      ]
      | inr lines ↦ elim lines [
        | inl e ↦ one_byte bytes start 0x0a within refl (4, omega arith, refl) e
        | inr more ↦ elim more [
          | inl e ↦ one_byte bytes start 0x0b within refl (5, omega arith, refl) e
          | inr last ↦ elim last [
            | inl e ↦ one_byte bytes start 0x0c within refl (6, omega arith, refl) e
            | inr e ↦ one_byte bytes start 0x0d within refl (7, omega arith, refl) e
          ]
        ]
      ]
    ])

-- ---- what is not blank

pub no_blank_begins : (byte : ℕ) (rest : List ℕ) → may_begin_blank byte ≡ false → begins_with_one blanks (byte ∷ rest) ≡ false
unfolding encode
no_blank_begins byte rest none = grind (arith, common_steps)

pub plain_class : (byte : ℕ) (class : Class) → class ≡ class_of byte → (class ≡ Letter) ⊎ ((class ≡ Digit) ⊎ (class ≡ Symbol)) → may_begin_blank byte ≡ false
unfolding encode
plain_class byte class is (inl e) = grind (arith, common_steps)
plain_class byte class is (inr (inl e)) = grind (arith, common_steps)
plain_class byte class is (inr (inr e)) = grind (arith, common_steps)

pub lead_class : (byte : ℕ) (rest : List ℕ) (class : Class) → class ≡ class_of byte → class ≡ Lead → begins_with_one wide_blanks (byte ∷ rest) ≡ false → begins_with_one blanks (byte ∷ rest) ≡ false
unfolding encode
lead_class byte rest class is lead none = grind (arith, common_steps)

pub none_of_five : (a b c d e : Bool) → a ≡ false → b ≡ false → c ≡ false → d ≡ false → e ≡ false → (a || (b || (c || (d || (e || false))))) ≡ false
none_of_five a b c d e p q r s t = grind (arith, common_steps)

pub sign_or_point : (byte c : ℕ) → byte ≡ c → may_begin_blank c ≡ false → may_begin_blank byte ≡ false
sign_or_point byte c same none = ap may_begin_blank same ∙ none

pub letter_or_digit : (byte : ℕ) (b : Bool) → b ≡ is_ascii_alphanumeric byte → b ≡ true → may_begin_blank byte ≡ false
unfolding encode
letter_or_digit byte b is found = grind (arith, common_steps)

-- ---- at a place of a text

pub plain_at : (bytes : List ℕ) (at : ℕ) (class : Class) → at < length bytes → class ≡ class_of (get_or bytes at 0) → (class ≡ Letter) ⊎ ((class ≡ Digit) ⊎ (class ≡ Symbol)) → begins_with_one blanks (drop at bytes) ≡ false
plain_at bytes at class within is plain =
    let P : List ℕ → Type 0 = λ text. begins_with_one blanks text ≡ false in
    subst P (sym (drop-cons bytes at 0 within)) (no_blank_begins (get_or bytes at 0) (drop (suc at) bytes) (plain_class (get_or bytes at 0) class is plain))

pub lead_at : (bytes : List ℕ) (at : ℕ) (class : Class) → at < length bytes → class ≡ class_of (get_or bytes at 0) → class ≡ Lead → begins_with_one wide_blanks (drop at bytes) ≡ false → begins_with_one blanks (drop at bytes) ≡ false
lead_at bytes at class within is lead none =
    let P : List ℕ → Type 0 = λ text. begins_with_one blanks text ≡ false in
    let Q : List ℕ → Type 0 = λ text. begins_with_one wide_blanks text ≡ false in
    let first = drop-cons bytes at 0 within in
    subst P (sym first) (lead_class (get_or bytes at 0) (drop (suc at) bytes) class is lead (subst Q first none))

pub no_blank_none : (text : List ℕ) (at : ℕ) → HasNoBlank text at at
no_blank_none text at = λ place low high. absurd (omega arith)

pub no_blank_more : (text : List ℕ) (at end : ℕ) → HasNoBlank text at end → begins_with_one blanks (drop end text) ≡ false → HasNoBlank text at (end + 1)
no_blank_more text at end before here = λ place low high.
    elim (cases_lt place end) [
      | inl less ↦ before place low less
      | inr more ↦ let same : place ≡ end = omega arith in ap (λ p. begins_with_one blanks (drop p text)) same ∙ here
    ]

-- with the first place
pub no_blank_from : (text : List ℕ) (at end : ℕ) → begins_with_one blanks (drop at text) ≡ false → HasNoBlank text (at + 1) end → HasNoBlank text at end
no_blank_from text at end here behind = λ place low high.
    elim (cases_lt at place) [
      | inl more ↦ behind place (omega arith) high
      | inr less ↦ let same : place ≡ at = omega arith in ap (λ p. begins_with_one blanks (drop p text)) same ∙ here
    ]

pub no_blank_below : (text : List ℕ) (at end less : ℕ) → less ≤ end → HasNoBlank text at end → HasNoBlank text at less
no_blank_below text at end less below all = λ place low high. all place low (omega arith)

-- of the rest of a text
pub no_blank_behind : (text : List ℕ) (start end : ℕ) → start ≤ end → HasNoBlank (drop start text) 0 (end - start) → HasNoBlank text start end
no_blank_behind text start end within all = λ place low high.
    let there : drop (place - start) (drop start text) ≡ drop place text = drop-drop (place - start) start text ∙ ap (λ n. drop n text) (omega arith) in
    let P : List ℕ → Type 0 = λ t. begins_with_one blanks t ≡ false in
    subst P there (all (place - start) (omega arith) (omega arith))

pub one_place : (text : List ℕ) (at : ℕ) → begins_with_one blanks (drop at text) ≡ false → HasNoBlank text at (at + 1)
one_place text at here = no_blank_more text at at (no_blank_none text at) here

pub not_blank_at : (bytes : List ℕ) (at : ℕ) → at < length bytes → may_begin_blank (get_or bytes at 0) ≡ false → begins_with_one blanks (drop at bytes) ≡ false
not_blank_at bytes at within none =
    let P : List ℕ → Type 0 = λ text. begins_with_one blanks text ≡ false in
    subst P (sym (drop-cons bytes at 0 within)) (no_blank_begins (get_or bytes at 0) (drop (suc at) bytes) none)

no_brace : (may_begin_blank 123 ≡ false) × (may_begin_blank 125 ≡ false)
unfolding encode
no_brace = (refl, refl)

pub brace_at : (bytes : List ℕ) (at : ℕ) → at < length bytes → (get_or bytes at 0 ≡ 123) ⊎ (get_or bytes at 0 ≡ 125) → begins_with_one blanks (drop at bytes) ≡ false
brace_at bytes at within (inl is) = not_blank_at bytes at within (ap may_begin_blank is ∙ no_brace.0)
brace_at bytes at within (inr is) = not_blank_at bytes at within (ap may_begin_blank is ∙ no_brace.1)

pub rest_at : (bytes : List ℕ) (at : ℕ) (class : Class) → at < length bytes → class ≡ class_of (get_or bytes at 0) → ¬ ((class ≡ Blank) ⊎ (class ≡ Break)) → begins_with_one wide_blanks (drop at bytes) ≡ false → begins_with_one blanks (drop at bytes) ≡ false
rest_at bytes at Letter within is not_blank none = plain_at bytes at Letter within is (inl refl)
rest_at bytes at Digit within is not_blank none = plain_at bytes at Digit within is (inr (inl refl))
rest_at bytes at Lead within is not_blank none = lead_at bytes at Lead within is refl none
rest_at bytes at Symbol within is not_blank none = plain_at bytes at Symbol within is (inr (inr refl))
rest_at bytes at Blank within is not_blank none = absurd (not_blank (inl refl))
rest_at bytes at Break within is not_blank none = absurd (not_blank (inr refl))

pub blank_at : (bytes text : List ℕ) (start count : ℕ) → text ≡ drop start bytes → IsCharacter text (drop count text) → IsBlank (drop start bytes) (drop (start + count) bytes)
blank_at bytes text start count same is =
    let P : List ℕ → Type 0 = λ t. IsCharacter t (drop count t) in
    let Q : List ℕ → Type 0 = λ behind. IsCharacter (drop start bytes) behind in
    inl (subst Q (drop-drop count start bytes) (subst P same is))
