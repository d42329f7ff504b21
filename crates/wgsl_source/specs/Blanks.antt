-- Blank text, and what a text is made of (WGSL: blankspace and line breaks; comments; tokens).
use Rattle.std.specs.Prelude.{◌≡◌, ℕ, nat_eq, ◌<◌, ◌≤◌, Bool, true, false, not, ◌||◌, ◌⊎◌, All, List, [], ◌∷◌, ◌++◌, Contains, codes, drop, encode_utf8, length, map}
use Rattle.std.specs.List.{list_any, starts_with}
use Rattle.wgsl_source.specs.Faults.{IsTold}
use Rattle.wgsl_source.specs.declared.fault.Fault.{Fault}
use Rattle.wgsl_source.specs.declared.fault.Reason.{Reason}
use Rattle.wgsl_source.specs.declared.fault.Reason.TheVariants as reasons
use Rattle.wgsl_source.specs.declared.lexer.Piece.{Piece}
use Rattle.wgsl_source.specs.declared.lexer.PieceKind.{PieceKind}
use Rattle.wgsl_source.specs.declared.lexer.PieceKind.TheVariants as pieces
use Rattle.wgsl_source.specs.Readings.{extent_in}
use Rattle.wgsl_source.specs.declared.module.Extent.{Extent}
use Rattle.wgsl_source.specs.declared.token.Token.{Token}

-- line feed, vertical tab, form feed, carriage return, the next line, and the separators of lines and of paragraphs
abbrev pub line_breaks : List ℕ
line_breaks = 0x0a ∷ 0x0b ∷ 0x0c ∷ 0x0d ∷ 0x85 ∷ 0x2028 ∷ 0x2029 ∷ []

-- space, horizontal tab, the marks of direction, and the line breaks
abbrev pub blanks : List ℕ
blanks = 0x20 ∷ 0x09 ∷ 0x200e ∷ 0x200f ∷ line_breaks

-- one of these characters begins the text
abbrev pub begins_with_one : List ℕ → List ℕ → Bool
begins_with_one characters text = list_any (λ c. starts_with nat_eq text (encode_utf8 c)) characters

abbrev pub begins_line_break : List ℕ → Bool
begins_line_break text = begins_with_one line_breaks text

-- ---- a text that begins with something blank, and what is behind that

-- one blank character
abbrev pub IsCharacter : List ℕ → List ℕ → Type 0
IsCharacter text behind = (c : ℕ) × Contains blanks c × (text ≡ encode_utf8 c ++ behind)

-- the rest of a line, which goes to the next line break or to the end
pub data Line : List ℕ → List ℕ → Type 0 where
  ends : Line [] []
  breaks : {text : List ℕ} → begins_line_break text ≡ true → Line text text
  goes_on : {byte : ℕ} {text behind : List ℕ} → begins_line_break (byte ∷ text) ≡ false → Line text behind → Line (byte ∷ text) behind

-- `//`, and the rest of a line
abbrev pub IsLineComment : List ℕ → List ℕ → Type 0
IsLineComment text behind = (rest : List ℕ) × (text ≡ codes "//" ++ rest) × Line rest behind

-- neither `/*` nor `*/` begins the text
abbrev pub has_no_mark : List ℕ → Bool
has_no_mark text = not (starts_with nat_eq text (codes "/*") || starts_with nat_eq text (codes "*/"))

-- the rest of a comment, which goes to its `*/`, over the comments inside it
pub data Comment : List ℕ → List ℕ → Type 0 where
  closes : {behind : List ℕ} → Comment (42 ∷ 47 ∷ behind) behind
  inner : {text middle behind : List ℕ} → Comment text middle → Comment middle behind → Comment (47 ∷ 42 ∷ text) behind
  passes : {byte : ℕ} {text behind : List ℕ} → has_no_mark (byte ∷ text) ≡ true → Comment text behind → Comment (byte ∷ text) behind

-- `/*`, and the rest of a comment
abbrev pub IsBlockComment : List ℕ → List ℕ → Type 0
IsBlockComment text behind = (rest : List ℕ) × (text ≡ codes "/*" ++ rest) × Comment rest behind

abbrev pub IsBlank : List ℕ → List ℕ → Type 0
IsBlank text behind = IsCharacter text behind ⊎ (IsLineComment text behind ⊎ IsBlockComment text behind)

-- no blank character begins between these places of the text
abbrev pub HasNoBlank : List ℕ → ℕ → ℕ → Type 0
HasNoBlank text at end = (place : ℕ) → at ≤ place → place < end → begins_with_one blanks (drop place text) ≡ false

-- ---- what is neither blank nor a token

-- `#`, and the rest of a line, which is for a preprocessor
abbrev pub IsHashLine : List ℕ → List ℕ → Type 0
IsHashLine text behind = (rest : List ℕ) × (text ≡ codes "#" ++ rest) × Line rest behind

-- what is passed over for this reason: a line for a preprocessor; a comment that has no end, with all behind it
abbrev pub IsPassedFor : Reason → List ℕ → List ℕ → Type 0
IsPassedFor reasons.Preprocessor text behind = IsHashLine text behind
IsPassedFor reasons.OpenComment text behind = (behind ≡ []) × (starts_with nat_eq text (codes "/*") ≡ true)
IsPassedFor reason text behind = ⊥

-- ---- what begins at a place of a text, and where it ends

abbrev pub BeginsAs : List ℕ → ℕ → ℕ → PieceKind → Type 0
BeginsAs text at end (pieces.Token kind) = HasNoBlank text at end
BeginsAs text at end pieces.Blank = IsBlank (drop at text) (drop end text)
BeginsAs text at end pieces.OpenComment = IsPassedFor reasons.OpenComment (drop at text) (drop end text)
BeginsAs text at end pieces.HashLine = IsPassedFor reasons.Preprocessor (drop at text) (drop end text)
BeginsAs text at end pieces.Placeholder = HasNoBlank text at end

abbrev pub Begins : List ℕ → ℕ → Piece → Type 0
Begins text at piece = BeginsAs text at piece.end piece.kind

abbrev pub fault_from : ℕ → ℕ → Reason → Fault
fault_from start end reason = record { start = start; end = end; reason = reason }

-- ---- a text up to a place

-- it is made of these tokens, in order, of what is blank, and of what is passed over, each with its fault; a token that a
-- preprocessor has to put a text for has its fault, too; a mark of byte order may begin it
pub data IsCut : List ℕ → List Extent → List Fault → ℕ → Type 0 where
  nothing : {text : List ℕ} → IsCut text [] [] 0
  mark : {text : List ℕ} → starts_with nat_eq text (encode_utf8 0xfeff) ≡ true → IsCut text [] [] 3
  blank : {text : List ℕ} {tokens : List Extent} {faults : List Fault} {at end : ℕ} → IsCut text tokens faults at → at < end → end ≤ length text → IsBlank (drop at text) (drop end text) → IsCut text tokens faults end
  token : {text : List ℕ} {tokens : List Extent} {faults : List Fault} {at end : ℕ} → IsCut text tokens faults at → at < end → end ≤ length text → HasNoBlank text at end → IsCut text (tokens ++ record { start = at; end = end } ∷ []) faults end
  passed : {text : List ℕ} {tokens : List Extent} {faults : List Fault} {at end : ℕ} (reason : Reason) → IsCut text tokens faults at → at < end → end ≤ length text → IsPassedFor reason (drop at text) (drop end text) → IsCut text tokens (faults ++ fault_from at end reason ∷ []) end
  placeholder : {text : List ℕ} {tokens : List Extent} {faults : List Fault} {at end : ℕ} → IsCut text tokens faults at → at < end → end ≤ length text → HasNoBlank text at end → IsCut text (tokens ++ record { start = at; end = end } ∷ []) (faults ++ fault_from at end reasons.Placeholder ∷ []) end

-- these tokens, what is blank and what is passed over, which is told, are the whole text
abbrev pub IsCovered : List ℕ → List Extent → List Fault → Type 0
IsCovered text tokens told = (faults : List Fault) × IsCut text tokens faults (length text) × All (IsTold told) faults

-- where these tokens and faults are of a text up to a place, and this piece begins there, more of them are up to its end
abbrev pub GoesOn : List Token → List Fault → ℕ → Piece → List Token → List Fault → Type 0
GoesOn tokens faults at piece more told =
    (text : List ℕ) → Begins text at piece → at < piece.end → piece.end ≤ length text → IsCut text (map extent_in tokens) faults at →
    IsCut text (map extent_in more) told piece.end
