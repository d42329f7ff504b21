-- What a module is made of, one piece behind the other (WGSL: declaration and scope; directives).
use Rattle.std.specs.Prelude.{◌≡◌, ℕ, ◌+◌, ◌-◌, ◌<◌, ◌≤◌, ⊤, false, zero, suc, Option, Some, None, List, [], ◌∷◌, ◌++◌, codes, length, slice_index, Contains}
use Rattle.std.specs.List.{filter_map}
use Rattle.wgsl_source.specs.Faults.{IsTold}
use Rattle.wgsl_source.specs.Identifiers.{is_one_of}
use Rattle.wgsl_source.specs.Readings.{word_of, fault_at}
use Rattle.wgsl_source.specs.declared.fault.Fault.{Fault}
use Rattle.wgsl_source.specs.declared.module.Extent.{Extent}
use Rattle.wgsl_source.specs.declared.piece.Piece.{Piece}
use Rattle.wgsl_source.specs.declared.piece.PieceKind.{PieceKind}
use Rattle.wgsl_source.specs.declared.piece.PieceKind.TheVariants.{Declaration, Assertion, Directive, Semicolon, Fault as Faulty}

-- none is empty, each begins where the one before it ends, and they reach from one token to another
abbrev pub Reach : ℕ → List Piece → ℕ → Type 0
Reach start [] end = start ≡ end
Reach start (p ∷ ps) end = (p.start ≡ start) × (p.start < p.end) × Reach p.end ps end

abbrev pub declaration_in : PieceKind → Option ℕ
declaration_in (Declaration number) = Some number
declaration_in kind = None

abbrev pub assertion_in : PieceKind → Option ℕ
assertion_in (Assertion number) = Some number
assertion_in kind = None

-- the numbers of the declarations that are pieces, in their order, and those of the assertions
abbrev pub declarations_in : List Piece → List ℕ
declarations_in ps = filter_map (λ p. declaration_in p.kind) ps

abbrev pub assertions_in : List Piece → List ℕ
assertions_in ps = filter_map (λ p. assertion_in p.kind) ps

-- the words that begin a directive
abbrev pub directives : List (List ℕ)
directives = codes "enable" ∷ codes "requires" ∷ codes "diagnostic" ∷ []

-- what is no part of a directive: its end, and what begins what may stand behind it
unfoldable pub no_parts : List (List ℕ)
no_parts =
    codes ";" ∷ codes "{" ∷ codes "@" ∷ codes "enable" ∷ codes "requires" ∷ codes "diagnostic" ∷ codes "struct" ∷
    codes "alias" ∷ codes "const" ∷ codes "override" ∷ codes "var" ∷ codes "fn" ∷ codes "const_assert" ∷ []

-- a word, parts and a `;`
pub record IsParted (word_at : ℕ → List ℕ) (start end : ℕ) : Type 0 where
  pub long : start + 2 ≤ end
  pub parts : (token : ℕ) → start < token → token + 1 < end → is_one_of no_parts (word_at token) ≡ false
  pub ends : word_at (end - 1) ≡ codes ";"

-- what a piece has in it: a declaration the token that names it; a directive its word, its parts and its `;`; and a fault
-- the token at which it is told, which may be the next one behind the piece
abbrev pub Has : List ℕ → List Extent → List ℕ → List Fault → ℕ → ℕ → PieceKind → Type 0
Has text tokens names faults start end (Declaration number) =
    (number < length names) × (start ≤ slice_index names number) × (slice_index names number < end)
Has text tokens names faults start end (Assertion number) = ⊤
Has text tokens names faults start end Directive =
    Contains directives (word_of text tokens start) × IsParted (word_of text tokens) start end
Has text tokens names faults start end Semicolon = (end ≡ start + 1) × (word_of text tokens start ≡ codes ";")
Has text tokens names faults start end (Faulty token reason) =
    (start ≤ token) × (token ≤ end) × IsTold faults (fault_at text tokens token reason)

abbrev pub IsPiece : List ℕ → List Extent → List ℕ → List Fault → Piece → Type 0
IsPiece text tokens names faults p = Has text tokens names faults p.start p.end p.kind

-- 0, 1, 2, .. up to this number, which is not among them
abbrev pub numbers : ℕ → List ℕ
numbers zero = []
numbers (suc n) = numbers n ++ n ∷ []
