-- What is read of a module.
use Rattle.std.specs.Prelude.{◌≡◌, ℕ, ◌+◌, ◌<◌, ◌≤◌, ⊤, All, Contains, Option, List, codes, length, map, position}
use Rattle.std.specs.Str.{bytes_eq}
use Rattle.wgsl_source.specs.Cursors.{text_of}
use Rattle.wgsl_source.specs.Pieces.{Reach, IsPiece, IsParted, declarations_in, assertions_in, directives, numbers}
use Rattle.wgsl_source.specs.Readings.{extent_in}
use Rattle.wgsl_source.specs.declared.cursor.Cursor.{Cursor}
use Rattle.wgsl_source.specs.declared.declaration.Declaration.{Declaration}
use Rattle.wgsl_source.specs.declared.fault.Fault.{Fault}
use Rattle.wgsl_source.specs.declared.item.Item.{Item}
use Rattle.wgsl_source.specs.declared.item.Item.TheVariants as items
use Rattle.wgsl_source.specs.declared.piece.Piece.{Piece}

-- the number of the first declaration with this name
abbrev pub number_named : Cursor → List Declaration → List ℕ → Option ℕ
number_named c ds name = position (λ d. bytes_eq (text_of c d.name) name) ds

-- the same tokens, not before
abbrev pub IsBehind : Cursor → Cursor → Type 0
IsBehind c d = (d.text ≡ c.text) × (d.tokens ≡ c.tokens) × (c.at ≤ d.at)

-- a name that is read between two places
abbrev pub IsNamed : Cursor → Cursor → ℕ → Type 0
IsNamed c d name = (c.at ≤ name) × (name < length c.tokens.now) × (name < d.at)

-- an item that is read from one place to another
abbrev pub IsItem : Cursor → Cursor → Item → Type 0
IsItem c d (items.Declaration declaration) = IsNamed c d declaration.name
IsItem c d (items.Assertion condition) = ⊤
IsItem c d items.Directive =
    Contains directives (text_of c c.at) × IsParted (text_of c) c.at d.at × (d.at ≤ length c.tokens.now)
IsItem c d items.Semicolon = (d.at ≤ c.at + 1) × (text_of c c.at ≡ codes ";")

-- these pieces, names and so many assertions are read of the tokens before one, with these faults
pub record IsRead (c : Cursor) (pieces : List Piece) (names : List ℕ) (assertions : ℕ) (faults : List Fault) (at : ℕ)
    : Type 0 where
  pub reach : Reach 0 pieces at
  pub declared : declarations_in pieces ≡ numbers (length names)
  pub asserted : assertions_in pieces ≡ numbers assertions
  pub told : All (IsPiece c.text.now (map extent_in c.tokens.now) names faults) pieces
