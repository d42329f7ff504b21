-- Laws of the texts of values, and of transposed matrices.
use Rattle.std.specs.Prelude.{◌≡◌, ◌↔◌, ℕ, [], ◌∷◌}
use Rattle.wgsl_rules.specs.Paths.{value_at}
use Rattle.wgsl_rules.specs.Types as types
use Rattle.wgsl_rules.specs.Types.{Ty}
use Rattle.wgsl_rules.specs.Values.{Val, matrix, atomic_of, IsLiteral, IsVector, IsStorable, IsWellFormed, type_of}
use Rattle.wgsl_values.specs.Matrices.{transposed}
use Rattle.wgsl_values.specs.Texts.{text_of_value}

abbrev pub IsMatrix : Val → Type 0
IsMatrix (matrix vs) = Unit {0}
IsMatrix v = ⊥

abbrev pub IsAtomic : Val → Type 0
IsAtomic (atomic_of v) = Unit {0}
IsAtomic v = ⊥

-- two values of the sort have equal texts exactly if they are equal
abbrev pub TextsTellApart : (Val → Type 0) → Type 0
TextsTellApart Sort = (v w : Val) → Sort v → Sort w → IsWellFormed v → IsWellFormed w → (text_of_value v ≡ text_of_value w) ↔ (v ≡ w)

-- and so it is among the literals, the vectors, the matrices and the atomics
pub record TextsTellValuesApart : Type 0 where
  pub literals : TextsTellApart IsLiteral
  pub vectors : TextsTellApart IsVector
  pub matrices : TextsTellApart IsMatrix
  pub atomics : TextsTellApart IsAtomic

-- the value is the matrix with its rows for columns: one that may be stored, of the type with both
-- counts exchanged, with component j of column i where the matrix has component i of column j
pub record Transposes (v m : Val) : Type 0 where
  pub is_matrix : IsMatrix v
  pub storable : IsStorable v
  pub ty : (columns rows : ℕ) (t : Ty) → type_of m ≡ types.mat columns rows t → type_of v ≡ types.mat rows columns t
  pub components : (i j : ℕ) → value_at (i ∷ j ∷ []) v ≡ value_at (j ∷ i ∷ []) m

abbrev pub TransposedExchangesRowsAndColumns : Type 0
TransposedExchangesRowsAndColumns = (m : Val) → IsMatrix m → IsWellFormed m → Transposes (transposed m) m

abbrev pub TransposedTwiceIsItself : Type 0
TransposedTwiceIsItself = (m : Val) → IsMatrix m → IsWellFormed m → transposed (transposed m) ≡ m
