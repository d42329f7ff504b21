-- The laws of the definitions: the kind that two numbers have in common, what operands are converted to, the
-- ring of a kind, what quotients and remainders are, bits in reverse, fields of bits and the first bit.
use Rattle.std.specs.Prelude.{◌≡◌, ◌≢◌, ◌⊎◌, ◌<◌, ℕ, ℤ, pos, ◌+ℤ◌, ◌*ℤ◌, int_lt, unsigned_abs, Option, Some, Ok, option_map}
use Rattle.wgsl_rules.specs.Conversion.{common_type}
use Rattle.wgsl_rules.specs.Converted.{converted}
use Rattle.wgsl_rules.specs.InCommon.{in_common}
use Rattle.wgsl_rules.specs.Kinds as kinds
use Rattle.wgsl_rules.specs.Kinds.{Kind, InKind, wrap}
use Rattle.wgsl_rules.specs.Values.{Val, truth, number, type_of_kind, IsLiteral, IsStorable}
use Rattle.wgsl_scalar.specs.Arith.{sum_in, product_in}
use Rattle.wgsl_scalar.specs.BitFields.{reversed, first_leading, extracted, inserted}
use Rattle.wgsl_scalar.specs.Conversions.{common_kind}
use Rattle.wgsl_scalar.specs.Counts.{leading_zeros}
use Rattle.wgsl_scalar.specs.Operands.{Operands, both_truths, common_operands, of_truths}

-- the kind that numbers of two kinds have in common is the common type of the two
abbrev pub CommonKindsAreCommonTypes : Type 0
CommonKindsAreCommonTypes = (j k : Kind) → option_map type_of_kind (common_kind j k) ≡ common_type (type_of_kind j) (type_of_kind k)

-- the operands of an operator, as values
abbrev pub operand_values : Operands → Val × Val
operand_values p = (number p.kind p.left, number p.kind p.right)

-- what an operator takes two literals to: two truth values, or two numbers of their common kind
abbrev pub taken : Val → Val → Option (Val × Val)
taken v w = of_truths (λ a b. Some (truth a, truth b)) (both_truths v w) (option_map operand_values (common_operands v w))

-- it is what both are in the common type of their types, and nothing where there is none or one of them is nothing in it
abbrev pub OperandsAreInTheirCommonType : Type 0
OperandsAreInTheirCommonType = (v w : Val) → IsLiteral v → IsLiteral w → IsStorable v → IsStorable w → taken v w ≡ in_common converted v w

-- the sum and the product in a kind, as numbers: what the operators give in each kind but the abstract one
pub record GivesWrapped (k : Kind) : Type 0 where
  pub sums : (a b : ℤ) → sum_in k a b ≡ Ok (number k (wrap k (a +ℤ b)))
  pub products : (a b : ℤ) → product_in k a b ≡ Ok (number k (wrap k (a *ℤ b)))

-- sums and products in a kind make a commutative ring
pub record IsRing (k : Kind) : Type 0 where
  pub sums_commute : (a b : ℤ) → wrap k (a +ℤ b) ≡ wrap k (b +ℤ a)
  pub sums_associate : (a b c : ℤ) → wrap k (wrap k (a +ℤ b) +ℤ c) ≡ wrap k (a +ℤ wrap k (b +ℤ c))
  pub products_commute : (a b : ℤ) → wrap k (a *ℤ b) ≡ wrap k (b *ℤ a)
  pub products_associate : (a b c : ℤ) → wrap k (wrap k (a *ℤ b) *ℤ c) ≡ wrap k (a *ℤ wrap k (b *ℤ c))
  pub products_distribute : (a b c : ℤ) → wrap k (a *ℤ wrap k (b +ℤ c)) ≡ wrap k (wrap k (a *ℤ b) +ℤ wrap k (a *ℤ c))

-- the remainder is 0 or has the sign of the left side
abbrev pub HasSignOf : ℤ → ℤ → Type 0
HasSignOf r a = (r ≡ pos 0) ⊎ (int_lt r (pos 0) ≡ int_lt a (pos 0))

-- q and r divide a by b: a is b * q + r, and r is nearer to 0 than b and has the sign of a
pub record Divides (a b q r : ℤ) : Type 0 where
  pub whole : a ≡ b *ℤ q +ℤ r
  pub nearer : unsigned_abs r < unsigned_abs b
  pub signed : HasSignOf r a

-- ---- bits of an i32 or a u32

-- bits that are reversed twice are as before
abbrev pub ReversingTwiceChangesNothing : Type 0
ReversingTwiceChangesNothing = (v w : Val) → IsStorable v → reversed v ≡ Ok w → reversed w ≡ Ok v

-- a field that was extracted is inserted where it was
abbrev pub InsertingBackChangesNothing : Type 0
InsertingBackChangesNothing = (offset count : ℕ) (v w : Val) → IsStorable v → extracted offset count v ≡ Ok w → inserted offset count v w ≡ Ok v

-- the place of the first 1 of a u32 and the count of zeros above it make 31
abbrev pub LeadingBitAndZerosAddUp : Type 0
LeadingBitAndZerosAddUp =
    (z a b : ℤ) → InKind kinds.u32 z → z ≢ pos 0
    → first_leading (number kinds.u32 z) ≡ Ok (number kinds.u32 a) → leading_zeros (number kinds.u32 z) ≡ Ok (number kinds.u32 b)
    → a +ℤ b ≡ pos 31
