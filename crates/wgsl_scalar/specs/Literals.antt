-- Literals, as contracts see them: a truth value, or a number of a kind (WGSL: scalar types).
use Rattle.std.specs.Prelude.{ℤ, pos, Option, Some, None}
use Rattle.wgsl_rules.specs.Kinds as kinds
use Rattle.wgsl_rules.specs.Kinds.{Kind}
use Rattle.wgsl_rules.specs.Values.{Val, truth, number}
use Rattle.wgsl_scalar.specs.declared.kind.Kind.{Kind as CodeKind}
use Rattle.wgsl_scalar.specs.declared.kind.Kind.TheVariants as code
use Rattle.wgsl_scalar.specs.declared.literal.LiteralInstance.{LiteralInstance}
use Rattle.wgsl_scalar.specs.declared.literal.LiteralInstance.TheVariants as literals

abbrev pub literal_of : LiteralInstance → Val
literal_of (literals.Bool b) = truth b
literal_of (literals.AbstractInt z) = number kinds.abstract_int z
literal_of (literals.I32 z) = number kinds.i32 z
literal_of (literals.U32 n) = number kinds.u32 (pos n)
literal_of (literals.I64 z) = number kinds.i64 z
literal_of (literals.U64 n) = number kinds.u64 (pos n)

-- the kind that the code's word for a kind stands for
abbrev pub kind_of : CodeKind → Kind
kind_of code.AbstractInt = kinds.abstract_int
kind_of code.I32 = kinds.i32
kind_of code.U32 = kinds.u32
kind_of code.I64 = kinds.i64
kind_of code.U64 = kinds.u64

-- a number of a kind
pub record Number : Type 0 where
  pub kind : Kind
  pub value : ℤ

abbrev pub number_of : Val → Option Number
number_of (number k z) = Some (record { kind = k; value = z })
number_of v = None

-- the pair of a kind and a number in the code
abbrev pub number_view : CodeKind × ℤ → Number
number_view p = record { kind = kind_of p.0; value = p.1 }
