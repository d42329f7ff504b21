-- The values of literals.
use Rattle.wgsl_rules.specs.Values.{IsLiteral}
use Rattle.wgsl_scalar.specs.Literals.{literal_of}
use Rattle.wgsl_scalar.specs.declared.literal.LiteralInstance.{LiteralInstance}
use Rattle.wgsl_scalar.specs.declared.literal.LiteralInstance.TheVariants as literals

pub is-literal : (l : LiteralInstance) → IsLiteral (literal_of l)
is-literal (literals.Bool b) = tt
is-literal (literals.AbstractInt z) = tt
is-literal (literals.I32 z) = tt
is-literal (literals.U32 n) = tt
is-literal (literals.I64 z) = tt
is-literal (literals.U64 n) = tt
