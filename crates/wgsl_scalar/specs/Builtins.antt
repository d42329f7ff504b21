-- The names of the builtins that have no meaning yet (WGSL: builtin functions).
use Rattle.std.specs.Prelude.{ℕ, List, codes}
use Rattle.wgsl_scalar.specs.declared.builtin.BuiltinName.{BuiltinName}
use Rattle.wgsl_scalar.specs.declared.builtin.BuiltinName.TheVariants as names

abbrev pub builtin_text : BuiltinName → List ℕ
builtin_text names.ExtractBits = codes "extractBits"
builtin_text names.InsertBits = codes "insertBits"
builtin_text names.FirstLeadingBit = codes "firstLeadingBit"
builtin_text names.FirstTrailingBit = codes "firstTrailingBit"
builtin_text names.ReverseBits = codes "reverseBits"
builtin_text names.Dot4U8Packed = codes "dot4U8Packed"
builtin_text names.Dot4I8Packed = codes "dot4I8Packed"
