-- The families of operators whose operands the grammar gives one form.
use Rattle.wgsl_source.specs.Mixes as forms
use Rattle.wgsl_source.specs.Mixes.{Form}
use Rattle.wgsl_source.specs.declared.mixes.Family.{Family}
use Rattle.wgsl_source.specs.declared.mixes.Family.TheVariants as families

-- the family of the operators of a form
abbrev pub family_in : Form → Family
family_in forms.unary = families.Arithmetic
family_in forms.multiplicative = families.Arithmetic
family_in forms.additive = families.Arithmetic
family_in forms.shift = families.Shift
family_in forms.relational = families.Relation
family_in forms.short_circuit_and = families.Logical
family_in forms.short_circuit_or = families.Logical
family_in forms.binary_and = families.Bitwise
family_in forms.binary_or = families.Bitwise
family_in forms.binary_xor = families.Bitwise
