-- The types that names and template lists stand for (WGSL: predeclared types and type-generators).
use Rattle.std.specs.Prelude.{ℕ, Option, Some, None}
use Rattle.wgsl_rules.specs.Types as types
use Rattle.wgsl_rules.specs.Types.{Ty}
use Rattle.wgsl_source.specs.Names.{scalar_type}
use Rattle.wgsl_source.specs.declared.names.Generator.{Generator}
use Rattle.wgsl_source.specs.declared.names.Generator.TheVariants as generators
use Rattle.wgsl_source.specs.declared.names.Predeclared.{Predeclared}
use Rattle.wgsl_source.specs.declared.names.Predeclared.TheVariants as named

-- the type of a generator of an inner type, of an array with the count that is given
abbrev pub generated_type : Generator → Ty → Option ℕ → Ty
generated_type (generators.Vec n) t count = types.vec n t
generated_type (generators.Mat c r) t count = types.mat c r t
generated_type generators.Array t count = types.array t count
generated_type generators.Atomic t count = types.atomic t

-- the type that the language gives a name; none of a name that needs a template list
abbrev pub predeclared_type : Predeclared → Option Ty
predeclared_type (named.Scalar s) = Some (scalar_type s)
predeclared_type (named.Vec n s) = Some (types.vec n (scalar_type s))
predeclared_type (named.Mat c r s) = Some (types.mat c r (scalar_type s))
predeclared_type (named.Generator g) = None
