-- The numbers of a vector's components, as contracts see them (WGSL: vector types).
use Rattle.std.specs.Prelude.{List, map}
use Rattle.wgsl_rules.specs.Values.{Val}
use Rattle.wgsl_scalar.specs.Literals.{literal_of}
use Rattle.wgsl_places.specs.declared.components.Components.{Components}
use Rattle.wgsl_places.specs.declared.components.Components.TheVariants as code

abbrev pub components_of : Components → List Val
components_of (code.Two a) = map literal_of a
components_of (code.Three a) = map literal_of a
components_of (code.Four a) = map literal_of a
