-- What vectors are made of (WGSL: vector types).
use Rattle.std.specs.Prelude.{List, map}
use Rattle.wgsl_rules.specs.Values.{Vals}
use Rattle.wgsl_scalar.specs.Literals.{literal_of}
use Rattle.wgsl_scalar.specs.declared.literal.LiteralInstance.{LiteralInstance}
use Rattle.wgsl_values.specs.View.{vals_of}

abbrev pub literals_view : List LiteralInstance → Vals
literals_view literals = vals_of (map literal_of literals)
