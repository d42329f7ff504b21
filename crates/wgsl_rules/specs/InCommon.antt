-- What several values are in the type that they have in common (WGSL: overload resolution algorithm).
-- How each converts is given.
use Rattle.std.specs.Prelude.{List, [], ◌∷◌, map, Option, Some, None, option_and_then}
use Rattle.wgsl_rules.specs.Conversion.{common_type, common_type_of}
use Rattle.wgsl_rules.specs.TypeParts.{inner_type}
use Rattle.wgsl_rules.specs.Types.{Ty}
use Rattle.wgsl_rules.specs.Values.{Val, type_of}

-- both values, where neither is missing
abbrev pub both : Option Val → Option Val → Option (Val × Val)
both (Some x) (Some y) = Some (x, y)
both x y = None

-- each of the two in the type, where there is one and both convert to it
abbrev pub both_in : (Val → Ty → Option Val) → (Val → Ty → Option Val) → Val → Val → Option Ty → Option (Val × Val)
both_in f g a b None = None
both_in f g a b (Some t) = both (f a t) (g b t)

-- both in their common type
abbrev pub in_common : (Val → Ty → Option Val) → Val → Val → Option (Val × Val)
in_common f a b = both_in f f a b (common_type (type_of a) (type_of b))

-- both with their inner types taken to the common one
abbrev pub inner_in_common : (Val → Ty → Option Val) → (Val → Ty → Option Val) → Val → Val → Option (Val × Val)
inner_in_common f g a b = both_in f g a b (common_type (inner_type (type_of a)) (inner_type (type_of b)))

-- the list that begins with a value, where neither is missing
abbrev pub prepended : Option Val → Option (List Val) → Option (List Val)
prepended (Some v) (Some vs) = Some (v ∷ vs)
prepended v vs = None

-- each in the type, where each converts
abbrev pub all_in : (Val → Ty → Option Val) → List Val → Ty → Option (List Val)
all_in f [] t = Some []
all_in f (v ∷ vs) t = prepended (f v t) (all_in f vs t)

-- each in the common type of all, which is found from the left; none of the empty list
abbrev pub all_in_common : (Val → Ty → Option Val) → List Val → Option (List Val)
all_in_common f vs = option_and_then (all_in f vs) (common_type_of (map type_of vs))

-- what the two of a pair stand for
abbrev pub pair_view : {X Y : Type 0} → (X → Val) → (Y → Val) → X × Y → Val × Val
pair_view f g p = (f p.0, g p.1)
