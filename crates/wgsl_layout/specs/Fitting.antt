-- When a view leads to a value of a type, and when a value fits the place that a view or a reference leads to (WGSL:
-- memory views; assignment statement).
use Rattle.std.specs.Prelude.{◌≡◌, IsOkAnd, IsTrue}
use Rattle.wgsl_rules.specs.Paths.{fits, viewed}
use Rattle.wgsl_rules.specs.Refusals.{Outcome}
use Rattle.wgsl_rules.specs.Values.{Reference, Val, type_of}

-- the outcome leads to a place, and the value fits there: it has the type and the paths of what stands there
abbrev pub FitsAt : Val → Outcome Val → Type 0
FitsAt w o = IsOkAnd o (λ v. IsTrue (fits w v))

-- the view of the reference leads to a value of its type, in this value
abbrev pub LeadsIn : Val → Reference → Type 0
LeadsIn v r = IsOkAnd (viewed r.view v) (λ x. type_of x ≡ r.ty)
