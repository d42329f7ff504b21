use Rattle.std.proofs.Common.{length}
use denote.Text.{Utf8}
use denote.Shadow.{shadow}
use Rattle.wgsl_script.proofs.structs.Structs.type_name.Given as goal

abbrev pub invariant-loop-element : goal.invariant-loop-element
invariant-loop-element l = shadow (Utf8 l.rest)

-- the word of an array's elements is shorter than its own
abbrev pub decreases-loop-element : goal.decreases-loop-element
decreases-loop-element l = length l.rest
