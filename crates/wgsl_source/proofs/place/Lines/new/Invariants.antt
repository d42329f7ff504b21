use Rattle.std.proofs.Common.{◌≡◌, take}
use Rattle.wgsl_source.specs.Places.{line_starts}
use Rattle.wgsl_source.proofs.place.Lines.new.Given as goal

abbrev pub invariant-loop-at : goal.invariant-loop-at
invariant-loop-at l = l.starts.items ≡ line_starts (take l.at l.text)
