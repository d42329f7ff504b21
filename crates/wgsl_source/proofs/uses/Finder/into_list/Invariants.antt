use Rattle.std.proofs.Common.{◌≡◌, ◌++◌}
use Rattle.wgsl_source.proofs.uses.Finder.into_list.Given as goal

abbrev pub invariant-loop-number : goal.invariant-loop-number
invariant-loop-number l = l.list.items ++ l.number-iterator ≡ l.fn.self.found.keys
