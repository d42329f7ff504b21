use Rattle.std.proofs.Common.{◌≡◌, take, true}
use Rattle.std.specs.List.{list_all}
use Rattle.wgsl_nodes.specs.Paths.{is_digit}
use Rattle.wgsl_nodes.proofs.paths.digits_len.Given as goal

abbrev pub invariant-loop-i : goal.invariant-loop-i
invariant-loop-i l = list_all is_digit (take l.i l.text) ≡ true
