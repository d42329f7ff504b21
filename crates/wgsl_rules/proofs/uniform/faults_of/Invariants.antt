use Rattle.std.proofs.Common.{◌≡◌, ◌++◌, drop, Some}
use Rattle.wgsl_rules.specs.Uniform.{faults_behind}
use Rattle.wgsl_rules.specs.View.{members_view}
use Rattle.wgsl_rules.proofs.uniform.faults_of.Given as goal

abbrev pub invariant-loop-i : goal.invariant-loop-i
invariant-loop-i l =
    l.faults.items ++ faults_behind l.i l.end l.least (members_view (drop l.i l.members))
    ≡ faults_behind 0 (Some 0) 0 (members_view l.members)
