use Rattle.std.proofs.Common.{◌≡◌, ◌∙◌, Some, ap, arith, rules}
use Rattle.std.proofs.lemmas.Grind.{common_steps}
use Rattle.wgsl_rules.specs.Uniform.{faults_behind, first_rule}
use Rattle.wgsl_rules.specs.View.{members_view}
use Rattle.wgsl_rules.proofs.FirstFaults.{first_is}
use Rattle.wgsl_rules.proofs.uniform.faults_of.Goals as goal

pub returns-clause-first : goal.returns-clause-first
returns-clause-first c =
    let all : c.loop-i.faults.items ≡ faults_behind 0 (Some 0) 0 (members_view c.args.members.now) = first_of (search rules, grind (arith, common_steps)) in
    ap first_rule all ∙ first_is 0 (Some 0) 0 (members_view c.args.members.now)
