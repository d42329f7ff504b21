use Rattle.std.proofs.Common.{◌∙◌}
use Rattle.wgsl_source.proofs.GroupLemmas.{in_some, in_none}
use Rattle.wgsl_source.proofs.identifier.is_in_group.Goals as goal

pub returns-in-Some : goal.returns-in-Some
returns-in-Some c =
    let lookup = c.in-Some.ensures.lookup in
    c.is_one_of.ensures ∙ in_some c.args.groups.now c.args.number c.in-Some.group.now c.args.word.now lookup.3.0 lookup.3.1

pub returns-in-None : goal.returns-in-None
returns-in-None c = in_none c.args.groups.now c.args.number c.args.word.now c.in-None.ensures.lookup.3
