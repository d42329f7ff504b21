use Rattle.std.proofs.Common.{◌∙◌, sym}
use Rattle.std.proofs.lemmas.Bool.{ltb-true}
use Rattle.wgsl_interface.proofs.Members.{last-is}
use Rattle.wgsl_interface.proofs.faults.is_last_runtime_sized.Goals as goal

pub returns-in-Some : goal.returns-in-Some
returns-in-Some c =
    let item = c.in-Some.ensures.item in
    c.is_runtime_sized.ensures ∙ last-is c.args.members.now c.in-Some.last.now (ltb-true 0 _ (sym item.0)) item.1
