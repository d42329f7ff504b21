use Rattle.std.proofs.Common.{sym}
use Rattle.wgsl_places.proofs.Named.{nth-field}
use Rattle.wgsl_places.proofs.shape.type_of_member.Goals as goal

pub returns : goal.returns
returns c = sym (nth-field c.args.members.now c.args.i c.index-members-i.result c.requires)
