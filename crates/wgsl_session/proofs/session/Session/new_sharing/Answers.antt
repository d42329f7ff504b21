use Rattle.wgsl_rules.specs.View.{type_view}
use Rattle.wgsl_session.proofs.LaidOut.{new-in-step, new-good}
use Rattle.wgsl_session.proofs.session.Session.new_sharing.Goals as goal

pub returns-clause-bytes : goal.returns-clause-bytes
returns-clause-bytes c = new-in-step c.args.self.now c.make_from_bytes.new.self c.make_from_bytes.result c.attest.ensures c.args.bytes.now (type_view c.args.ty) c.args.space c.args.access c.make_from_bytes.ensures

pub returns-clause-good : goal.returns-clause-good
returns-clause-good c = new-good c.args.self.now c.make_from_bytes.new.self c.make_from_bytes.result c.attest.ensures c.args.bytes.now (type_view c.args.ty) c.args.space c.args.access c.make_from_bytes.ensures
