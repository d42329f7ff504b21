use Rattle.wgsl_session.proofs.LaidOut.{write-in-step, write-good}
use Rattle.wgsl_session.proofs.session.Session.write_bytes.Goals as goal

pub returns-clause-bytes : goal.returns-clause-bytes
returns-clause-bytes c = write-in-step c.args.self.now c.write_from_bytes.new.self c.write_from_bytes.result c.attest.ensures c.args.handle c.args.bytes.now c.write_from_bytes.ensures.step

pub returns-clause-good : goal.returns-clause-good
returns-clause-good c = write-good c.args.self.now c.write_from_bytes.new.self c.write_from_bytes.result c.attest.ensures c.args.handle c.args.bytes.now c.write_from_bytes.ensures.step
