use Rattle.wgsl_script.proofs.LaidOut.{none-written-of}
use Rattle.wgsl_script.proofs.script.write_of_bytes.Goals as goal

pub returns-in-None-clause-none : goal.returns-in-None-clause-none
returns-in-None-clause-none c = λ _. none-written-of c.args.session.now c.write_bytes.new.self c.args.handle c.args.bytes.now c.in_ok-reply.field-0 c.in_ok-reply.ensures.step c.in-None.is
