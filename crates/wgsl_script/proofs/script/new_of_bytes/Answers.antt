use Rattle.wgsl_rules.specs.Values.{Val}
use Rattle.wgsl_rules.specs.View.{type_view}
use Rattle.wgsl_layout.specs.Buffers.{decode}
use Rattle.wgsl_session.specs.Calls as model
use Rattle.wgsl_script.proofs.LaidOut.{value-of, none-of}
use Rattle.wgsl_script.proofs.script.new_of_bytes.Goals as goal

pub returns-in-Some-clause-value : goal.returns-in-Some-clause-value
returns-in-Some-clause-value c =
    value-of c.args.session.now c.new_sharing.new.self (λ (v : Val). model.new v c.args.space c.args.access) (decode c.args.bytes.now (type_view c.args.ty)) c.in_ok-reply.field-0 c.in-Some.reply c.in_ok-reply.ensures.step c.in-Some.is

pub returns-in-None-clause-none : goal.returns-in-None-clause-none
returns-in-None-clause-none c = λ _.
    none-of c.args.session.now c.new_sharing.new.self (λ (v : Val). model.new v c.args.space c.args.access) (decode c.args.bytes.now (type_view c.args.ty)) c.in_ok-reply.field-0 c.in_ok-reply.ensures.step c.in-None.is
