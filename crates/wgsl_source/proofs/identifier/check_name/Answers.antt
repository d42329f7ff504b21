use Rattle.std.proofs.Common.{subst}
use Rattle.std.proofs.lemmas.Result.{on_ok_weaker}
use Rattle.wgsl_source.specs.Faults.{IsTold}
use Rattle.wgsl_source.proofs.IdentifierLemmas.{told_name, right_name}
use Rattle.wgsl_source.proofs.identifier.check_name.Goals as goal

pub returns-in-Some-clause-told : goal.returns-in-Some-clause-told
returns-in-Some-clause-told c =
    let new = c.add.new.self.faults.items in
    on_ok_weaker c.add.result (λ told. told_name c.args.cursor c.args.name new c.text_at.result.now c.why_no_name.result c.in-Some.reason c.text_at.ensures c.why_no_name.ensures c.in-Some.is (subst (IsTold new) c.fault_at.ensures told)) c.add.ensures.told

pub returns-in-None-clause-told : goal.returns-in-None-clause-told
returns-in-None-clause-told c =
    right_name c.args.cursor c.args.name c.args.faults.now.faults.items c.text_at.result.now c.why_no_name.result c.text_at.ensures c.why_no_name.ensures c.in-None.is
