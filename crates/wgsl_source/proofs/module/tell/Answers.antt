use Rattle.std.proofs.Common.{All, List, subst, arith}
use Rattle.std.proofs.lemmas.List.{take_all}
use Rattle.wgsl_source.specs.Faults.{IsTold}
use Rattle.wgsl_source.specs.declared.fault.Fault.{Fault}
use Rattle.wgsl_source.specs.declared.fault.Expected.TheVariants as asked
use Rattle.wgsl_source.specs.declared.fault.Reason.TheVariants as reasons
use Rattle.wgsl_source.proofs.FaultLemmas.{one_told_more}
use Rattle.wgsl_source.proofs.module.tell.Goals as goal

pub loop-fault-preserved : goal.loop-fault-preserved
loop-fault-preserved c =
    let d : Fault = record { start = 0; end = 0; reason = reasons.Expected asked.Declaration } in
    one_told_more c.loop-fault.faults.faults.items c.add.new.self.faults.items c.args.found.now c.loop-fault.fault-index d c.add.ensures.kept (omega arith) c.loop-fault.invariant c.in_ok-add.ensures.told

pub returns : goal.returns
returns c =
    let P : List Fault → Type 0 = All (IsTold c.loop-fault.faults.faults.items) in
    subst P (take_all c.loop-fault.fault-index c.args.found.now c.loop-fault-test.false) c.loop-fault.invariant
