use Rattle.wgsl_c.specs.Records.{AreRecords}
use Rattle.wgsl_c.proofs.Tables.{answered}
use Rattle.wgsl_c.proofs.nodes.given_records.Goals as goal

pub returns : goal.returns
returns c = λ source text stage flags are.
    answered (AreRecords source text stage flags) c.args.nodes.now c.args.out.now c.given.new.out c.args.faults c.given.result are c.given.ensures.answer c.given.ensures.left
