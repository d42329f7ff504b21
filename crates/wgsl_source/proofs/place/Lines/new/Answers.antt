use Rattle.std.proofs.Common.{◌<◌, length, arith}
use Rattle.std.proofs.lemmas.Grind.{common_steps}
use Rattle.wgsl_source.proofs.LineStarts.{line_starts-more}
use Rattle.wgsl_source.proofs.place.Lines.new.Goals as goal
use Rattle.wgsl_source.proofs.place.Lines.new.Goals.{then-byte-eq10+in_ok-push, else-byte-eq10}

pub loop-at-preserved : goal.loop-at-preserved
loop-at-preserved c =
    let within : c.loop-at.at < length c.args.text.now = grind (arith, common_steps) in
    let e = line_starts-more c.args.text.now c.loop-at.at within in
    elim c.if-byte-eq10.branch [ then-byte-eq10+in_ok-push w ↦ grind (arith, common_steps) | else-byte-eq10 w ↦ grind (arith, common_steps) ]
