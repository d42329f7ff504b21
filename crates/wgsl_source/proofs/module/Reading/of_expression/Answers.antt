use Rattle.std.proofs.Common.{map}
use Rattle.wgsl_source.specs.Readings.{extent_in}
use Rattle.wgsl_source.proofs.FaultLemmas.{kept_then, covered_then, permuted}
use Rattle.wgsl_source.proofs.module.Reading.of_expression.Goals as goal

pub returns-clause-tokens : goal.returns-clause-tokens
returns-clause-tokens c =
    let marked = c.marked_tokens.new.faults.faults.items in
    let read = c.read_expression.new.faults.faults.items in
    let refused = c.add_refused.new.faults.faults.items in
    let sorted = c.in_ok-into_sorted.field-0.items in
    covered_then c.args.text.now (map extent_in c.in_ok-tokens.tokens.items) marked sorted
    (kept_then marked read sorted c.read_expression.ensures.kept (kept_then read refused sorted c.add_refused.ensures (permuted refused sorted c.in_ok-into_sorted.ensures.same)))
    c.in_ok-tokens.ensures
