use Rattle.std.proofs.Common.{refl}
use Rattle.wgsl_source.specs.Readings.{word_at}
use Rattle.wgsl_report.proofs.Named.{end-of, name-is}
use Rattle.wgsl_report.proofs.eval.last_outcome.Goals as goal

pub returns-then-eq : goal.returns-then-eq
returns-then-eq c =
    let value = c.in_ok-value.value in
    record {
      value = value;
      there = end-of c.pop.new.self.items c.args.values.items value c.in_ok-value.ensures.items;
      named = name-is c.word.result.now (word_at c.args.reading.now value.token) c.args.name.now c.eq.result c.eq.ensures c.if-eq.true c.word.ensures;
      outcome_is = refl;
    }
