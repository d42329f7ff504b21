use Rattle.std.proofs.Common.{rules}
use Rattle.wgsl_source.specs.Readings.{word_at}
use Rattle.wgsl_eval.proofs.Beyond.{fault-name}
use Rattle.wgsl_eval.proofs.evaluator.Evaluator.of_language.Goals as goal

pub returns-in-None-3-clause-named : goal.returns-in-None-3-clause-named
returns-in-None-3-clause-named c =
    fault-name (word_at c.args.self.now.reading.now c.args.token) c.word-name.result.now c.nothing_named.result c.word-name.ensures (search rules) c.nothing_named.ensures.fault
