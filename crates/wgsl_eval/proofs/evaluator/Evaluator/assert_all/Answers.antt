use Rattle.std.proofs.Common.{◌<◌, length, arith}
use Rattle.wgsl_eval.specs.Evaluators.{setting_of}
use Rattle.wgsl_eval.proofs.Walks.{asserted_answers, asserted_more}
use Rattle.wgsl_eval.proofs.evaluator.Evaluator.assert_all.Goals as goal

pub loop-span-preserved : goal.loop-span-preserved
loop-span-preserved c =
    let all = c.asserts-asserts.result.now in
    let i = c.loop-span.span-index in
    let inside : i < length all = omega arith in
    record {
      answers = asserted_answers (setting_of c.loop-span.self) (setting_of c.assert.new.self) _ c.in_ok-assertion.assertion c.in_ok-assertion.ensures c.loop-span.invariant.answers;
      so_far = asserted_more (setting_of c.args.self.now) all i _ c.loop-span.found.items c.push.new.self.items c.in_ok-assertion.assertion (setting_of c.loop-span.self)
          (setting_of c.assert.new.self) inside c.in_ok-push.ensures.items c.loop-span.invariant.so_far c.in_ok-assertion.ensures;
    }
