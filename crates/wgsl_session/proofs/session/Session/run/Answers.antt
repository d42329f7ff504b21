use Rattle.std.proofs.Common.{◌≡◌, length, map, arith}
use Rattle.std.specs.Vec.Iter.{into_iter_items}
use Rattle.wgsl_session.specs.View.{answer_of, call_of}
use Rattle.wgsl_session.proofs.Runs.{so_far_end, so_far_in_step, so_far_taken}
use Rattle.wgsl_session.proofs.session.Session.run.Goals as goal

pub returns-clause-run : goal.returns-clause-run
returns-clause-run c =
    let none : length (into_iter_items c.loop-call.call-iterator) ≡ 0 = omega (arith, c.in-None.ensures.steps, c.loop-call.invariant.counted) in
    so_far_end call_of c.args.self.now (map call_of c.args.calls.items) c.loop-call.self (into_iter_items c.loop-call.call-iterator) (map answer_of c.loop-call.replies.items)
    none c.loop-call.invariant.so_far

pub returns-clause-bytes : goal.returns-clause-bytes
returns-clause-bytes c =
    let none : length (into_iter_items c.loop-call.call-iterator) ≡ 0 = omega (arith, c.in-None.ensures.steps, c.loop-call.invariant.counted) in
    (so_far_in_step call_of c.args.self.now (map call_of c.args.calls.items) c.loop-call.self (into_iter_items c.loop-call.call-iterator) (map answer_of c.loop-call.replies.items)
    c.attest.ensures c.requires none c.loop-call.invariant.so_far).0

pub returns-clause-good : goal.returns-clause-good
returns-clause-good c =
    let none : length (into_iter_items c.loop-call.call-iterator) ≡ 0 = omega (arith, c.in-None.ensures.steps, c.loop-call.invariant.counted) in
    (so_far_in_step call_of c.args.self.now (map call_of c.args.calls.items) c.loop-call.self (into_iter_items c.loop-call.call-iterator) (map answer_of c.loop-call.replies.items)
    c.attest.ensures c.requires none c.loop-call.invariant.so_far).1

pub returns-clause-accepted : goal.returns-clause-accepted
returns-clause-accepted c =
    let none : length (into_iter_items c.loop-call.call-iterator) ≡ 0 = omega (arith, c.in-None.ensures.steps, c.loop-call.invariant.counted) in
    so_far_taken call_of c.args.self.now (map call_of c.args.calls.items) c.loop-call.self (into_iter_items c.loop-call.call-iterator) (map answer_of c.loop-call.replies.items)
    none c.loop-call.invariant.so_far
