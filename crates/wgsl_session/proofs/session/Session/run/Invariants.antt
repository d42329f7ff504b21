use Rattle.std.proofs.Common.{◌≡◌, ◌+◌, ◌≤◌, length, map, vec_len, vec_capacity}
use Rattle.std.specs.Vec.Iter.{into_iter_items, into_iter_len}
use Rattle.wgsl_session.specs.Calls.{AreSoundCalls}
use Rattle.wgsl_session.specs.View.{answer_of, call_of}
use Rattle.wgsl_session.proofs.Runs.{IsSoFar}
use Rattle.wgsl_session.proofs.session.Session.run.Given as goal

abbrev pub invariant-loop-call : goal.invariant-loop-call
invariant-loop-call l = record {
  can_next : (goal.iterator-loop-call).can_next l.call-iterator;
  is_finite : (goal.iterator-loop-call).is_finite l.call-iterator;
  counted : into_iter_len l.call-iterator ≡ length (into_iter_items l.call-iterator);
  room : vec_len l.replies + into_iter_len l.call-iterator ≤ vec_capacity l.replies;
  sound : AreSoundCalls (map call_of (into_iter_items l.call-iterator));
  so_far : IsSoFar l.fn.self (map call_of l.fn.calls.items) l.self (map call_of (into_iter_items l.call-iterator)) (map answer_of l.replies.items);
}
