use Rattle.std.proofs.Common.{map}
use Rattle.wgsl_session.specs.Calls.{AreSoundCalls}
use Rattle.wgsl_session.specs.View.{call_of}
use Rattle.wgsl_session_tests.proofs.tests.plain_memory.Both.assert_run.Given as goal

abbrev pub invariant-loop : goal.invariant-loop
invariant-loop g l = AreSoundCalls (map call_of l.calls.items)
