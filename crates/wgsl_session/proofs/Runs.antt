-- Lists of calls, made one after the other.
use Rattle.std.proofs.Common.{◌≡◌, List, [], ◌∷◌, ◌++◌, length, map, Option, Some, Result, Ok, Err, refl, sym, ap, ◌∙◌, append_assoc, append-nil, arith}
use Rattle.std.specs.Prelude.{IsOk}
use Rattle.std.proofs.lemmas.Bool.{false≢true}
use Rattle.wgsl_rules.specs.Values.{Val}
use Rattle.wgsl_session.specs.Calls.{State, Call, write, copy, Answer, done, After, AreSoundCalls, step, of_values, IsStep, IsAcceptedWrite, IsStepTaken, IsRun, IsRunTaken, IsGood}
use Rattle.wgsl_session.specs.Flat.{IsFlatRun, flat_of}
use Rattle.wgsl_session.specs.View.{answer_of}
use Rattle.wgsl_session.specs.declared.call.Reply.{Reply}
use Rattle.wgsl_session.specs.declared.call.Fault.{Fault}
use Rattle.wgsl_session.proofs.Good.{runs-in-step}

accepted-answer : (s : State Val) (call : Call) → IsAcceptedWrite s call → (step (of_values s.cells) s call).answer ≡ done
accepted-answer s (write h w) a = a
accepted-answer s (copy from to) a = a.1
accepted-answer s call a = absurd a

-- a call that answers each accepted write takes its step
pub step-taken : (before after : State Val) (call : Call) (result : Result Reply Fault) → IsStep before call after (answer_of result) → (IsAcceptedWrite before call → IsOk result) → IsStepTaken before call after (answer_of result)
step-taken before after call (Ok reply) e h = (e, λ a. ap Some (sym (ap (λ (x : After Val). x.answer) e) ∙ accepted-answer before call a))
step-taken before after call (Err fault) e h = (e, λ a. absurd (false≢true (h a)))

taken-run : (before after : State Val) (calls : List Call) (answers : List (Option Answer)) → IsRunTaken before calls after answers → IsRun before calls after answers
taken-run before after [] answers h = h
taken-run before after (call ∷ calls) [] h = absurd h
taken-run before after (call ∷ calls) (answer ∷ answers) h = (h.0, h.1.0, taken-run h.0 after calls answers h.2)

-- a run of the calls that are left makes a run of all of them, after the answers so far
pub record IsSoFar (before : State Val) (all : List Call) (now : State Val) (left : List Call) (answers : List (Option Answer)) : Type 0 where
  pub ran : (after : State Val) (more : List (Option Answer)) → IsRunTaken now left after more → IsRunTaken before all after (answers ++ more)

pub so_far_none : (s : State Val) (all : List Call) → IsSoFar s all s all []
so_far_none s all = record { ran = λ after more h. h }

pub so_far_more : (s : State Val) (all : List Call) (now next : State Val) (call : Call) (left : List Call) (answers : List (Option Answer)) (answer : Option Answer)
    → IsSoFar s all now (call ∷ left) answers → IsStepTaken now call next answer → IsSoFar s all next left (answers ++ answer ∷ [])
so_far_more s all now next call left answers answer h e = record { ran = λ after more k. rw append_assoc (h.ran after (answer ∷ more) (next, e, k)) }

-- no call is left
pub so_far_taken : {A : Type 0} (view : A → Call) (s : State Val) (all : List Call) (now : State Val) (left : List A) (answers : List (Option Answer)) → length left ≡ 0 → IsSoFar s all now (map view left) answers → IsRunTaken s all now answers
so_far_taken view s all now [] answers none h = let a = h.ran now [] (refl, refl) in rw append-nil at a
so_far_taken view s all now (call ∷ left) answers none h = absurd (omega arith)

pub so_far_end : {A : Type 0} (view : A → Call) (s : State Val) (all : List Call) (now : State Val) (left : List A) (answers : List (Option Answer)) → length left ≡ 0 → IsSoFar s all now (map view left) answers → IsRun s all now answers
so_far_end view s all now left answers none h = taken-run s now all answers (so_far_taken view s all now left answers none h)

-- the memory of bytes has run too, and the memory is good after it
pub so_far_in_step : {A : Type 0} (view : A → Call) (s : State Val) (all : List Call) (now : State Val) (left : List A) (answers : List (Option Answer)) → IsGood s → AreSoundCalls all → length left ≡ 0
    → IsSoFar s all now (map view left) answers → IsFlatRun (flat_of s) all (flat_of now) answers × IsGood now
so_far_in_step view s all now left answers good sound none h = runs-in-step s now all answers good sound (so_far_end view s all now left answers none h)
