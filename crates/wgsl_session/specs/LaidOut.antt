-- Calls with the values that bytes lay out (WGSL: internal layout of values; assignment statement).
use Rattle.std.specs.Prelude.{◌≡◌, ℕ, List, slice_get, Option, Some, None, Result, Ok, Err}
use Rattle.wgsl_rules.specs.Values.{Reference, Val}
use Rattle.wgsl_layout.specs.Buffers.{decode}
use Rattle.wgsl_session.specs.Calls.{Call, Answer, write}
use Rattle.wgsl_session.specs.View.{fault_of, reply_of}
use Rattle.wgsl_session.specs.declared.call.Reply.{Reply}
use Rattle.wgsl_session.specs.declared.call.Fault.{Fault}
use Rattle.wgsl_session.specs.declared.call.Fault.TheVariants.{NoHandle}

-- the call with the value that bytes lay out does its step, by what says how a call does it. Where they lay out none,
-- nothing changes and nothing is answered
abbrev pub IsStepOf : {S : Type 0} → (S → Call → S → Option Answer → Type 0) → (Val → Call) → Option Val → S → S → Result (Option Reply) Fault → Type 0
IsStepOf IsOne call None before after (Ok None) = after ≡ before
IsStepOf IsOne call None before after (Ok (Some reply)) = ⊥
IsStepOf IsOne call None before after (Err fault) = (after ≡ before) × (fault_of fault ≡ None)
IsStepOf IsOne call (Some v) before after (Ok None) = ⊥
IsStepOf IsOne call (Some v) before after (Ok (Some reply)) = IsOne before (call v) after (Some (reply_of reply))
IsStepOf IsOne call (Some v) before after (Err fault) = IsOne before (call v) after (fault_of fault)

-- a write of the value that bytes lay out in the type of what the handle names, which has to be there
abbrev pub IsWriteOf : {S : Type 0} → (S → Call → S → Option Answer → Type 0) → ℕ → List ℕ → List Reference → S → S → Result (Option Reply) Fault → Type 0
IsWriteOf IsOne h b handles before after result =
    elim (slice_get handles h) [ None ↦ (after ≡ before) × (result ≡ Err NoHandle) | Some r ↦ IsStepOf IsOne (write h) (decode b r.ty) before after result ]
