-- What a session answers where bytes lay out a value, and where they lay out none.
use Rattle.std.proofs.Common.{◌≡◌, ℕ, List, slice_get, Option, Some, None, IsSomeAnd, Ok, Err, Result, refl, subst}
use Rattle.wgsl_rules.specs.Values.{Reference, Val}
use Rattle.wgsl_layout.specs.Buffers.{decode}
use Rattle.wgsl_session.specs.Calls.{State, Call, write, IsStep}
use Rattle.wgsl_session.specs.LaidOut.{IsStepOf, IsWriteOf}
use Rattle.wgsl_session.specs.View.{reply_of}
use Rattle.wgsl_session.specs.declared.call.Reply.{Reply}
use Rattle.wgsl_session.specs.declared.call.Fault.{Fault}
use Rattle.wgsl_session.specs.declared.call.Fault.TheVariants.{NoHandle}

module _ (before after : State Val) where
  pub value-of : (call : Val → Call) (o : Option Val) (answer : Option Reply) (reply : Reply) → IsStepOf IsStep call o before after (Ok answer) → answer ≡ Some reply → IsSomeAnd o (λ v. IsStep before (call v) after (Some (reply_of reply)))
  value-of call o answer reply h is = by o (subst (λ (a : Option Reply). IsStepOf IsStep call o before after (Ok a)) is h)
    where
      by : (o : Option Val) → IsStepOf IsStep call o before after (Ok (Some reply)) → IsSomeAnd o (λ v. IsStep before (call v) after (Some (reply_of reply)))
      by None h = absurd h
      by (Some v) h = h

  pub none-of : (call : Val → Call) (o : Option Val) (answer : Option Reply) → IsStepOf IsStep call o before after (Ok answer) → answer ≡ None → (o ≡ None) × (after ≡ before)
  none-of call o answer h is = by o (subst (λ (a : Option Reply). IsStepOf IsStep call o before after (Ok a)) is h)
    where
      by : (o : Option Val) → IsStepOf IsStep call o before after (Ok None) → (o ≡ None) × (after ≡ before)
      by None h = (refl, h)
      by (Some v) h = absurd h

  -- a write where the handle has this reference
  abbrev IsWriteAt : ℕ → List ℕ → Result (Option Reply) Fault → Option Reference → Type 0
  IsWriteAt h b result None = (after ≡ before) × (result ≡ Err NoHandle)
  IsWriteAt h b result (Some r) = IsStepOf IsStep (write h) (decode b r.ty) before after result

  pub none-written-of : (h : ℕ) (b : List ℕ) (answer : Option Reply) → IsWriteOf IsStep h b before.handles before after (Ok answer) → answer ≡ None
      → IsSomeAnd (slice_get before.handles h) (λ r. (decode b r.ty ≡ None) × (after ≡ before))
  none-written-of h b answer = by (slice_get before.handles h)
    where
      by : (o : Option Reference) → IsWriteAt h b (Ok answer) o → answer ≡ None → IsSomeAnd o (λ r. (decode b r.ty ≡ None) × (after ≡ before))
      by None w is = absurd (cc)
      by (Some r) w is = none-of (write h) (decode b r.ty) answer w is
