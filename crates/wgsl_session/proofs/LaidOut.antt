-- Calls with the values that bytes lay out. Such a value may be stored, and holds no reference or pointer: neither has
-- a layout, and each part of a value whose type has a layout has one.
use Rattle.std.proofs.Common.{◌≡◌, ◌⊎◌, ℕ, List, [], ◌∷◌, ◌++◌, map, length, slice_get, Option, Some, None, option_map, Result, Ok, Err, true, false, refl, sym, ap, ◌∙◌, subst}
use Rattle.std.specs.Prelude.{IsOk, MatchOption}
use Rattle.std.specs.Result.{IsErrAnd}
use Rattle.std.proofs.lemmas.List.{length-map, map-append}
use Rattle.std.proofs.lemmas.Option.{none-some, same_Some}
use mathlib.Core.Logic.{inl, inr}
use Rattle.wgsl_rules.specs.Layout.{HasLayout}
use Rattle.wgsl_rules.specs.Paths.{value_at}
use Rattle.wgsl_rules.specs.Refusals.{Refusal, Outcome, and_then}
use Rattle.wgsl_rules.specs.Types.{Ty}
use Rattle.wgsl_rules.specs.Values.{Reference, Val, reference, pointer, type_of, IsStorable}
use Rattle.wgsl_rules.specs.declared.syntax.AddressSpace.{AddressSpace}
use Rattle.wgsl_rules.specs.declared.syntax.AccessMode.{AccessMode}
use Rattle.wgsl_scalar.specs.Answers.{refusal_of}
use Rattle.wgsl_scalar.specs.declared.error.Error.{Error}
use Rattle.wgsl_scalar.specs.declared.error.Error.TheVariants.{Memory}
use Rattle.wgsl_layout.specs.Buffers.{decode, IsReadOf, Lays}
use Rattle.wgsl_store.specs.Copies.{in_bytes}
use Rattle.wgsl_store.specs.LaidOut.{IsNewOf, written_of}
use Rattle.wgsl_store.specs.Memory.{IsKept, AllKept, references}
use Rattle.wgsl_store.specs.ReferenceCalls.{whole_of_new, written}
use Rattle.wgsl_layout.proofs.lemmas.Compose.{compose}
use Rattle.wgsl_layout.proofs.lemmas.Decoded.{decoding-is-reading}
use Rattle.wgsl_store.proofs.lemmas.HeldPaths.{held-by-paths}
use Rattle.wgsl_session.specs.Calls.{State, Call, Answer, new, write, handle, done, refused, After, with_handle, IsPlain, IsSoundCall, IsStep, IsAcceptedWrite, IsGood}
use Rattle.wgsl_session.specs.Flat.{IsFlatStep, flat_of}
use Rattle.wgsl_session.specs.LaidOut.{IsStepOf, IsWriteOf}
use Rattle.wgsl_session.specs.View.{fault_of, reply_of}
use Rattle.wgsl_session.specs.declared.call.Reply.{Reply}
use Rattle.wgsl_session.specs.declared.call.Reply.TheVariants as replies
use Rattle.wgsl_session.specs.declared.call.Fault.{Fault}
use Rattle.wgsl_session.specs.declared.call.Fault.TheVariants.{NoHandle, Of}
use Rattle.wgsl_session.proofs.Answering.{after_write, write-is, write-done, write-refused}
use Rattle.wgsl_session.proofs.Good.{good-after}
use Rattle.wgsl_session.proofs.InStep.{in-step}

-- ---- the values

-- no reference stands at a path
kept-nowhere : (v : Val) (p : List ℕ) (r : Reference) → IsStorable v → HasLayout (type_of v) → (value_at p v ≡ Some (reference r)) ⊎ (value_at p v ≡ Some (pointer r)) → IsKept [] r
kept-nowhere v p r storable layout (inl e) = let not_so : false ≡ true = (compose v (reference r) p storable layout e).0 in cc
kept-nowhere v p r storable layout (inr e) = let not_so : false ≡ true = (compose v (pointer r) p storable layout e).0 in cc

-- without cells no reference is kept
none-kept : (rs : List Reference) → AllKept [] rs → rs ≡ []
none-kept [] kept = refl
none-kept (r ∷ rs) kept = absurd kept.0

laid-plain : (b : List ℕ) (t : Ty) (v : Val) → Lays b t v → IsPlain v
laid-plain b t v laid =
    let layout : HasLayout (type_of v) = subst HasLayout (sym laid.typed) laid.layout in
    (laid.storable, none-kept (references v) ((held-by-paths [] v).1 (λ p r e. kept-nowhere v p r laid.storable layout e)))

pub plain : (b : List ℕ) (t : Ty) (v : Val) → decode b t ≡ Some v → IsPlain v
plain b t v e = laid-plain b t v (by (decode b t) (decoding-is-reading b t) e)
  where
    by : (o : Option Val) → IsReadOf b t o → o ≡ Some v → Lays b t v
    by None read is = absurd (cc)
    by (Some w) read is = subst (Lays b t) (same_Some w v is) read.0

-- ---- the memory of bytes is in step, and the memory is good after it

-- a write where the handle has this reference
abbrev IsWriteAt : {S : Type 0} → (S → Call → S → Option Answer → Type 0) → ℕ → List ℕ → S → S → Result (Option Reply) Fault → Option Reference → Type 0
IsWriteAt IsOne h b before after result None = (after ≡ before) × (result ≡ Err NoHandle)
IsWriteAt IsOne h b before after result (Some r) = IsStepOf IsOne (write h) (decode b r.ty) before after result

module _ (before after : State Val) (result : Result (Option Reply) Fault) (good : IsGood before) where
  step-in-step : (call : Val → Call) (o : Option Val) → ((v : Val) → o ≡ Some v → IsSoundCall (call v)) → IsStepOf IsStep call o before after result → IsStepOf IsFlatStep call o (flat_of before) (flat_of after) result
  step-in-step call o sound = by o sound result
    where
      by : (o : Option Val) → ((v : Val) → o ≡ Some v → IsSoundCall (call v)) → (result : Result (Option Reply) Fault) → IsStepOf IsStep call o before after result → IsStepOf IsFlatStep call o (flat_of before) (flat_of after) result
      by None sound (Ok None) e = ap flat_of e
      by None sound (Ok (Some reply)) e = absurd e
      by None sound (Err fault) e = (ap flat_of e.0, e.1)
      by (Some v) sound (Ok None) e = absurd e
      by (Some v) sound (Ok (Some reply)) e = in-step before after (call v) (Some (reply_of reply)) good (sound v refl) e
      by (Some v) sound (Err fault) e = in-step before after (call v) (fault_of fault) good (sound v refl) e

  step-good : (call : Val → Call) (o : Option Val) → ((v : Val) → o ≡ Some v → IsSoundCall (call v)) → IsStepOf IsStep call o before after result → IsGood after
  step-good call o sound = by o sound result
    where
      by : (o : Option Val) → ((v : Val) → o ≡ Some v → IsSoundCall (call v)) → (result : Result (Option Reply) Fault) → IsStepOf IsStep call o before after result → IsGood after
      by None sound (Ok None) e = subst IsGood (sym e) good
      by None sound (Ok (Some reply)) e = absurd e
      by None sound (Err fault) e = subst IsGood (sym e.0) good
      by (Some v) sound (Ok None) e = absurd e
      by (Some v) sound (Ok (Some reply)) e = good-after before after (call v) (Some (reply_of reply)) good (sound v refl) e
      by (Some v) sound (Err fault) e = good-after before after (call v) (fault_of fault) good (sound v refl) e

  pub new-in-step : (b : List ℕ) (t : Ty) (space : AddressSpace) (access : AccessMode) → IsStepOf IsStep (λ v. new v space access) (decode b t) before after result
      → IsStepOf IsFlatStep (λ v. new v space access) (decode b t) (flat_of before) (flat_of after) result
  new-in-step b t space access = step-in-step (λ v. new v space access) (decode b t) (λ v e. plain b t v e)

  pub new-good : (b : List ℕ) (t : Ty) (space : AddressSpace) (access : AccessMode) → IsStepOf IsStep (λ v. new v space access) (decode b t) before after result → IsGood after
  new-good b t space access = step-good (λ v. new v space access) (decode b t) (λ v e. plain b t v e)

  pub write-in-step : (h : ℕ) (b : List ℕ) → IsWriteOf IsStep h b before.handles before after result → IsWriteOf IsFlatStep h b before.handles (flat_of before) (flat_of after) result
  write-in-step h b = by (slice_get before.handles h)
    where
      by : (o : Option Reference) → IsWriteAt IsStep h b before after result o → IsWriteAt IsFlatStep h b (flat_of before) (flat_of after) result o
      by None e = (ap flat_of e.0, e.1)
      by (Some r) e = step-in-step (write h) (decode b r.ty) (λ v s. plain b r.ty v s) e

  pub write-good : (h : ℕ) (b : List ℕ) → IsWriteOf IsStep h b before.handles before after result → IsGood after
  write-good h b = by (slice_get before.handles h)
    where
      by : (o : Option Reference) → IsWriteAt IsStep h b before after result o → IsGood after
      by None e = subst IsGood (sym e.0) good
      by (Some r) e = step-good (write h) (decode b r.ty) (λ v s. plain b r.ty v s) e

-- ---- a new cell. The state that a call finds is that of these cells and handles

abbrev state : List Val → List Reference → State Val
state cells handles = record { cells = cells; handles = handles }

-- want of memory
pub memory-step : (call : Val → Call) (o : Option Val) (before after : State Val) (result : Result (Option Reply) Fault) → after ≡ before → IsErrAnd result (λ f. f ≡ Of Memory) → IsStepOf IsStep call o before after result
memory-step call o before after (Ok x) same gone = absurd gone
memory-step call None before after (Err fault) same gone = (same, ap fault_of gone)
memory-step call (Some v) before after (Err fault) same gone = subst (IsStep before (call v) after) (sym (ap fault_of gone)) same

-- the handles are those that were there
pub same-handles : {X : Type 0} (view : X → Reference) (s : State Val) (cells : List Val) (items left : List X) → state cells (map view items) ≡ s → left ≡ items → state cells (map view left) ≡ s
same-handles {X = X} view s cells items left found same = ap (λ (xs : List X). state cells (map view xs)) same ∙ found

pub same-session : {X : Type 0} (view : X → Reference) (s : State Val) (cells after : List Val) (items left : List X) → state cells (map view items) ≡ s → after ≡ cells → left ≡ items → state after (map view left) ≡ s
same-session view s cells after items left found unchanged same = ap (λ (cs : List Val). state cs (map view left)) unchanged ∙ same-handles view s cells items left found same

pub none-made : {X : Type 0} (view : X → Reference) (o : Option Val) (space : AddressSpace) (access : AccessMode) (s : State Val) (cells after : List Val) (items left : List X) (made : Option X) → state cells (map view items) ≡ s → left ≡ items
    → IsNewOf o space access cells after (option_map view made) → made ≡ None → IsStepOf IsStep (λ v. new v space access) o s (state after (map view left)) (Ok None)
none-made view None space access s cells after items left made found same is none =
    same-session view s cells after items left found is.1 same
none-made view (Some v) space access s cells after items left made found same is none =
    absurd (none-some (whole_of_new cells v space access) (sym (ap (option_map view) none) ∙ is.0))

made-step : (v : Val) (space : AddressSpace) (access : AccessMode) (cells after : List Val) (handles left : List Reference) (r : Reference) (n : ℕ) → left ≡ handles ++ r ∷ [] → n ≡ length handles → r ≡ whole_of_new cells v space access
    → after ≡ cells ++ v ∷ [] → IsStep (state cells handles) (new v space access) (state after left) (Some (handle n))
made-step v space access cells after handles left r n one count is new_cells =
    ap (λ (cs : List Val). with_handle (state cells handles) cs (whole_of_new cells v space access)) (sym new_cells)
    ∙ ap (with_handle (state cells handles) after) (sym is)
    ∙ ap (λ (rs : List Reference). left_with after rs (length handles)) (sym one)
    ∙ ap (left_with after left) (sym count)
  where
    left_with : List Val → List Reference → ℕ → After Val
    left_with cs rs k = record { state = state cs rs; answer = handle k }

pub one-made : {X : Type 0} (view : X → Reference) (o : Option Val) (space : AddressSpace) (access : AccessMode) (s : State Val) (cells after : List Val) (items left : List X) (made : Option X) (x : X) (n : ℕ) → state cells (map view items) ≡ s
    → left ≡ items ++ x ∷ [] → n ≡ length items → IsNewOf o space access cells after (option_map view made) → made ≡ Some x
    → IsStepOf IsStep (λ v. new v space access) o s (state after (map view left)) (Ok (Some (replies.Handle n)))
one-made view None space access s cells after items left made x n found one count is there = absurd (none-some (view x) (sym is.0 ∙ ap (option_map view) there))
one-made view (Some v) space access s cells after items left made x n found one count is there =
    subst (λ (t : State Val). IsStep t (new v space access) (state after (map view left)) (Some (handle n))) found
    (made-step v space access cells after (map view items) (map view left) (view x) n (ap (map view) one ∙ map-append view items (x ∷ [])) (count ∙ sym (length-map items view))
    (same_Some (view x) (whole_of_new cells v space access) (sym (ap (option_map view) there) ∙ is.0)) is.1)

-- ---- a write

pub no-handle : (s : State Val) (h : ℕ) (b : List ℕ) → None ≡ slice_get s.handles h → IsWriteOf IsStep h b s.handles s s (Err NoHandle)
no-handle s h b none = subst (IsWriteAt IsStep h b s s (Err NoHandle)) none (refl, refl)

-- the value is written
pub value-written : (o : Option Val) (s : State Val) (cells after : List Val) (handles : List Reference) (h : ℕ) (r : Reference) → state cells handles ≡ s → Some r ≡ slice_get handles h → written_of cells r o ≡ Ok (Some after)
    → IsStepOf IsStep (write h) o s (state after handles) (Ok (Some replies.Done))
value-written None s cells after handles h r found there gives = absurd (cc)
value-written (Some v) s cells after handles h r found there gives = write-done s cells after handles h r v found there (by (written cells r v) gives)
  where
    by : (w : Outcome (List Val)) → and_then w (λ cs. Ok (Some cs)) ≡ Ok (Some after) → w ≡ Ok after
    by (Ok cs) e = cc
    by (Err x) e = absurd (cc)

-- they lay out none
pub none-written : (o : Option Val) (s : State Val) (cells after : List Val) (handles : List Reference) (h : ℕ) (r : Reference) → state cells handles ≡ s → after ≡ cells → written_of cells r o ≡ Ok None
    → IsStepOf IsStep (write h) o s (state after handles) (Ok None)
none-written None s cells after handles h r found same gives = ap (λ (cs : List Val). state cs handles) same ∙ found
none-written (Some v) s cells after handles h r found same gives = absurd (by (written cells r v) gives)
  where
    by : (w : Outcome (List Val)) → and_then w (λ cs. Ok (Some cs)) ≡ Ok None → ⊥
    by (Ok cs) e = cc
    by (Err x) e = cc

-- the write is refused, or memory is wanting
pub write-stopped : (o : Option Val) (s : State Val) (cells after : List Val) (handles : List Reference) (h : ℕ) (r : Reference) (e : Error) (result : Result (Option Reply) Fault) → state cells handles ≡ s → Some r ≡ slice_get handles h
    → MatchOption (refusal_of e) (Unit {0}) (λ x. written_of cells r o ≡ Err x) → after ≡ cells → IsErrAnd result (λ f. f ≡ Of e) → IsStepOf IsStep (write h) o s (state after handles) result
write-stopped o s cells after handles h r e (Ok x) found there gives same gone = absurd gone
write-stopped None s cells after handles h r e (Err fault) found there gives same gone =
    (ap (λ (cs : List Val). state cs handles) same ∙ found, ap fault_of gone ∙ by (refusal_of e) gives)
  where
    by : (x : Option Refusal) → MatchOption x (Unit {0}) (λ y. ◌≡◌ {A = Outcome (Option (List Val))} (Ok None) (Err y)) → option_map refused x ≡ None
    by None g = refl
    by (Some y) g = absurd (cc)
write-stopped (Some v) s cells after handles h r e (Err fault) found there gives same gone = write-refused s cells after handles h r v e (Err fault) found there (by (refusal_of e) (written cells r v) gives) same gone
  where
    one : (x : Refusal) (w : Outcome (List Val)) → and_then w (λ cs. Ok (Some cs)) ≡ Err x → w ≡ Err x
    one x (Ok cs) g = absurd (cc)
    one x (Err y) g = cc

    by : (x : Option Refusal) (w : Outcome (List Val)) → MatchOption x (Unit {0}) (λ y. and_then w (λ cs. Ok (Some cs)) ≡ Err y) → MatchOption x (Unit {0}) (λ y. w ≡ Err y)
    by None w g = tt
    by (Some y) w g = one y w g

-- the step of a write at a handle that is there
pub write-at : (s : State Val) (cells : List Val) (handles : List Reference) (h : ℕ) (b : List ℕ) (r : Reference) (after : State Val) (result : Result (Option Reply) Fault) → state cells handles ≡ s → Some r ≡ slice_get handles h
    → IsStepOf IsStep (write h) (decode b r.ty) s after result → IsWriteOf IsStep h b s.handles s after result
write-at s cells handles h b r after result found there e =
    let at : Some r ≡ slice_get s.handles h = there ∙ ap (λ (t : State Val). slice_get t.handles h) found in
    subst (IsWriteAt IsStep h b s after result) at e

-- one that is accepted names a part of a cell of bytes, and is written
pub write-accepted : (s : State Val) (cells : List Val) (handles : List Reference) (h : ℕ) (b : List ℕ) (r q : Reference) (v : Val) → state cells handles ≡ s → Some r ≡ slice_get handles h
    → slice_get s.handles h ≡ Some q → in_bytes s.cells q ≡ true → decode b q.ty ≡ Some v → IsAcceptedWrite s (write h v) → (in_bytes cells r ≡ true) × IsOk (written_of cells r (decode b r.ty))
write-accepted s cells handles h b r q v found there at flat is accepted =
    let same : r ≡ q = same_Some r q (there ∙ ap (λ (t : State Val). slice_get t.handles h) found ∙ at) in
    let decoded : decode b r.ty ≡ Some v = ap (λ (p : Reference). decode b p.ty) same ∙ is in
    let here : IsAcceptedWrite (state cells handles) (write h v) = subst (λ (t : State Val). IsAcceptedWrite t (write h v)) (sym found) accepted in (
      ap (λ (t : State Val). in_bytes t.cells r) found ∙ ap (in_bytes s.cells) same ∙ flat,
      subst (λ (o : Option Val). IsOk (written_of cells r o)) (sym decoded) (by (written cells r v) (sym (ap (λ (a : After Val). a.answer) (write-is (state cells handles) h r v there)) ∙ here)),
    )
  where
    by : (o : Outcome (List Val)) → (after_write (state cells handles) o).answer ≡ done → IsOk (and_then o (λ cs. Ok (Some cs)))
    by (Ok cs) e = refl
    by (Err y) e = absurd (cc)
