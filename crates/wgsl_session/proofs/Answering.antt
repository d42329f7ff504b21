-- The steps of calls, from what the calls on a reference answer.
use Rattle.std.proofs.Common.{◌≡◌, ℕ, List, slice_get, Option, Some, None, option_map, Result, Ok, Err, false, refl, sym, ap, ◌∙◌, subst}
use Rattle.std.proofs.lemmas.Bool.{false≢true}
use Rattle.std.specs.Prelude.{IsOk, IsTrue, MatchOption}
use Rattle.std.specs.Result.{IsErrAnd}
use Rattle.wgsl_rules.specs.Values.{Reference, Val}
use Rattle.wgsl_rules.specs.Refusals.{Refusal, not_write, not_read_write, Outcome, and_then}
use Rattle.wgsl_scalar.specs.Answers.{refusal_of}
use Rattle.wgsl_scalar.specs.declared.error.Error.{Error}
use Rattle.wgsl_store.specs.Copies.{are_in_bytes, copied}
use Rattle.wgsl_store.specs.Memory.{held, IsKept, put_cells}
use Rattle.wgsl_store.specs.ReferenceCalls.{read, old_value, loaded, written, Replaced, read_written}
use Rattle.wgsl_store.proofs.lemmas.Loads.{loading-reads-on}
use Rattle.wgsl_session.specs.Calls.{State, write, replace, copy, load_of, value, done, no_handle, refused, After, unchanged, changed, at_handle, or_unchanged, step, of_values, handles_in_bytes, IsAcceptedWrite, IsReached, IsStep}
use Rattle.wgsl_session.specs.View.{answer_of}
use Rattle.wgsl_session.specs.declared.call.Reply.{Reply}
use Rattle.wgsl_session.specs.declared.call.Fault.{Fault}
use Rattle.wgsl_session.specs.declared.call.Fault.TheVariants.{Of}

-- ---- what is left where a call on a reference answers this

abbrev pub after_write : State Val → Outcome (List Val) → After Val
after_write s (Ok cells) = changed s cells done
after_write s (Err e) = unchanged s (refused e)

abbrev pub after_replace : State Val → Outcome Replaced → After Val
after_replace s (Ok both) = changed s both.cells (value both.old)
after_replace s (Err e) = unchanged s (refused e)

abbrev pub after_read : State Val → Outcome Val → After Val
after_read s o = or_unchanged s o (λ v. unchanged s (value v))

-- ---- the steps are these

at : (s : State Val) (h : ℕ) (r : Reference) (f : Reference → After Val) → Some r ≡ slice_get s.handles h → at_handle s h f ≡ f r
at s h r f e = by (slice_get s.handles h) refl e
  where
    by : (o : Option Reference) → slice_get s.handles h ≡ o → Some r ≡ o → at_handle s h f ≡ f r
    by None is e = absurd (cc)
    by (Some q) is e = ap (λ (o : Option Reference). elim o [ None ↦ unchanged s no_handle | Some q ↦ f q ]) (is ∙ sym e)

pub write-is : (s : State Val) (h : ℕ) (r : Reference) (w : Val) → Some r ≡ slice_get s.handles h → step (of_values s.cells) s (write h w) ≡ after_write s (written s.cells r w)
write-is s h r w e = at s h r _ e ∙ by (old_value not_write (held s.cells) r w)
  where
    by : (o : Outcome Val) → or_unchanged s o (λ old. changed s (put_cells s.cells r w) done) ≡ after_write s (and_then o (λ old. Ok (put_cells s.cells r w)))
    by (Ok x) = refl
    by (Err x) = refl

pub replace-is : (s : State Val) (h : ℕ) (r : Reference) (w : Val) → Some r ≡ slice_get s.handles h → step (of_values s.cells) s (replace h w) ≡ after_replace s (read_written s.cells r w)
replace-is s h r w e = at s h r _ e ∙ by (old_value not_read_write (held s.cells) r w)
  where
    by : (o : Outcome Val) → or_unchanged s o (λ old. changed s (put_cells s.cells r w) (value old)) ≡ after_replace s (and_then o (λ old. Ok (record { old = old; cells = put_cells s.cells r w })))
    by (Ok x) = refl
    by (Err x) = refl

pub copy-is : (s : State Val) (from to : ℕ) (q r : Reference) → Some q ≡ slice_get s.handles from → Some r ≡ slice_get s.handles to
    → step (of_values s.cells) s (copy from to) ≡ after_write s (copied s.cells q r)
copy-is s from to q r e f = at s from q _ e ∙ at s to r _ f ∙ by (read (held s.cells) q)
  where
    put : (w : Val) (o : Outcome Val) → or_unchanged s o (λ old. changed s (put_cells s.cells r w) done) ≡ after_write s (and_then o (λ old. Ok (put_cells s.cells r w)))
    put w (Ok x) = refl
    put w (Err x) = refl

    by : (o : Outcome Val) → or_unchanged s o (λ w. or_unchanged s (old_value not_write (held s.cells) r w) (λ old. changed s (put_cells s.cells r w) done)) ≡ after_write s (and_then o (written s.cells r))
    by (Ok w) = put w (old_value not_write (held s.cells) r w)
    by (Err x) = refl

pub load-is : (s : State Val) (h : ℕ) (r : Reference) → IsKept s.cells r → Some r ≡ slice_get s.handles h
    → step (of_values s.cells) s (load_of h) ≡ after_read s (and_then (read (held s.cells) r) (loaded (held s.cells)))
load-is s h r k e = at s h r _ e ∙ ap (λ (o : Outcome Val). after_read s o) (loading-reads-on s.cells r k)

-- ---- a refusal, or want of memory

pub refused-is : {A : Type 0} (before after : State Val) (reached : After Val) (row : Outcome A → After Val) (outcome : Outcome A) (e : Error) (result : Result Reply Fault)
    → ((x : Refusal) → row (Err x) ≡ unchanged before (refused x)) → reached ≡ row outcome → MatchOption (refusal_of e) (Unit {0}) (λ x. outcome ≡ Err x) → after ≡ before → IsErrAnd result (λ f. f ≡ Of e)
    → IsReached reached before after (answer_of result)
refused-is before after reached row outcome e (Ok reply) rows is gives same gone = absurd gone
refused-is before after reached row outcome e (Err f) rows is gives same gone = subst (λ (g : Fault). IsReached reached before after (answer_of (Err g))) (sym gone) (by (refusal_of e) gives)
  where
    by : (o : Option Refusal) → MatchOption o (Unit {0}) (λ x. outcome ≡ Err x) → IsReached reached before after (option_map refused o)
    by None g = same
    by (Some x) g = is ∙ ap row g ∙ rows x ∙ ap (λ (s : State Val). unchanged s (refused x)) (sym same)

-- ---- the rows of calls. The state that a call finds is that of these cells and handles

abbrev state : List Val → List Reference → State Val
state cells handles = record { cells = cells; handles = handles }

pub write-done : (s : State Val) (cells after : List Val) (handles : List Reference) (h : ℕ) (r : Reference) (w : Val) → record { cells = cells; handles = handles } ≡ s → Some r ≡ slice_get handles h
    → written cells r w ≡ Ok after → step (of_values s.cells) s (write h w) ≡ record { state = record { cells = after; handles = handles }; answer = done }
write-done s cells after handles h r w found there g =
    subst (λ (t : State Val). step (of_values t.cells) t (write h w) ≡ record { state = state after handles; answer = done }) found (write-is (state cells handles) h r w there ∙ ap (after_write (state cells handles)) g)

pub write-refused : (s : State Val) (cells after : List Val) (handles : List Reference) (h : ℕ) (r : Reference) (w : Val) (e : Error) (result : Result Reply Fault) → record { cells = cells; handles = handles } ≡ s
    → Some r ≡ slice_get handles h → MatchOption (refusal_of e) (Unit {0}) (λ x. written cells r w ≡ Err x) → after ≡ cells → IsErrAnd result (λ f. f ≡ Of e)
    → IsStep s (write h w) (record { cells = after; handles = handles }) (answer_of result)
write-refused s cells after handles h r w e result found there g same gone =
    subst (λ (t : State Val). IsStep t (write h w) (state after handles) (answer_of result)) found
    (refused-is (state cells handles) (state after handles) _ (after_write (state cells handles)) (written cells r w) e result (λ x. refl) (write-is (state cells handles) h r w there) g (ap (λ (cs : List Val). state cs handles) same) gone)

pub replace-done : (s : State Val) (cells after : List Val) (handles : List Reference) (old : Val) (h : ℕ) (r : Reference) (w : Val) → record { cells = cells; handles = handles } ≡ s → Some r ≡ slice_get handles h
    → read_written cells r w ≡ Ok (record { old = old; cells = after }) → step (of_values s.cells) s (replace h w) ≡ record { state = record { cells = after; handles = handles }; answer = value old }
replace-done s cells after handles old h r w found there g =
    subst (λ (t : State Val). step (of_values t.cells) t (replace h w) ≡ record { state = state after handles; answer = value old }) found (replace-is (state cells handles) h r w there ∙ ap (after_replace (state cells handles)) g)

pub replace-refused : (s : State Val) (cells after : List Val) (handles : List Reference) (h : ℕ) (r : Reference) (w : Val) (e : Error) (result : Result Reply Fault) → record { cells = cells; handles = handles } ≡ s
    → Some r ≡ slice_get handles h → MatchOption (refusal_of e) (Unit {0}) (λ x. read_written cells r w ≡ Err x) → after ≡ cells → IsErrAnd result (λ f. f ≡ Of e)
    → IsStep s (replace h w) (record { cells = after; handles = handles }) (answer_of result)
replace-refused s cells after handles h r w e result found there g same gone =
    subst (λ (t : State Val). IsStep t (replace h w) (state after handles) (answer_of result)) found
    (refused-is (state cells handles) (state after handles) _ (after_replace (state cells handles)) (read_written cells r w) e result (λ x. refl) (replace-is (state cells handles) h r w there) g (ap (λ (cs : List Val). state cs handles) same) gone)

pub copy-done : (s : State Val) (cells after : List Val) (handles : List Reference) (from to : ℕ) (q r : Reference) → record { cells = cells; handles = handles } ≡ s → Some q ≡ slice_get handles from
    → Some r ≡ slice_get handles to → copied cells q r ≡ Ok after → step (of_values s.cells) s (copy from to) ≡ record { state = record { cells = after; handles = handles }; answer = done }
copy-done s cells after handles from to q r found first second g =
    subst (λ (t : State Val). step (of_values t.cells) t (copy from to) ≡ record { state = state after handles; answer = done }) found
    (copy-is (state cells handles) from to q r first second ∙ ap (after_write (state cells handles)) g)

pub copy-refused : (s : State Val) (cells after : List Val) (handles : List Reference) (from to : ℕ) (q r : Reference) (e : Error) (result : Result Reply Fault) → record { cells = cells; handles = handles } ≡ s
    → Some q ≡ slice_get handles from → Some r ≡ slice_get handles to → MatchOption (refusal_of e) (Unit {0}) (λ x. copied cells q r ≡ Err x) → after ≡ cells → IsErrAnd result (λ f. f ≡ Of e)
    → IsStep s (copy from to) (record { cells = after; handles = handles }) (answer_of result)
copy-refused s cells after handles from to q r e result found first second g same gone =
    subst (λ (t : State Val). IsStep t (copy from to) (state after handles) (answer_of result)) found
    (refused-is (state cells handles) (state after handles) _ (after_write (state cells handles)) (copied cells q r) e result (λ x. refl) (copy-is (state cells handles) from to q r first second) g (ap (λ (cs : List Val). state cs handles) same) gone)

-- one that is to take no memory names two handles, whose cells are bytes, and is accepted
pub copy-accepted : (s : State Val) (cells : List Val) (handles : List Reference) (from to : ℕ) (q r : Reference) → record { cells = cells; handles = handles } ≡ s → Some q ≡ slice_get handles from → Some r ≡ slice_get handles to
    → IsAcceptedWrite s (copy from to) → IsTrue (are_in_bytes cells q r) × IsOk (copied cells q r)
copy-accepted s cells handles from to q r found first second h =
    let at_state : IsAcceptedWrite (state cells handles) (copy from to) = subst (λ (t : State Val). IsAcceptedWrite t (copy from to)) (sym found) h in
    (sym named ∙ at_state.0, made (copied cells q r) (sym (ap (λ (x : After Val). x.answer) (copy-is (state cells handles) from to q r first second)) ∙ at_state.1))
  where
    named : handles_in_bytes (state cells handles) from to ≡ are_in_bytes cells q r
    named =
        ap (λ (o : Option Reference). elim o [ None ↦ false | Some q ↦ elim (slice_get handles to) [ None ↦ false | Some r ↦ are_in_bytes cells q r ] ]) (sym first)
        ∙ ap (λ (o : Option Reference). elim o [ None ↦ false | Some r ↦ are_in_bytes cells q r ]) (sym second)

    made : (o : Outcome (List Val)) → (after_write (state cells handles) o).answer ≡ done → IsOk o
    made (Ok x) e = refl
    made (Err x) e = cc

-- where a handle is not there no copy is accepted
pub copy-named : (s : State Val) (from to : ℕ) → IsAcceptedWrite s (copy from to) → (None ≡ slice_get s.handles from → ⊥) × (None ≡ slice_get s.handles to → ⊥)
copy-named s from to h = (first (slice_get s.handles from) h.0, second (slice_get s.handles from) (slice_get s.handles to) h.0)
  where
    first : (o : Option Reference) → IsTrue (elim o [ None ↦ false | Some q ↦ elim (slice_get s.handles to) [ None ↦ false | Some r ↦ are_in_bytes s.cells q r ] ]) → None ≡ o → ⊥
    first None k e = false≢true k
    first (Some q) k e = cc

    second : (o p : Option Reference) → IsTrue (elim o [ None ↦ false | Some q ↦ elim p [ None ↦ false | Some r ↦ are_in_bytes s.cells q r ] ]) → None ≡ p → ⊥
    second None p k e = false≢true k
    second (Some q) None k e = false≢true k
    second (Some q) (Some r) k e = cc

-- once the first value is read
pub load-done : (s : State Val) (cells : List Val) (handles : List Reference) (h : ℕ) (r : Reference) (w v : Val) → record { cells = cells; handles = handles } ≡ s → IsKept cells r → Some r ≡ slice_get handles h
    → read (held cells) r ≡ Ok w → loaded (held cells) w ≡ Ok v → step (of_values s.cells) s (load_of h) ≡ record { state = s; answer = value v }
load-done s cells handles h r w v found k there a b =
    subst (λ (t : State Val). step (of_values t.cells) t (load_of h) ≡ record { state = t; answer = value v }) found
    (load-is (state cells handles) h r k there ∙ ap (λ (o : Outcome Val). after_read (state cells handles) (and_then o (loaded (held cells)))) a ∙ ap (after_read (state cells handles)) b)

pub load-refused : (s : State Val) (cells : List Val) (handles : List Reference) (h : ℕ) (r : Reference) (w : Val) (e : Error) (result : Result Reply Fault) → record { cells = cells; handles = handles } ≡ s → IsKept cells r
    → Some r ≡ slice_get handles h → read (held cells) r ≡ Ok w → MatchOption (refusal_of e) (Unit {0}) (λ x. loaded (held cells) w ≡ Err x) → IsErrAnd result (λ f. f ≡ Of e) → IsStep s (load_of h) s (answer_of result)
load-refused s cells handles h r w e result found k there a g gone =
    subst (λ (t : State Val). IsStep t (load_of h) t (answer_of result)) found
    (refused-is (state cells handles) (state cells handles) _ (after_read (state cells handles)) (loaded (held cells) w) e result (λ x. refl)
    (load-is (state cells handles) h r k there ∙ ap (λ (o : Outcome Val). after_read (state cells handles) (and_then o (loaded (held cells)))) a) g refl gone)
