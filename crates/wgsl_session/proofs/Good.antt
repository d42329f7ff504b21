-- After each call a good memory is good, and so runs stay in step.
use Rattle.std.proofs.Common.{◌≡◌, ℕ, [], ◌∷◌, ◌++◌, slice_get, Option, Some, None, Ok, Err, sym, ap, refl, subst}
use Rattle.wgsl_rules.specs.Values as values
use Rattle.wgsl_rules.specs.Values.{Reference, Val, reference}
use Rattle.wgsl_rules.specs.Refusals.{Refusal, not_write, not_read_write, Outcome}
use Rattle.wgsl_rules.specs.declared.syntax.AddressSpace.{AddressSpace}
use Rattle.wgsl_rules.specs.declared.syntax.AccessMode.{AccessMode}
use Rattle.wgsl_store.specs.Memory.{held, IsKept, AllKept, IsContent, put_cells}
use Rattle.wgsl_store.specs.ReferenceCalls.{whole_of_new, read, deeper, old_value, load}
use Rattle.wgsl_store.proofs.lemmas.Held.{kept-in}
use Rattle.wgsl_store.proofs.lemmas.Sound.{all-keep, kept-append, append-keeps, append-sound, whole-kept-new, accepted-good, deeper-kept, read-content}
use Rattle.wgsl_session.specs.Calls.{State, Call, new, new_of, member, index, read_of, write, replace, copy, load_of, Answer, value, done, no_handle, After, IsGood, IsPlain, IsSoundCall, unchanged, changed, with_handle, with_cell, at_handle, or_unchanged, with_put, step, of_values, IsStep}
use Rattle.wgsl_session.specs.Flat.{flat_of}
use Rattle.wgsl_session.specs.Laws.{RunsAreInStep}
use Rattle.wgsl_session.proofs.InStep.{in-step}

-- ---- one call

module _ (s : State Val) (good : IsGood s) where
  good-at : (i : ℕ) (f : Reference → After Val) → ((r : Reference) → IsKept s.cells r → IsGood (f r).state) → IsGood (at_handle s i f).state
  good-at i f h = by (slice_get s.handles i) refl
    where
      by : (o : Option Reference) → slice_get s.handles i ≡ o → IsGood (elim o as (λ _. After Val) [ None ↦ unchanged s no_handle | Some r ↦ f r ]).state
      by None is = good
      by (Some r) is = h r (kept-in s.cells s.handles i r good.kept is)

  good-or : {A : Type 0} (o : Outcome A) (f : A → After Val) → ((x : A) → o ≡ Ok x → IsGood (f x).state) → IsGood (or_unchanged s o f).state
  good-or (Ok x) f h = h x refl
  good-or (Err e) f h = good

  good-handle : (q : Reference) → IsKept s.cells q → IsGood (with_handle s s.cells q).state
  good-handle q k = record { sound = good.sound; kept = kept-append s.cells s.handles (q ∷ []) good.kept (k, tt) }

  good-cell : (v : Val) (space : AddressSpace) (access : AccessMode) → IsContent s.cells v → IsGood (with_cell (of_values s.cells) s v space access).state
  good-cell v space access h =
      let after = s.cells ++ v ∷ [] in
      record {
        sound = append-sound s.cells v good.sound h;
        kept = kept-append after s.handles (whole_of_new s.cells v space access ∷ []) (all-keep s.cells after s.handles (append-keeps s.cells v) good.kept) (whole-kept-new s.cells v space access, tt);
      }

  good-put : (refusal : Refusal) (answer : Val → Answer) (r : Reference) (w : Val) → IsContent s.cells w → IsGood (with_put (of_values s.cells) s refusal answer r w).state
  good-put refusal answer r w h =
      good-or (old_value refusal (held s.cells) r w) (λ old. changed s (put_cells s.cells r w) (answer old)) (λ old e.
      let p = accepted-good refusal s.cells r w old good.sound h e in
      record { sound = p.sound; kept = all-keep s.cells (put_cells s.cells r w) s.handles p.keeps good.kept })

  plain-held : (v : Val) → IsPlain v → IsContent s.cells v
  plain-held v p = (p.0, subst (AllKept s.cells) (sym p.1) tt)

  good-step : (c : Call) → IsSoundCall c → IsGood (step (of_values s.cells) s c).state
  good-step (new v space access) p = good-cell v space access (plain-held v p)
  good-step (new_of i space access) p = good-at i (λ r. with_cell (of_values s.cells) s (reference r) space access) (λ r k. good-cell (reference r) space access (tt, (k, tt)))
  good-step (member i n) p = good-at i (λ r. or_unchanged s (deeper (held s.cells) r (values.member n)) (with_handle s s.cells)) (λ r k. good-or (deeper (held s.cells) r (values.member n)) (with_handle s s.cells) (λ q e. good-handle q (deeper-kept s.cells r q (values.member n) e)))
  good-step (index i n) p = good-at i (λ r. or_unchanged s (deeper (held s.cells) r (values.index n)) (with_handle s s.cells)) (λ r k. good-or (deeper (held s.cells) r (values.index n)) (with_handle s s.cells) (λ q e. good-handle q (deeper-kept s.cells r q (values.index n) e)))
  good-step (read_of i) p = good-at i (λ r. or_unchanged s (read (held s.cells) r) (λ v. unchanged s (value v))) (λ r k. good-or (read (held s.cells) r) (λ v. unchanged s (value v)) (λ v e. good))
  good-step (write i w) p = good-at i (λ r. with_put (of_values s.cells) s not_write (λ old. done) r w) (λ r k. good-put not_write (λ old. done) r w (plain-held w p))
  good-step (replace i w) p = good-at i (λ r. with_put (of_values s.cells) s not_read_write value r w) (λ r k. good-put not_read_write value r w (plain-held w p))
  good-step (copy i j) p =
      good-at i (λ q. at_handle s j (λ r. or_unchanged s (read (held s.cells) q) (with_put (of_values s.cells) s not_write (λ old. done) r))) (λ q k.
      good-at j (λ r. or_unchanged s (read (held s.cells) q) (with_put (of_values s.cells) s not_write (λ old. done) r)) (λ r m.
      good-or (read (held s.cells) q) (with_put (of_values s.cells) s not_write (λ old. done) r) (λ v e. good-put not_write (λ old. done) r v (read-content s.cells q v good.sound e))))
  good-step (load_of i) p = good-at i (λ r. or_unchanged s (load (held s.cells) r.ty r) (λ v. unchanged s (value v))) (λ r k. good-or (load (held s.cells) r.ty r) (λ v. unchanged s (value v)) (λ v e. good))

pub good-after : (before after : State Val) (call : Call) (answer : Option Answer) → IsGood before → IsSoundCall call → IsStep before call after answer → IsGood after
good-after before after call None good p e = subst IsGood (sym e) good
good-after before after call (Some a) good p e = subst IsGood (ap (λ (x : After Val). x.state) e) (good-step before good call p)

pub runs-in-step : RunsAreInStep
runs-in-step before after [] answers good p h = ((h.0, ap flat_of h.1), subst IsGood (sym h.1) good)
runs-in-step before after (call ∷ calls) [] good p h = absurd h
runs-in-step before after (call ∷ calls) (answer ∷ answers) good p h =
    let rest = runs-in-step h.0 after calls answers (good-after before h.0 call answer good p.0 h.1) p.1 h.2 in
    ((flat_of h.0, in-step before h.0 call answer good p.0 h.1, rest.0), rest.1)
