-- Loads, reference by reference.
use Rattle.std.proofs.Common.{◌≡◌, ℕ, suc, ◌<◌, List, Option, Some, None, Ok, Err, Bool, true, false, if◌then◌else◌, sym, ap, ◌∙◌, arith}
use Rattle.wgsl_rules.specs.Types.{Ty, ref}
use Rattle.wgsl_rules.specs.Values.{Reference, Val, reference, type_of}
use Rattle.wgsl_rules.specs.Refusals.{Refusal, not_read, Outcome, and_then}
use Rattle.wgsl_rules.specs.Access.{can_read}
use Rattle.std.specs.Prelude.{IsOkAnd, MatchOption}
use Rattle.wgsl_scalar.specs.Answers.{refusal_of}
use Rattle.wgsl_scalar.specs.declared.error.Error.{Error}
use Rattle.wgsl_store.specs.Loaded.{as_reference}
use Rattle.wgsl_store.specs.Memory.{held, IsKept, HoldsValue, IsContent}
use Rattle.wgsl_store.specs.ReferenceCalls.{read, load, loaded}
use Rattle.wgsl_store.proofs.lemmas.Loads.{loading-reads-on}

-- how many references lead to what a type is of
abbrev pub reference_depth : Ty → ℕ
reference_depth (ref space t access) = suc (reference_depth t)
reference_depth t = 0

-- what the first reference loads is what the value loads that was read so far
pub record LoadsOn (cells : List Val) (r : Reference) (v : Val) : Type 0 where
  pub content : IsContent cells v
  pub same : load (held cells) r.ty r ≡ loaded (held cells) v

reference-kept : (cells : List Val) (q : Reference) (v : Val) → HoldsValue cells v → Some q ≡ as_reference v → IsKept cells q
reference-kept cells q (reference r) h e = let same : r ≡ q = cc in rw (← same) h.0
reference-kept cells q v h e = absurd (cc)

pub next-kept : (cells : List Val) (r q : Reference) (v : Val) → LoadsOn cells r v → Some q ≡ as_reference v → IsKept cells q
next-kept cells r q v l e = reference-kept cells q v l.content.1 e

is-reference : (q : Reference) (v : Val) → Some q ≡ as_reference v → v ≡ reference q
is-reference q (reference r) e = let same : r ≡ q = cc in ap reference same
is-reference q v e = absurd (cc)

-- ---- the first read

pub first-read : (cells : List Val) (r : Reference) (v : Val) → IsKept cells r → IsContent cells v → read (held cells) r ≡ Ok v → LoadsOn cells r v
first-read cells r v k h e = record { content = h; same = loading-reads-on cells r k ∙ ap (λ (o : Outcome Val). and_then o (loaded (held cells))) e }

pub first-refused : (cells : List Val) (r : Reference) (f : Refusal) → IsKept cells r → read (held cells) r ≡ Err f → load (held cells) r.ty r ≡ Err f
first-refused cells r f k e = loading-reads-on cells r k ∙ ap (λ (o : Outcome Val). and_then o (loaded (held cells))) e

-- ---- and each after it

pub next-read : (cells : List Val) (r q : Reference) (v w : Val) → LoadsOn cells r v → Some q ≡ as_reference v → IsContent cells w → read (held cells) q ≡ Ok w → LoadsOn cells r w
next-read cells r q v w l e h is =
    record { content = h; same = l.same ∙ ap (loaded (held cells)) (is-reference q v e) ∙ (first-read cells q w (next-kept cells r q v l e) h is).same }

pub next-refused : (cells : List Val) (r q : Reference) (v : Val) (f : Refusal) → LoadsOn cells r v → Some q ≡ as_reference v → read (held cells) q ≡ Err f → load (held cells) r.ty r ≡ Err f
next-refused cells r q v f l e is = l.same ∙ ap (loaded (held cells)) (is-reference q v e) ∙ first-refused cells q f (next-kept cells r q v l e) is

pub next-gives : (cells : List Val) (r q : Reference) (v : Val) (e : Error) → LoadsOn cells r v → Some q ≡ as_reference v
    → MatchOption (refusal_of e) (Unit {0}) (λ f. read (held cells) q ≡ Err f) → MatchOption (refusal_of e) (Unit {0}) (λ f. load (held cells) r.ty r ≡ Err f)
next-gives cells r q v e l is = by (refusal_of e)
  where
    by : (o : Option Refusal) → MatchOption o (Unit {0}) (λ f. read (held cells) q ≡ Err f) → MatchOption o (Unit {0}) (λ f. load (held cells) r.ty r ≡ Err f)
    by None h = tt
    by (Some f) h = next-refused cells r q v f l is h

-- ---- what is read next is of a type of fewer references

read-typed : (cells : List Val) (q : Reference) (w : Val) → IsKept cells q → read (held cells) q ≡ Ok w → type_of w ≡ q.ty
read-typed cells q w k e = by (can_read q.access) e
  where
    at : (o : Outcome Val) → IsOkAnd o (λ x. type_of x ≡ q.ty) → o ≡ Ok w → type_of w ≡ q.ty
    at (Ok x) h is = let same : x ≡ w = cc in ap type_of (sym same) ∙ h
    at (Err f) h is = absurd h

    by : (b : Bool) → ◌≡◌ {A = Outcome Val} (if b then held cells q else Err not_read) (Ok w) → type_of w ≡ q.ty
    by true is = at (held cells q) k is
    by false is = absurd (cc)

pub next-smaller : (cells : List Val) (r q : Reference) (v w : Val) → LoadsOn cells r v → Some q ≡ as_reference v → read (held cells) q ≡ Ok w → reference_depth (type_of w) < reference_depth (type_of v)
next-smaller cells r q v w l e is =
    let typed : type_of w ≡ q.ty = read-typed cells q w (next-kept cells r q v l e) is in
    rw (is-reference q v e, typed) (omega arith)
