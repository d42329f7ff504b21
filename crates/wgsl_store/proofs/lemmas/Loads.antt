-- A load reads on while what is read is a reference.
use Rattle.std.proofs.Common.{◌≡◌, List, Ok, Err, Bool, true, false, if◌then◌else◌, refl, sym, ap, ◌∙◌}
use Rattle.std.specs.Prelude.{IsOkAnd}
use Rattle.std.proofs.lemmas.Bool.{false≢true}
use Rattle.wgsl_rules.specs.Access.{can_read}
use Rattle.wgsl_rules.specs.Types as types
use Rattle.wgsl_rules.specs.Types.{Ty}
use Rattle.wgsl_rules.specs.Values.{Reference, Val, reference, type_of}
use Rattle.wgsl_rules.specs.Refusals.{not_read, Outcome, and_then}
use Rattle.wgsl_rules.specs.declared.syntax.AddressSpace.{AddressSpace}
use Rattle.wgsl_rules.specs.declared.syntax.AccessMode.{AccessMode}
use Rattle.wgsl_store.specs.Memory.{held, IsKept}
use Rattle.wgsl_store.specs.ReferenceCalls.{read, read_on, load, loaded}
use Rattle.wgsl_store.specs.MemoryLaws.{LoadingReadsOn}

is_ref : Ty → Bool
is_ref (types.ref s t a) = true
is_ref t = false

ends : (cells : List Val) (r : Reference) (t : Ty) → is_ref t ≡ false → (y : Val) → type_of y ≡ t → Ok y ≡ loaded (held cells) y
unfolding is_ref
ends cells r t n (reference q) e = absurd (false≢true (sym n ∙ ap is_ref (sym e)))
ends cells r t n y e = refl

reads-on : (cells : List Val) (s : AddressSpace) (t : Ty) (a : AccessMode) (y : Val) → type_of y ≡ types.ref s t a → read_on (load (held cells) t) y ≡ loaded (held cells) y
reads-on cells s t a (reference q) e = let same : q.ty ≡ t = cc in ap (λ (u : Ty). load (held cells) u q) (sym same)
reads-on cells s t a y e = refl

on-held : (cells : List Val) (r : Reference) (f g : Val → Outcome Val) → IsKept cells r → ((y : Val) → type_of y ≡ r.ty → f y ≡ g y) → and_then (read (held cells) r) f ≡ and_then (read (held cells) r) g
on-held cells r f g k h = by (can_read r.access) (held cells r) refl k
  where
    by : (b : Bool) (o : Outcome Val) → held cells r ≡ o → IsOkAnd o (λ v. type_of v ≡ r.ty) → and_then (if b then o else Err not_read) f ≡ and_then (if b then o else Err not_read) g
    by true (Ok y) is t = h y t
    by true (Err x) is t = absurd t
    by false o is t = refl

self-then : (o : Outcome Val) → o ≡ and_then o (λ y. Ok y)
self-then (Ok y) = refl
self-then (Err e) = refl

pub loading-reads-on : LoadingReadsOn
unfolding is_ref
loading-reads-on cells r k = by r.ty refl
  where
    last : (t : Ty) → is_ref t ≡ false → r.ty ≡ t → read (held cells) r ≡ and_then (read (held cells) r) (loaded (held cells))
    last t n e = self-then (read (held cells) r) ∙ on-held cells r (λ y. Ok y) (loaded (held cells)) k (λ y ty. ends cells r t n y (ty ∙ e))

    by : (t : Ty) → r.ty ≡ t → load (held cells) t r ≡ and_then (read (held cells) r) (loaded (held cells))
    by (types.ref s t a) e = on-held cells r (read_on (load (held cells) t)) (loaded (held cells)) k (λ y ty. reads-on cells s t a y (ty ∙ e))
    by t e = last t refl e
