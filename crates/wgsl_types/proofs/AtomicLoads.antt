-- What a load of an atomic through a kept pointer answers.
use Rattle.std.proofs.Common.{◌≡◌, List, Some, None, option_and_then, Ok, Err, Bool, true, false, if◌then◌else◌, refl, sym, ap, ◌∙◌, subst}
use Rattle.std.specs.Result.{result_ok}
use Rattle.wgsl_rules.specs.Access.{can_read}
use Rattle.wgsl_rules.specs.Refusals.{Outcome, and_then, builtin, not_read}
use Rattle.wgsl_rules.specs.Kinds as kinds
use Rattle.wgsl_rules.specs.Values.{Reference, Val, number, atomic_of, pointer, IsAtomicContent, IsLiteral}
use Rattle.wgsl_layout.specs.Atomics.{number_in}
use Rattle.wgsl_store.specs.Atomics.{atomic_number}
use Rattle.wgsl_store.specs.Memory.{IsKept, held}
use Rattle.wgsl_store.specs.ReferenceCalls.{read}
use Rattle.wgsl_store.proofs.lemmas.Held.{kept-is}
use Rattle.wgsl_types.specs.Atomics.{KeepsPointer, atomic_loaded, content_of, pointed}

-- what a pointer points to is kept
pointed_kept : (cells : List Val) (p : Val) (r : Reference) → pointed p ≡ Ok r → KeepsPointer cells p → IsKept cells r
pointed_kept cells (pointer q) r w k = let same : q ≡ r = cc in subst (IsKept cells) same k
pointed_kept cells p r w k = absurd (cc)

-- the load goes through the reference
through : (cells : List Val) (p : Val) (r : Reference) (b : Bool) → pointed p ≡ Ok r → can_read r.access ≡ b → atomic_loaded cells p ≡ and_then (if b then held cells r else Err not_read) content_of
through cells p r b w c =
    ap (λ (o : Outcome Reference). and_then (and_then o (λ q. read (held cells) q)) content_of) w
    ∙ ap (λ (x : Bool). and_then (if x then held cells r else Err not_read) content_of) c

pub load_refused : (cells : List Val) (p : Val) (r : Reference) → pointed p ≡ Ok r → can_read r.access ≡ false → atomic_loaded cells p ≡ Err not_read
load_refused cells p r w c = through cells p r false w c

some_content : (v x : Val) → Some x ≡ number_in v → content_of v ≡ Ok x
some_content (atomic_of v) x e = let same : x ≡ v = cc in ap (λ (y : Val). Ok y) (sym same)
some_content v x e = absurd (cc)

no_content : (v : Val) → None ≡ number_in v → content_of v ≡ Err builtin
no_content (atomic_of v) e = absurd (cc)
no_content v e = refl

-- the number of the atomic that it names
pub number_loaded : (cells : List Val) (p : Val) (r : Reference) (x : Val) → KeepsPointer cells p → pointed p ≡ Ok r → can_read r.access ≡ true → Some x ≡ atomic_number cells r → atomic_loaded cells p ≡ Ok x
number_loaded cells p r x k w c e =
    let h = kept-is cells r (pointed_kept cells p r w k) in
    through cells p r true w c ∙ ap (λ (q : Outcome Val). and_then q content_of) h.holds
    ∙ some_content h.held_value x (e ∙ ap (λ (q : Outcome Val). option_and_then number_in (result_ok q)) h.holds)

-- and a refusal where it names none
pub no_number_loaded : (cells : List Val) (p : Val) (r : Reference) → KeepsPointer cells p → pointed p ≡ Ok r → can_read r.access ≡ true → None ≡ atomic_number cells r → atomic_loaded cells p ≡ Err builtin
no_number_loaded cells p r k w c e =
    let h = kept-is cells r (pointed_kept cells p r w k) in
    through cells p r true w c ∙ ap (λ (q : Outcome Val). and_then q content_of) h.holds
    ∙ no_content h.held_value (e ∙ ap (λ (q : Outcome Val). option_and_then number_in (result_ok q)) h.holds)

-- the number in an atomic is a literal
pub content_literal : (v : Val) → IsAtomicContent v → IsLiteral v
content_literal (number kinds.i32 z) h = tt
content_literal (number kinds.u32 z) h = tt
content_literal v h = absurd h
