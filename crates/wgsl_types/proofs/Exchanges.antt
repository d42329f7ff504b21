-- What a compare and exchange answers and stores.
use Rattle.std.proofs.Common.{◌≡◌, List, Bool, true, false, if◌then◌else◌, Ok, Err, refl, sym, ap, ◌∙◌}
use Rattle.wgsl_rules.specs.Refusals.{Outcome, and_then}
use Rattle.wgsl_rules.specs.Kinds as kinds
use Rattle.wgsl_rules.specs.Values.{Reference, Val, number, atomic_of, type_of, IsAtomicContent, IsWellFormed}
use Rattle.wgsl_store.specs.Memory.{IsSound, held, put_cells}
use Rattle.wgsl_values.specs.Equal.{same_value_is}
use Rattle.wgsl_values.specs.Same.{same_value}
use Rattle.wgsl_types.proofs.Atoms.{TakesNumber, takes_number, writable_kept}
use Rattle.wgsl_types.proofs.MemoryAnswers.{load-is, writable-is}
use Rattle.wgsl_types.proofs.Stored.{argument-new, argument-of}
use Rattle.wgsl_types.specs.Atomics.{KeepsPointer, writable, content_of, argument_in, atomic_loaded, Changed, exchange_result, exchanged_if_equal, atomic_compare_exchanged}
use Rattle.wgsl_types.specs.Laws.{AnEqualComparandIsExchanged}

pub then_ok : {A B : Type 0} (o : Outcome A) (f : A → Outcome B) (x : A) → o ≡ Ok x → and_then o f ≡ f x
then_ok (Ok y) f x e = let same : y ≡ x = cc in ap f same
then_ok (Err r) f x e = absurd (cc)

-- the reference behind the pointer takes the new number
pub takes_new : (cells : List Val) (p new old w : Val) (r : Reference) → IsSound cells → KeepsPointer cells p → IsWellFormed new → atomic_loaded cells p ≡ Ok old → argument_in (type_of old) new ≡ Ok w → writable p ≡ Ok r → TakesNumber cells r w
takes_new cells p new old w r s k h l a m =
    let kept = writable_kept cells p r m k in
    takes_number cells r old w kept.0 kept.1 (writable-is cells p r old m l) (argument-new old new w (load-is cells p old s l).content (argument-of new h) a)

pub exchanged_is : (cells : List Val) (p comparand new old c w : Val) (r : Reference) → atomic_loaded cells p ≡ Ok old → argument_in (type_of old) comparand ≡ Ok c → argument_in (type_of old) new ≡ Ok w → writable p ≡ Ok r
    → atomic_compare_exchanged cells p comparand new ≡ Ok (exchanged_if_equal cells r old c w)
exchanged_is cells p comparand new old c w r l a b m =
    then_ok (atomic_loaded cells p) (λ x. and_then (argument_in (type_of x) comparand) (λ y. and_then (argument_in (type_of x) new) (λ z. and_then (writable p) (λ q. Ok (exchanged_if_equal cells q x y z))))) old l
    ∙ then_ok (argument_in (type_of old) comparand) (λ y. and_then (argument_in (type_of old) new) (λ z. and_then (writable p) (λ q. Ok (exchanged_if_equal cells q old y z)))) c a
    ∙ then_ok (argument_in (type_of old) new) (λ z. and_then (writable p) (λ q. Ok (exchanged_if_equal cells q old c z))) w b
    ∙ then_ok (writable p) (λ q. Ok (exchanged_if_equal cells q old c w)) r m

-- by whether the old number equals the comparand
abbrev answered : List Val → Reference → Val → Val → Bool → Changed
answered cells r old w b = record { answer = exchange_result old b; cells = if b then put_cells cells r (atomic_of w) else cells }

pub exchanged_equal : (cells : List Val) (r : Reference) (old c w : Val) → same_value old c ≡ true → exchanged_if_equal cells r old c w ≡ record { answer = exchange_result old true; cells = put_cells cells r (atomic_of w) }
exchanged_equal cells r old c w e = ap (answered cells r old w) e

pub exchanged_unequal : (cells : List Val) (r : Reference) (old c w : Val) → same_value old c ≡ false → exchanged_if_equal cells r old c w ≡ record { answer = exchange_result old false; cells = cells }
exchanged_unequal cells r old c w e = ap (answered cells r old w) e

-- ---- an equal comparand

own_argument : (old : Val) → IsAtomicContent old → argument_in (type_of old) old ≡ Ok old
own_argument (number kinds.i32 z) h = refl
own_argument (number kinds.u32 z) h = refl
own_argument old h = absurd h

pub equal_comparand : AnEqualComparandIsExchanged
equal_comparand cells p old new r s l m =
    let content = (load-is cells p old s l).content in
    let holds = writable-is cells p r old m l in
    then_ok (atomic_loaded cells p) (λ x. and_then (argument_in (type_of x) old) (λ y. and_then (argument_in (type_of x) new) (λ z. and_then (writable p) (λ q. Ok (exchanged_if_equal cells q x y z))))) old l
    ∙ then_ok (argument_in (type_of old) old) (λ y. and_then (argument_in (type_of old) new) (λ z. and_then (writable p) (λ q. Ok (exchanged_if_equal cells q old y z)))) old (own_argument old content)
    ∙ by (argument_in (type_of old) new)
    ∙ sym (ap (λ (o : Outcome (List Val)). and_then o answer)
    (then_ok (writable p) (λ q. and_then (held cells q) (λ a. and_then (content_of a) (λ x. and_then (argument_in (type_of x) new) (λ w. Ok (put_cells cells q (atomic_of w)))))) r m
    ∙ then_ok (held cells r) (λ a. and_then (content_of a) (λ x. and_then (argument_in (type_of x) new) (λ w. Ok (put_cells cells r (atomic_of w))))) (atomic_of old) holds))
  where
    answer : List Val → Outcome Changed
    answer after = Ok (record { answer = exchange_result old true; cells = after })

    by : (o : Outcome Val) → and_then o (λ z. and_then (writable p) (λ q. Ok (exchanged_if_equal cells q old old z))) ≡ and_then (and_then o (λ w. Ok (put_cells cells r (atomic_of w)))) answer
    by (Ok z) =
        then_ok (writable p) (λ q. Ok (exchanged_if_equal cells q old old z)) r m
        ∙ ap (λ (c : Changed). Ok c) (exchanged_equal cells r old old z ((same_value_is old old).1 refl))
    by (Err e) = refl
