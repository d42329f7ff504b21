-- Atomics in cells: which values they are.
use Rattle.std.proofs.Common.{◌≡◌, ℕ, List, map, get_or, None, true, false, refl, sym, ap, ◌∙◌, subst}
use Rattle.std.specs.Prelude.{IsOkAnd}
use Rattle.wgsl_rules.specs.Kinds as kinds
use Rattle.wgsl_rules.specs.Paths.{viewed}
use Rattle.wgsl_rules.specs.Refusals.{Outcome}
use Rattle.wgsl_rules.specs.TypeParts.{atomic_part}
use Rattle.wgsl_rules.specs.Types as types
use Rattle.wgsl_rules.specs.Types.{Ty, atomic}
use Rattle.wgsl_rules.specs.Values.{Reference, Val, truth, number, record_of, array_of, vector, matrix, atomic_of, pointer, reference, deferred, count, first_type, matrix_type, type_of, IsStorable}
use Rattle.wgsl_layout.specs.Atomics.{IsAtomicOf}
use Rattle.wgsl_store.specs.Memory.{IsKept, IsSound, held}
use Rattle.wgsl_layout.proofs.Outcomes.{answered}
use Rattle.wgsl_store.proofs.StoreCells.{held-there}
use Rattle.wgsl_store.proofs.lemmas.Held.{held-value}

-- ---- which values are atomics

pub no-matrix : (n : ℕ) (s : Ty) → atomic_part (matrix_type n s) ≡ None
no-matrix n (types.vec r u) = refl
no-matrix n s = refl

-- of a value that may be stored the type says whether it is an atomic, and of what
of-type : (v : Val) (t : Ty) → IsStorable v → type_of v ≡ atomic t → IsAtomicOf t v
of-type (truth b) t h e = absurd (cc)
of-type (number kinds.abstract_int z) t h e = absurd (cc)
of-type (number kinds.i32 z) t h e = absurd (cc)
of-type (number kinds.u32 z) t h e = absurd (cc)
of-type (number kinds.i64 z) t h e = absurd (cc)
of-type (number kinds.u64 z) t h e = absurd (cc)
of-type (record_of (types.struct n fs) vs) t h e = absurd (cc)
of-type (record_of s vs) t h e = absurd (h.0)
of-type (array_of true vs) t h e = absurd (cc)
of-type (array_of false vs) t h e = absurd (cc)
of-type (vector vs) t h e = absurd (cc)
of-type (matrix vs) t h e = let n = no-matrix (count vs) (first_type vs) in let part = ap atomic_part e in absurd (cc)
of-type (atomic_of v) t h e = cc
of-type (pointer r) t h e = absurd (cc)
of-type (reference r) t h e = absurd (cc)
of-type (deferred s) t h e = absurd h

-- what a kept reference to an atomic holds
pub names-atomic : (cells : List Val) (r : Reference) (t : Ty) → IsSound cells → IsKept cells r → r.ty ≡ atomic t → IsOkAnd (held cells r) (IsAtomicOf t)
names-atomic cells r t s k e =
    let a = answered (held cells r) (λ v. type_of v ≡ r.ty) k in
    subst (λ (o : Outcome Val). IsOkAnd o (IsAtomicOf t)) (sym a.is) (of-type a.answer t (held-value cells r a.answer s a.is).0 (a.fact ∙ e))

-- and what its view leads to in the cell
pub leads-atomic : {X : Type 0} (view : X → Val) (cs : List X) (cells : List Val) (r : Reference) (t : Ty) (i : ℕ) (cell : X) → map view cs ≡ cells → IsSound (map view cs) → IsKept cells r → r.ty ≡ atomic t
    → i ≡ r.cell → cell ≡ get_or cs i cell → IsOkAnd (viewed r.view (view cell)) (IsAtomicOf t)
leads-atomic view cs cells r t i cell are s k e at was =
    subst (λ (o : Outcome Val). IsOkAnd o (IsAtomicOf t)) (held-there view cs cells r (λ v. type_of v ≡ r.ty) i cell are k at was)
    (names-atomic cells r t (subst IsSound are s) k e)
