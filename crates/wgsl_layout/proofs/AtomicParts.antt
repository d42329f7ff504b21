-- Atomics: what fits them, and their numbers in bytes.
use Rattle.std.proofs.Common.{◌≡◌, ℕ, List, Some, None, is_some, Ok, Err, Bool, true, refl, sym, ap, subst}
use Rattle.std.specs.Prelude.{◌&&◌, IsOkAnd, IsTrue}
use Rattle.std.specs.Result.{result_ok}
use Rattle.std.proofs.lemmas.Bool.{false≢true}
use Rattle.wgsl_rules.specs.Kinds as kinds
use Rattle.wgsl_rules.specs.Layout.{HasLayout, layout, leaf, length_in, scalar_kind, size}
use Rattle.wgsl_rules.specs.Paths.{fits}
use Rattle.wgsl_rules.specs.Refusals.{Outcome}
use Rattle.wgsl_rules.specs.TypeParts.{atomic_part}
use Rattle.wgsl_rules.specs.Types as types
use Rattle.wgsl_rules.specs.Types.{Ty, array, atomic}
use Rattle.wgsl_rules.specs.Values.{Val, truth, number, record_of, array_of, vector, matrix, atomic_of, pointer, reference, deferred, type_of, IsAtomicContent}
use Rattle.wgsl_rules.specs.Equal.{same-Decides}
use Rattle.wgsl_layout.specs.Atomics.{IsAtomicOf, number_in}
use Rattle.wgsl_layout.specs.Buffers.{decoded}
use Rattle.wgsl_layout.specs.Fitting.{FitsAt}
use Rattle.wgsl_layout.specs.Plan.{Plan, scalar}
use Rattle.wgsl_layout.specs.Walk.{put, Stands}

-- ---- what fits an atomic

fits-atomic : (w v : Val) → IsAtomicOf (type_of w) v → IsTrue (fits (atomic_of w) v)
fits-atomic w (atomic_of x) e = ap (λ (b : Bool). b && true) ((same-Decides (atomic (type_of w)) (atomic (type_of x))).1 (ap atomic (sym e)))
fits-atomic w (truth b) e = absurd e
fits-atomic w (number k z) e = absurd e
fits-atomic w (record_of t vs) e = absurd e
fits-atomic w (array_of runtime vs) e = absurd e
fits-atomic w (vector vs) e = absurd e
fits-atomic w (matrix vs) e = absurd e
fits-atomic w (pointer r) e = absurd e
fits-atomic w (reference r) e = absurd e
fits-atomic w (deferred t) e = absurd e

pub fits-led : (w : Val) (o : Outcome Val) → IsOkAnd o (IsAtomicOf (type_of w)) → FitsAt (atomic_of w) o
fits-led w (Ok v) h = fits-atomic w v h
fits-led w (Err e) h = absurd h

-- ---- what a view leads to

pub none-led : (P : Val → Type 0) (o : Outcome Val) → None ≡ result_ok o → IsOkAnd o P → ⊥
none-led P (Ok v) e h = cc
none-led P (Err f) e h = h

pub some-led : (P : Val → Type 0) (o : Outcome Val) (v : Val) → Some v ≡ result_ok o → IsOkAnd o P → P v
some-led P (Ok w) v e h = let is : w ≡ v = cc in subst P is h
some-led P (Err f) v e h = absurd h

-- ---- numbers in bytes

-- an atomic of this content type, laid out at o, has its number there
pub record IsNumberAt (n : ℕ) (t u : Ty) (b : List ℕ) (o : ℕ) : Type 0 where
  pub kind : IsTrue (is_some (scalar_kind u))
  pub length : size u ≡ length_in (layout n t)
  pub value : Some (decoded b o (leaf u (scalar_kind u))) ≡ number_in (decoded b o (layout n t))

pub number-at : (n : ℕ) (t u : Ty) (b : List ℕ) (o : ℕ) → Some u ≡ atomic_part t → HasLayout t → IsNumberAt n t u b o
number-at n (atomic types.i32) u b o e h = let is : types.i32 ≡ u = cc in subst (λ (s : Ty). IsNumberAt n (atomic types.i32) s b o) is (record { kind = refl; length = refl; value = refl })
number-at n (atomic types.u32) u b o e h = let is : types.u32 ≡ u = cc in subst (λ (s : Ty). IsNumberAt n (atomic types.u32) s b o) is (record { kind = refl; length = refl; value = refl })
number-at n (atomic s) u b o e h = absurd (false≢true h)
number-at n t u b o e h = absurd (cc)

pub no-number-at : (n : ℕ) (t : Ty) (b : List ℕ) (o : ℕ) → None ≡ atomic_part t → None ≡ number_in (decoded b o (layout n t))
no-number-at n (atomic s) b o e = absurd (cc)
no-number-at n (array s None) b o e = refl
no-number-at n (array s (Some k)) b o e = refl
no-number-at n t b o e = refl

-- an atomic is written as its number
pub stands-number : (w : Val) (p : Plan) (at len : ℕ) → IsAtomicContent w → Stands (atomic_of w) p at len → Stands w scalar at len
stands-number (number kinds.i32 z) p at len c h = h
stands-number (number kinds.u32 z) p at len c h = h
stands-number w p at len c h = absurd c

pub put-number : (w : Val) (p : Plan) (at : ℕ) (b : List ℕ) → IsAtomicContent w → put w scalar at b ≡ put (atomic_of w) p at b
put-number (number kinds.i32 z) p at b c = refl
put-number (number kinds.u32 z) p at b c = refl
put-number w p at b c = absurd c
