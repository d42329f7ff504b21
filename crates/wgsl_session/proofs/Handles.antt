-- The references of handles are kept.
use Rattle.std.proofs.Common.{◌≡◌, ℕ, List, [], ◌∷◌, ◌++◌, slice_get, Option, Some, None, option_map, sym}
use Rattle.std.specs.Prelude.{IfSome}
use Rattle.wgsl_rules.specs.Values.{Reference, Val}
use Rattle.wgsl_store.specs.Memory.{IsKept, AllKept}
use Rattle.wgsl_store.proofs.lemmas.Held.{kept-in}
use Rattle.wgsl_store.proofs.lemmas.Sound.{kept-append}

pub handle-kept : (cells : List Val) (handles : List Reference) (h : ℕ) (r : Reference) → AllKept cells handles → Some r ≡ slice_get handles h → IsKept cells r
handle-kept cells handles h r k e = kept-in cells handles h r k (sym e)

pub found-kept : {X : Type 0} (view : X → Reference) (cells : List Val) (handles : List Reference) (h : ℕ) (o : Option X) → AllKept cells handles → option_map view o ≡ slice_get handles h → IfSome o (λ r. IsKept cells (view r))
found-kept view cells handles h None k e = tt
found-kept view cells handles h (Some x) k e = handle-kept cells handles h (view x) k e

pub kept-push : (cells : List Val) (handles : List Reference) (r : Reference) → AllKept cells handles → IsKept cells r → AllKept cells (handles ++ r ∷ [])
kept-push cells handles r h k = kept-append cells handles (r ∷ []) h (k, tt)
