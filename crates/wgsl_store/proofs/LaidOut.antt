-- What bytes lay out in a type may be stored in any cell, since it holds no reference or
-- pointer: neither has a layout, and each part of a value whose type has a layout has one.
use mathlib.Core.Logic.{inl, inr}
use Rattle.std.proofs.Common.{◌≡◌, ◌⊎◌, ℕ, List, Some, true, false, sym, subst}
use Rattle.std.proofs.lemmas.Bool.{false≢true}
use Rattle.wgsl_rules.specs.Layout.{HasLayout, layout}
use Rattle.wgsl_rules.specs.Paths.{value_at}
use Rattle.wgsl_rules.specs.Types.{Ty}
use Rattle.wgsl_rules.specs.Values.{Reference, Val, reference, pointer, type_of, IsStorable}
use Rattle.wgsl_layout.specs.Buffers.{decode}
use Rattle.wgsl_store.specs.Memory.{IsContent, IsKept}
use Rattle.wgsl_layout.proofs.lemmas.Compose.{compose}
use Rattle.wgsl_layout.proofs.LaidValues.{decode-lays}
use Rattle.wgsl_store.proofs.lemmas.HeldPaths.{held-by-paths}

kept-nowhere : (cells : List Val) (v : Val) (p : List ℕ) (r : Reference) → IsStorable v → HasLayout (type_of v) → (value_at p v ≡ Some (reference r)) ⊎ (value_at p v ≡ Some (pointer r)) → IsKept cells r
kept-nowhere cells v p r s h (inl e) = absurd (false≢true (compose v (reference r) p s h e).0)
kept-nowhere cells v p r s h (inr e) = absurd (false≢true (compose v (pointer r) p s h e).0)

pub laid-content : (cells : List Val) (b : List ℕ) (t : Ty) (v : Val) → decode b t ≡ Some v → IsContent cells v
laid-content cells b t v e =
    let laid = decode-lays b t v e in
    let own : HasLayout (type_of v) = subst HasLayout (sym laid.typed) laid.layout in
    (laid.storable, (held-by-paths cells v).1 (λ p r at. kept-nowhere cells v p r laid.storable own at))
