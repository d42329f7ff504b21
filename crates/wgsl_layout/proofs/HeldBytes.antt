-- The bytes of parts, as they stand in the buffer of the whole.
use Rattle.std.proofs.Common.{◌≡◌, ℕ, List, Option, Some, option_and_then, Ok, Err, true, refl, sym, ap, ◌∙◌}
use Rattle.std.specs.Prelude.{IsOk, IsOkAnd}
use Rattle.wgsl_rules.specs.Layout.{has_layout, layout_of}
use Rattle.wgsl_rules.specs.Paths.{viewed}
use Rattle.wgsl_rules.specs.Refusals.{Outcome}
use Rattle.wgsl_rules.specs.Values.{Step, Val, type_of, IsStorable}
use Rattle.wgsl_layout.specs.Buffers.{buffer}
use Rattle.wgsl_layout.specs.Ranges.{Range, bytes_in, range_in, view_range}
use Rattle.wgsl_layout.proofs.lemmas.Compose.{compose}
use Rattle.wgsl_layout.proofs.lemmas.Follows.{follows}
use Rattle.wgsl_layout.proofs.lemmas.ViewPaths.{path-in-is}
use Rattle.wgsl_values.proofs.lemmas.ViewedPaths.{has-path}

-- the bytes in the range that a view leads to are the buffer of the part
pub part-bytes : (v x : Val) (steps : List Step) (r : Range) → IsStorable v → has_layout (type_of v) ≡ true → viewed steps v ≡ Ok x → view_range steps (layout_of v) ≡ Some r → bytes_in (buffer v) r ≡ buffer x
part-bytes v x steps r s h e there =
    let q = has-path steps v x e in
    let path_is = path-in-is steps (layout_of v) v q.path (refl, h) (follows v s h) q.there in
    let ranged : range_in q.path (layout_of v) ≡ Some r = ap (λ (o : Option (List ℕ)). option_and_then (λ p. range_in p (layout_of v)) o) (sym path_is) ∙ there in
    let c = compose v x q.path s h q.stands in
    let one : Some r ≡ Some c.1.range_of = sym ranged ∙ c.1.there in
    let same : r ≡ c.1.range_of = cc in
    ap (bytes_in (buffer v)) same ∙ c.1.its_bytes

-- so are bytes that are lent of that range
pub lent-bytes : (v : Val) (steps : List Step) (r : Range) (b : List ℕ) → IsStorable v → has_layout (type_of v) ≡ true → IsOk (viewed steps v) → view_range steps (layout_of v) ≡ Some r → b ≡ bytes_in (buffer v) r
    → IsOkAnd (viewed steps v) (λ x. b ≡ buffer x)
lent-bytes v steps r b s h ok there is = by (viewed steps v) refl ok
  where
    by : (o : Outcome Val) → viewed steps v ≡ o → IsOk o → IsOkAnd o (λ x. b ≡ buffer x)
    by (Ok x) e k = is ∙ part-bytes v x steps r s h e there
    by (Err f) e k = cc
