-- Ranges along paths that go on, and at the paths of views.
use Rattle.std.proofs.Common.{◌≡◌, ℕ, ◌+◌, List, [], ◌∷◌, ◌++◌, Option, Some, None, option_map, option_and_then, Ok, true, refl, sym, ap, ◌∙◌, arith}
use Rattle.wgsl_rules.specs.Layout.{Layout, has_layout, layout_of}
use Rattle.wgsl_rules.specs.Paths.{viewed}
use Rattle.wgsl_rules.specs.Values.{Step, Val, type_of, IsStorable}
use Rattle.wgsl_layout.specs.Ranges.{Range, further, part_at, parts_in, range_in, view_range}
use Rattle.wgsl_layout.proofs.lemmas.Follows.{follows}
use Rattle.wgsl_layout.proofs.lemmas.ViewPaths.{path-in-is}
use Rattle.wgsl_values.proofs.lemmas.ViewedPaths.{has-path}

pub from-start : (o : Option Range) → option_map (further 0) o ≡ o
from-start None = refl
from-start (Some r) = let z : 0 + r.start ≡ r.start = omega arith in let at : ℕ → Option Range = λ n. Some (record { start = n; layout = r.layout }) in ap at z

pub further-twice : (a b : ℕ) (o : Option Range) → option_map (further a) (option_map (further b) o) ≡ option_map (further (a + b)) o
further-twice a b None = refl
further-twice a b (Some r) = let e : a + (b + r.start) ≡ a + b + r.start = omega arith in ap (λ (n : ℕ). Some (record { start = n; layout = r.layout })) e

-- its range is that of the first numbers, and from there that of the others
pub range_in-append : (p q : List ℕ) (l : Layout) → range_in (p ++ q) l ≡ option_and_then (λ r. option_map (further r.start) (range_in q r.layout)) (range_in p l)
range_in-append [] q l = sym (from-start (range_in q l))
range_in-append (i ∷ p) q l = by (part_at i (parts_in l)) (λ r. range_in-append p q r.layout)
  where
    moved : (from : ℕ) (o : Option Range) → option_map (further from) (option_and_then (λ r. option_map (further r.start) (range_in q r.layout)) o)
        ≡ option_and_then (λ r. option_map (further r.start) (range_in q r.layout)) (option_map (further from) o)
    moved from None = refl
    moved from (Some r) = further-twice from r.start (range_in q r.layout)

    by : (o : Option Range) → ((r : Range) → range_in (p ++ q) r.layout ≡ option_and_then (λ k. option_map (further k.start) (range_in q k.layout)) (range_in p r.layout))
        → option_and_then (λ r. option_map (further r.start) (range_in (p ++ q) r.layout)) o
        ≡ option_and_then (λ r. option_map (further r.start) (range_in q r.layout)) (option_and_then (λ r. option_map (further r.start) (range_in p r.layout)) o)
    by None on = refl
    by (Some r) on = ap (option_map (further r.start)) (on r) ∙ moved r.start (range_in p r.layout)

-- the range at the path of a view is that of the view
pub view-path : (v x : Val) (steps : List Step) (r : Range) → IsStorable v → has_layout (type_of v) ≡ true → (e : viewed steps v ≡ Ok x) → view_range steps (layout_of v) ≡ Some r
    → range_in (has-path steps v x e).path (layout_of v) ≡ Some r
view-path v x steps r s h e there =
    let q = has-path steps v x e in
    let path_is = path-in-is steps (layout_of v) v q.path (refl, h) (follows v s h) q.there in
    ap (λ (o : Option (List ℕ)). option_and_then (λ p. range_in p (layout_of v)) o) (sym path_is) ∙ there
