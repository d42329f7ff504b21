-- The parts of what bytes lay out are what the bytes lay out at the ranges of the parts.
use Rattle.std.proofs.Common.{◌≡◌, ℕ, zero, suc, ◌+◌, ℤ, List, [], ◌∷◌, Option, Some, None, Ok, Err, option_map, option_and_then, true, false, refl, sym, ap, ◌∙◌, arith}
use Rattle.std.specs.Result.{result_ok}
use Rattle.wgsl_rules.specs.Kinds.{Kind}
use Rattle.wgsl_rules.specs.Types.{Ty, struct, array, vec, mat, atomic}
use Rattle.wgsl_rules.specs.Values.{Step, member, index, Val, Vals, count, item, type_of, array_of, vector, matrix}
use Rattle.wgsl_rules.specs.Refusals.{Refusal, component, out_of_bounds, Outcome, and_then}
use Rattle.wgsl_rules.specs.Paths.{index_in, placed, or_refused, stepped, viewed}
use Rattle.wgsl_rules.specs.Layout.{Layout, scalar, composite, Parts, no_parts, part, type_in}
use Rattle.wgsl_layout.specs.Buffers.{decoded, decoded_parts, made_of_parts, made_of_number, read_number}
use Rattle.wgsl_layout.specs.Ranges.{Range, further, part_at, parts_in, range_in, step_in, path_in, view_range}

-- the value behind a step
abbrev pub behind : Outcome (ℕ × Val) → Option Val
behind o = option_map (λ p. p.1) (result_ok o)

-- what bytes lay out in a range
abbrev pub decoded_in : List ℕ → Range → Val
decoded_in b r = decoded b r.start r.layout

-- ---- one step

pub item-decoded : (i : ℕ) (b : List ℕ) (o : ℕ) (ps : Parts) → item i (decoded_parts b o ps) ≡ option_map (λ r. decoded b (o + r.start) r.layout) (part_at i ps)
item-decoded i b o no_parts = refl
item-decoded zero b o (part from l ps) = refl
item-decoded (suc i) b o (part from l ps) = item-decoded i b o ps

pub refused-behind : (o : Option (ℕ × Val)) (e : Refusal) → behind (or_refused o e) ≡ option_map (λ p. p.1) o
refused-behind None e = refl
refused-behind (Some p) e = refl

placed-behind : (i : ℕ) (o : Option Val) → option_map (λ (p : ℕ × Val). p.1) (option_map (λ x. (i, x)) o) ≡ o
placed-behind i None = refl
placed-behind i (Some x) = refl

within-behind : (i : ℕ) (vs : Vals) (e : Refusal) → behind (or_refused (placed i vs) e) ≡ item i vs
within-behind i vs e = refused-behind (placed i vs) e ∙ placed-behind i (item i vs)

named-behind : (o : Option ℕ) (vs : Vals) (e : Refusal) → behind (or_refused (option_and_then (λ i. placed i vs) o) e) ≡ option_and_then (λ i. item i vs) o
named-behind None vs e = refl
named-behind (Some i) vs e = within-behind i vs e

made-stepped : (s : Step) (t : Ty) (vs : Vals) → behind (stepped s (made_of_parts t vs)) ≡ option_and_then (λ i. item i vs) (step_in s t)
made-stepped (member n) (struct name fs) vs = named-behind (index_in n (struct name fs)) vs (component (struct name fs) n)
made-stepped (member n) (array t None) vs = refl
made-stepped (member n) (array t (Some k)) vs = refl
made-stepped (member n) t vs = refl
made-stepped (index i) (array t None) vs = within-behind i vs (out_of_bounds i (type_of (array_of true vs)) (count vs))
made-stepped (index i) (array t (Some k)) vs = within-behind i vs (out_of_bounds i (type_of (array_of false vs)) (count vs))
made-stepped (index i) (vec n t) vs = within-behind i vs (out_of_bounds i (type_of (vector vs)) (count vs))
made-stepped (index i) (mat c r t) vs = within-behind i vs (out_of_bounds i (type_of (matrix vs)) (count vs))
made-stepped (index i) t vs = refl

number-stepped : (s : Step) (t : Ty) (k : Kind) (z : ℤ) → behind (stepped s (made_of_number t k z)) ≡ None
number-stepped (member n) (atomic t) k z = refl
number-stepped (index i) (atomic t) k z = refl
number-stepped (member n) t k z = refl
number-stepped (index i) t k z = refl

no-range : (o : Option ℕ) (f : Range → Val) → option_and_then (λ i. option_map f (part_at i no_parts)) o ≡ None
no-range None f = refl
no-range (Some i) f = refl

items-decoded : (o : Option ℕ) (b : List ℕ) (at : ℕ) (ps : Parts) → option_and_then (λ i. item i (decoded_parts b at ps)) o ≡ option_and_then (λ i. option_map (λ r. decoded b (at + r.start) r.layout) (part_at i ps)) o
items-decoded None b at ps = refl
items-decoded (Some i) b at ps = item-decoded i b at ps

-- a step into what the bytes lay out leads to what they lay out at the range of the part
pub decoded-stepped : (s : Step) (b : List ℕ) (o : ℕ) (l : Layout)
    → behind (stepped s (decoded b o l)) ≡ option_and_then (λ i. option_map (λ r. decoded b (o + r.start) r.layout) (part_at i (parts_in l))) (step_in s (type_in l))
decoded-stepped s b o (scalar t k) = number-stepped s t k (read_number b o k) ∙ sym (no-range (step_in s t) (λ r. decoded b (o + r.start) r.layout))
decoded-stepped s b o (composite t len ps) = made-stepped s t (decoded_parts b o ps) ∙ items-decoded (step_in s t) b o ps

-- ---- a view

-- the range along a view, a step at a time
pub view_range-step : (s : Step) (steps : List Step) (l : Layout)
    → view_range (s ∷ steps) l ≡ option_and_then (λ i. option_and_then (λ r. option_map (further r.start) (view_range steps r.layout)) (part_at i (parts_in l))) (step_in s (type_in l))
view_range-step s steps l = by (step_in s (type_in l))
  where
    paths : (i : ℕ) (r : Range) (o : Option (List ℕ)) → part_at i (parts_in l) ≡ Some r
        → option_and_then (λ p. range_in p l) (option_map (λ p. i ∷ p) o) ≡ option_map (further r.start) (option_and_then (λ p. range_in p r.layout) o)
    paths i r None e = refl
    paths i r (Some p) e = ap (λ (q : Option Range). option_and_then (λ r. option_map (further r.start) (range_in p r.layout)) q) e

    parts : (i : ℕ) (o : Option Range) → part_at i (parts_in l) ≡ o
        → option_and_then (λ p. range_in p l) (option_and_then (λ r. option_map (λ p. i ∷ p) (path_in steps r.layout)) o) ≡ option_and_then (λ r. option_map (further r.start) (view_range steps r.layout)) o
    parts i None e = refl
    parts i (Some r) e = paths i r (path_in steps r.layout) e

    by : (o : Option ℕ)
        → option_and_then (λ p. range_in p l) (option_and_then (λ i. option_and_then (λ r. option_map (λ p. i ∷ p) (path_in steps r.layout)) (part_at i (parts_in l))) o)
        ≡ option_and_then (λ i. option_and_then (λ r. option_map (further r.start) (view_range steps r.layout)) (part_at i (parts_in l))) o
    by None = refl
    by (Some i) = parts i (part_at i (parts_in l)) refl

-- what a view leads to, by what each of its steps does
abbrev steps_on : List Step → Option Val → Option Val
steps_on steps o = option_and_then (λ v. result_ok (viewed steps v)) o

viewed-steps : (steps : List Step) (o : Outcome (ℕ × Val)) → result_ok (and_then o (λ p. viewed steps p.1)) ≡ steps_on steps (behind o)
viewed-steps steps (Ok p) = refl
viewed-steps steps (Err e) = refl

-- a view of what the bytes lay out leads to what they lay out at its range
pub decoded-viewed : (steps : List Step) (b : List ℕ) (o : ℕ) (l : Layout)
    → result_ok (viewed steps (decoded b o l)) ≡ option_map (λ r. decoded b (o + r.start) r.layout) (view_range steps l)
decoded-viewed [] b o l = let z : o + 0 ≡ o = omega arith in rw z refl
decoded-viewed (s ∷ steps) b o l =
    viewed-steps steps (stepped s (decoded b o l)) ∙ ap (steps_on steps) (decoded-stepped s b o l)
    ∙ by (step_in s (type_in l)) (λ r. decoded-viewed steps b (o + r.start) r.layout)
    ∙ ap (option_map (λ r. decoded b (o + r.start) r.layout)) (sym (view_range-step s steps l))
  where
    Rest : Type 0
    Rest = (r : Range) → result_ok (viewed steps (decoded b (o + r.start) r.layout)) ≡ option_map (λ q. decoded b (o + r.start + q.start) q.layout) (view_range steps r.layout)

    moved : (r : Range) (q : Option Range) → option_map (λ q. decoded b (o + r.start + q.start) q.layout) q ≡ option_map (λ r. decoded b (o + r.start) r.layout) (option_map (further r.start) q)
    moved r None = refl
    moved r (Some q) = let e : o + r.start + q.start ≡ o + (r.start + q.start) = omega arith in rw e refl

    parts : Rest → (q : Option Range) → steps_on steps (option_map (λ r. decoded b (o + r.start) r.layout) q)
        ≡ option_map (λ r. decoded b (o + r.start) r.layout) (option_and_then (λ r. option_map (further r.start) (view_range steps r.layout)) q)
    parts on None = refl
    parts on (Some r) = on r ∙ moved r (view_range steps r.layout)

    by : (i : Option ℕ) → Rest → steps_on steps (option_and_then (λ i. option_map (λ r. decoded b (o + r.start) r.layout) (part_at i (parts_in l))) i)
        ≡ option_map (λ r. decoded b (o + r.start) r.layout) (option_and_then (λ i. option_and_then (λ r. option_map (further r.start) (view_range steps r.layout)) (part_at i (parts_in l))) i)
    by None on = refl
    by (Some i) on = parts on (part_at i (parts_in l))
