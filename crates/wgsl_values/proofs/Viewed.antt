-- Where a view goes on from a value, or why it does not.
use Rattle.std.proofs.Common.{◌≡◌, ℕ, zero, suc, List, ◌∷◌, Option, Some, None, Err, option_map, option_and_then, refl, sym, ap, ◌∙◌, subst}
use Rattle.std.specs.Result.{result_ok}
use Rattle.wgsl_rules.proofs.lemmas.Converted.{storable-well_formed}
use Rattle.wgsl_rules.specs.Paths.{placed, index_in, member_named, within, part_at, viewed}
use Rattle.wgsl_rules.specs.Refusals.{not_indexable, out_of_bounds}
use Rattle.wgsl_rules.specs.Types.{Ty}
use Rattle.wgsl_rules.specs.Values.{Step, member, index, Val, record_of, array_of, vector, matrix, Vals, no_vals, val, item, count, type_of, AreStorable, IsWellFormed}
use Rattle.wgsl_values.specs.Parts.{indexed_parts}
use Rattle.wgsl_values.proofs.lemmas.Steps.{viewed-member}

-- ---- parts of a well-formed value

item-well_formed : (i : ℕ) (vs : Vals) (x : Val) → AreStorable vs → Some x ≡ item i vs → IsWellFormed x
item-well_formed i no_vals x h e = absurd (cc)
item-well_formed zero (val w ws) x h e = let same : w ≡ x = cc in subst IsWellFormed same (storable-well_formed w h.0)
item-well_formed (suc i) (val w ws) x h e = item-well_formed i ws x h.1 e

pub member-well_formed : (n : List ℕ) (v x : Val) → IsWellFormed v → Some x ≡ option_map (λ p. p.1) (member_named n v) → IsWellFormed x
member-well_formed n (record_of t vs) x h e = there (index_in n t) e
  where
    here : (i : ℕ) (o : Option Val) → item i vs ≡ o → Some x ≡ option_map (λ (p : ℕ × Val). p.1) (option_map (λ y. (i, y)) o) → IsWellFormed x
    here i None is f = absurd (cc)
    here i (Some y) is f = item-well_formed i vs x h.1 (f ∙ sym is)

    there : (o : Option ℕ) → Some x ≡ option_map (λ (p : ℕ × Val). p.1) (option_and_then (λ i. placed i vs) o) → IsWellFormed x
    there None f = absurd (cc)
    there (Some i) f = here i (item i vs) refl f
member-well_formed n v x h e = absurd (cc)

pub indexed-well_formed : (i : ℕ) (v x : Val) (vs : Vals) → IsWellFormed v → Some vs ≡ indexed_parts v → Some x ≡ item i vs → IsWellFormed x
indexed-well_formed i (array_of runtime ws) x vs h e f = let same : vs ≡ ws = cc in item-well_formed i ws x h.2 (f ∙ ap (item i) same)
indexed-well_formed i (vector ws) x vs h e f = let same : vs ≡ ws = cc in item-well_formed i ws x h.4 (f ∙ ap (item i) same)
indexed-well_formed i (matrix ws) x vs h e f = let same : vs ≡ ws = cc in item-well_formed i ws x h.4 (f ∙ ap (item i) same)
indexed-well_formed i v x vs h e f = absurd (cc)

-- ---- parts by index

part_at-indexed : (i : ℕ) (v : Val) (vs : Vals) → Some vs ≡ indexed_parts v → part_at i v ≡ within i (type_of v) vs
part_at-indexed i (array_of runtime ws) vs e = let same : ws ≡ vs = cc in ap (within i (type_of (array_of runtime ws))) same
part_at-indexed i (vector ws) vs e = let same : ws ≡ vs = cc in ap (within i (type_of (vector ws))) same
part_at-indexed i (matrix ws) vs e = let same : ws ≡ vs = cc in ap (within i (type_of (matrix ws))) same
part_at-indexed i v vs e = absurd (cc)

part_at-none : (i : ℕ) (v : Val) → None ≡ indexed_parts v → part_at i v ≡ Err (not_indexable (type_of v))
part_at-none i (array_of runtime ws) e = absurd (cc)
part_at-none i (vector ws) e = absurd (cc)
part_at-none i (matrix ws) e = absurd (cc)
part_at-none i v e = refl

pub viewed-past : (i : ℕ) (rest : List Step) (v : Val) (vs : Vals) (t : Ty) (n : ℕ) → Some vs ≡ indexed_parts v → None ≡ item i vs → t ≡ type_of v → n ≡ count vs
    → viewed (index i ∷ rest) v ≡ Err (out_of_bounds i t n)
viewed-past i rest v vs t n e f k c = rw (part_at-indexed i v vs e, ← f, k, c) refl

pub viewed-no_parts : (i : ℕ) (rest : List Step) (v : Val) (t : Ty) → None ≡ indexed_parts v → t ≡ type_of v → viewed (index i ∷ rest) v ≡ Err (not_indexable t)
viewed-no_parts i rest v t e k = rw (part_at-none i v e, k) refl

-- ---- a view that leads nowhere leads nowhere from the part that its first step leads to

pub member-nowhere : (n : List ℕ) (rest : List Step) (v x : Val) → Some x ≡ option_map (λ p. p.1) (member_named n v) → result_ok (viewed (member n ∷ rest) v) ≡ None → result_ok (viewed rest x) ≡ None
member-nowhere n rest v x e h = ap result_ok (sym (viewed-member n rest v x e)) ∙ h

viewed-indexed : (i : ℕ) (rest : List Step) (v x : Val) (vs : Vals) → Some vs ≡ indexed_parts v → Some x ≡ item i vs → viewed (index i ∷ rest) v ≡ viewed rest x
viewed-indexed i rest v x vs e f = rw (part_at-indexed i v vs e, ← f) refl

pub indexed-nowhere : (i : ℕ) (rest : List Step) (v x : Val) (vs : Vals) → Some vs ≡ indexed_parts v → Some x ≡ item i vs → result_ok (viewed (index i ∷ rest) v) ≡ None → result_ok (viewed rest x) ≡ None
indexed-nowhere i rest v x vs e f h = ap result_ok (sym (viewed-indexed i rest v x vs e f)) ∙ h
