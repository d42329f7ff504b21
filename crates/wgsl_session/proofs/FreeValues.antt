-- Values that hold no reference or pointer, part by part.
use Rattle.std.proofs.Common.{◌≡◌, ℕ, zero, suc, ◌+◌, ◌<◌, ◌≤◌, List, [], ◌∷◌, ◌++◌, length, get_or, Some, refl, sym, ap, ◌∙◌, subst, arith, below_more}
use Rattle.wgsl_rules.specs.Values.{Reference, Val, truth, number, vector, matrix, Vals, no_vals, val, count, item, IsStorable, AreStorable, AreLiterals, AreVectors}
use Rattle.wgsl_store.specs.Memory.{references, references_in}
use Rattle.wgsl_values.specs.View.{value_of, vals_view}
use Rattle.wgsl_values.specs.declared.instance.Instance.{Instance}
use Rattle.wgsl_values.specs.declared.instance.Instance.TheVariants as instances
use Rattle.wgsl_values.specs.declared.matrix.MatInstance.{MatInstance}
use Rattle.wgsl_values.proofs.lemmas.Views.{item_within, mat_view-is, value_of-Mat}

-- ---- vectors and matrices

literals-free : (vs : Vals) → AreLiterals vs → references_in vs ≡ []
literals-free no_vals h = refl
literals-free (val (truth b) vs) h = literals-free vs h.1
literals-free (val (number k z) vs) h = literals-free vs h.1
literals-free (val v vs) h = absurd h.0

vectors-free : (vs : Vals) → AreVectors vs → AreStorable vs → references_in vs ≡ []
vectors-free no_vals h s = refl
vectors-free (val (vector ws) vs) h s = rw (literals-free ws s.0.2) (vectors-free vs h.1 s.1)
vectors-free (val v vs) h s = absurd h.0

pub matrix-free : (v : Instance) (m : MatInstance) → v ≡ instances.Mat m → IsStorable (value_of v) → references (value_of v) ≡ []
matrix-free v m e h =
    let is : value_of v ≡ matrix (vals_view m.columns.items) = ap value_of e ∙ value_of-Mat m ∙ mat_view-is m in
    let storable = subst IsStorable is h in
    ap references is ∙ vectors-free (vals_view m.columns.items) storable.2 storable.4

-- ---- lists of values

-- the value that a walk is at stands at its position
pub item-there : (vs : List Instance) (i : ℕ) (v : Instance) → i < length vs → v ≡ get_or vs i v → item i (vals_view vs) ≡ Some (value_of v)
item-there vs i v h e = sym (item_within vs i v h) ∙ ap (λ (w : Instance). Some (value_of w)) (sym e)

first-none : (qs rs : List Reference) → (qs ++ rs) ≡ [] → qs ≡ []
first-none [] rs e = refl
first-none (q ∷ qs) rs e = absurd (cc)

second-none : (qs rs : List Reference) → (qs ++ rs) ≡ [] → rs ≡ []
second-none [] rs e = e
second-none (q ∷ qs) rs e = absurd (cc)

-- where the list holds none, no value of it does
pub not-free : (i : ℕ) (vs : Vals) (x : Val) → item i vs ≡ Some x → references_in vs ≡ [] → references x ≡ []
not-free i no_vals x is e = absurd (cc)
not-free zero (val v vs) x is e = let same : v ≡ x = cc in rw (← same) (first-none (references v) (references_in vs) e)
not-free (suc i) (val v vs) x is e = not-free i vs x is (second-none (references v) (references_in vs) e)

-- the values before a position hold none
abbrev pub FreeBelow : ℕ → Vals → Type 0
FreeBelow i vs = (k : ℕ) → k < i → (x : Val) → item k vs ≡ Some x → references x ≡ []

pub free-more : (i : ℕ) (vs : Vals) (x : Val) → FreeBelow i vs → item i vs ≡ Some x → references x ≡ [] → FreeBelow (i + 1) vs
free-more i vs x h e f = below_more _ _ h (λ y is. let same : x ≡ y = cc in rw (← same) f)

pub all-free : (i : ℕ) (vs : Vals) → FreeBelow i vs → count vs ≤ i → references_in vs ≡ []
all-free i no_vals h n = refl
all-free zero (val v vs) h n = absurd (omega arith)
all-free (suc i) (val v vs) h n = rw (h 0 (omega arith) v refl) (all-free i vs (λ k lt x e. h (suc k) (omega arith) x e) (omega arith))
