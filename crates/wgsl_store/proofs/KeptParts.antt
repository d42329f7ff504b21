-- Which references of the parts of a value are kept, part by part.
use Rattle.std.proofs.Common.{◌≡◌, ℕ, suc, ◌+◌, ◌≤◌, List, Some, add-one}
use Rattle.std.specs.Prelude.{◌↔◌}
use Rattle.wgsl_rules.specs.Values.{Val, Vals, count, item}
use Rattle.wgsl_store.specs.Memory.{AllKept, HoldsValue, references, references_in}
use Rattle.wgsl_store.proofs.lemmas.Held.{kept-first, kept-second}
use Rattle.wgsl_store.proofs.lemmas.Sound.{kept-append}
use Rattle.wgsl_store.proofs.SamePaths.{skipped, skipped-item, skipped-all}

-- the references of all parts are kept exactly where those of the rest are
abbrev pub RestTells : List Val → ℕ → Vals → Type 0
RestTells cells i vs = AllKept cells (references_in vs) ↔ AllKept cells (references_in (skipped i vs))

here : (cells : List Val) (i : ℕ) (vs : Vals) (x : Val) → item i vs ≡ Some x → AllKept cells (references_in (skipped i vs)) ↔ (HoldsValue cells x × AllKept cells (references_in (skipped (suc i) vs)))
here cells i vs x e = rw (skipped-item i vs x e) (
  (λ h. (kept-first cells (references x) (references_in (skipped (suc i) vs)) h, kept-second cells (references x) (references_in (skipped (suc i) vs)) h)),
  (λ h. kept-append cells (references x) (references_in (skipped (suc i) vs)) h.0 h.1),
)

pub rest-next : (cells : List Val) (i : ℕ) (vs : Vals) (x : Val) → RestTells cells i vs → item i vs ≡ Some x → HoldsValue cells x → RestTells cells (i + 1) vs
rest-next cells i vs x r e h = let k = here cells i vs x e in rw add-one ((λ a. (k.0 (r.0 a)).1), (λ b. r.1 (k.1 (h, b))))

pub not-kept : (cells : List Val) (i : ℕ) (vs : Vals) (x : Val) → RestTells cells i vs → item i vs ≡ Some x → (HoldsValue cells x → ⊥) → AllKept cells (references_in vs) → ⊥
not-kept cells i vs x r e h a = h (((here cells i vs x e).0 (r.0 a)).0)

pub all-told : (cells : List Val) (i : ℕ) (vs : Vals) → RestTells cells i vs → count vs ≤ i → AllKept cells (references_in vs)
all-told cells i vs r h = r.1 (rw (skipped-all i vs h) tt)
