-- Parts of cells of bytes, by the ranges at which they are located.
use Rattle.std.proofs.Common.{◌≡◌, ℕ, ◌+◌, List, ◌∷◌, Option, Some, None, option_map, option_and_then, Bool, true, false, refl, sym, ap, ◌∙◌, arith}
use Rattle.std.specs.Prelude.{◌↔◌}
use Rattle.std.specs.Result.{result_ok}
use Rattle.wgsl_rules.specs.Types.{Ty, vec}
use Rattle.wgsl_rules.specs.Values.{Step, Val, vector, Vals, no_vals, val, count, item, type_of, first_type}
use Rattle.wgsl_rules.specs.Paths.{parts, stepped, viewed}
use Rattle.wgsl_rules.specs.Layout.{Layout, type_in}
use Rattle.wgsl_layout.specs.Buffers.{decoded}
use Rattle.wgsl_layout.specs.Located.{IsInside, part_range, shape_ty, step_range}
use Rattle.wgsl_layout.specs.Ranges.{Range, further, part_at, parts_in, step_in, view_range}
use Rattle.wgsl_layout.specs.declared.located.Located.{Located}
use Rattle.wgsl_layout.proofs.lemmas.Parts.{behind, decoded_in, decoded-stepped, decoded-viewed, view_range-step}
use Rattle.wgsl_layout.proofs.lemmas.ViewPaths.{layout-type}

-- the range one step behind `a`, in a layout that begins there
abbrev pub stepped_range : Step → ℕ → Layout → Option Range
stepped_range s a l = option_and_then (λ i. option_map (further a) (part_at i (parts_in l))) (step_in s (type_in l))

step_range-is : (s : Step) (l : Located) → step_range s l ≡ stepped_range s l.start (part_range l).layout
step_range-is s l =
    ap (λ (t : Ty). option_and_then (λ i. option_map (further l.start) (part_at i (parts_in (part_range l).layout))) (step_in s t)) (sym (layout-type (shape_ty l.shape) l.count))

-- ---- views

further-twice : (a : ℕ) (r : Range) (o : Option Range) → option_map (further (a + r.start)) o ≡ option_map (further a) (option_map (further r.start) o)
further-twice a r None = refl
further-twice a r (Some q) = let e : a + r.start + q.start ≡ a + (r.start + q.start) = omega arith in let at : ℕ → Option Range = λ n. Some (record { start = n; layout = q.layout }) in ap at e

view-on : (s : Step) (steps : List Step) (a : ℕ) (l : Layout) (o : Option Range) → o ≡ stepped_range s a l
    → option_and_then (λ r. option_map (further r.start) (view_range steps r.layout)) o ≡ option_map (further a) (view_range (s ∷ steps) l)
view-on s steps a l o e =
    ap (option_and_then (λ r. option_map (further r.start) (view_range steps r.layout))) e ∙ by (step_in s (type_in l))
    ∙ ap (option_map (further a)) (sym (view_range-step s steps l))
  where
    on : (q : Option Range) → option_and_then (λ r. option_map (further r.start) (view_range steps r.layout)) (option_map (further a) q)
        ≡ option_map (further a) (option_and_then (λ r. option_map (further r.start) (view_range steps r.layout)) q)
    on None = refl
    on (Some r) = further-twice a r (view_range steps r.layout)

    by : (k : Option ℕ) → option_and_then (λ r. option_map (further r.start) (view_range steps r.layout)) (option_and_then (λ i. option_map (further a) (part_at i (parts_in l))) k)
        ≡ option_map (further a) (option_and_then (λ i. option_and_then (λ r. option_map (further r.start) (view_range steps r.layout)) (part_at i (parts_in l))) k)
    by None = refl
    by (Some i) = on (part_at i (parts_in l))

-- along a view whose first step leads to the next part
pub located-on : (s : Step) (steps all : List Step) (l next : Located) → Some (part_range next) ≡ step_range s l → all ≡ s ∷ steps
    → option_map (further next.start) (view_range steps (part_range next).layout) ≡ option_map (further l.start) (view_range all (part_range l).layout)
located-on s steps all l next e all_is =
    view-on s steps l.start (part_range l).layout (Some (part_range next)) (e ∙ step_range-is s l)
    ∙ ap (λ (v : List Step). option_map (further l.start) (view_range v (part_range l).layout)) (sym all_is)

-- and along one whose first step leads nowhere
pub located-off : (s : Step) (steps all : List Step) (l : Located) → None ≡ step_range s l → all ≡ s ∷ steps → None ≡ option_map (further l.start) (view_range all (part_range l).layout)
located-off s steps all l e all_is =
    view-on s steps l.start (part_range l).layout None (e ∙ step_range-is s l) ∙ ap (λ (v : List Step). option_map (further l.start) (view_range v (part_range l).layout)) (sym all_is)

pub inside-on : (outer l inner : Located) → IsInside outer l → IsInside l inner → IsInside outer inner
inside-on outer l inner a b = record { there = b.there; len = b.len ∙ a.len; count = b.count ∙ a.count }

-- ---- values

further-decoded : (b : List ℕ) (a : ℕ) (o : Option Range) → option_map (decoded_in b) (option_map (further a) o) ≡ option_map (λ r. decoded b (a + r.start) r.layout) o
further-decoded b a None = refl
further-decoded b a (Some r) = refl

-- what bytes lay out in the range of a part, one step deeper
pub step-value : (s : Step) (b : List ℕ) (l : Located) (o : Option Range) → o ≡ step_range s l → option_map (decoded_in b) o ≡ behind (stepped s (decoded b l.start (part_range l).layout))
step-value s b l o e =
    ap (option_map (decoded_in b)) (e ∙ step_range-is s l) ∙ by (step_in s (type_in (part_range l).layout)) ∙ sym (decoded-stepped s b l.start (part_range l).layout)
  where
    by : (k : Option ℕ) → option_map (decoded_in b) (option_and_then (λ i. option_map (further l.start) (part_at i (parts_in (part_range l).layout))) k)
        ≡ option_and_then (λ i. option_map (λ r. decoded b (l.start + r.start) r.layout) (part_at i (parts_in (part_range l).layout))) k
    by None = refl
    by (Some i) = further-decoded b l.start (part_at i (parts_in (part_range l).layout))

-- and along a view
pub view-value : (steps : List Step) (b : List ℕ) (l : Located) (o : Option Range) → o ≡ option_map (further l.start) (view_range steps (part_range l).layout)
    → option_map (decoded_in b) o ≡ result_ok (viewed steps (decoded b l.start (part_range l).layout))
view-value steps b l o e =
    ap (option_map (decoded_in b)) e ∙ further-decoded b l.start (view_range steps (part_range l).layout) ∙ sym (decoded-viewed steps b l.start (part_range l).layout)

-- ---- tests

pub same-truth : (a b : Bool) → (a ≡ true → b ≡ true) → (b ≡ true → a ≡ true) → a ≡ b
same-truth true true f g = refl
same-truth true false f g = sym (f refl)
same-truth false true f g = g refl
same-truth false false f g = refl

-- ---- vectors

-- the type of a vector, by its first component
pub vector-type : (w x : Val) (vs : Vals) → w ≡ vector vs → item 0 (parts w) ≡ Some x → type_of w ≡ vec (count (parts w)) (type_of x)
vector-type w x vs is at = rw is (ap (vec (count vs)) (first vs (rw is at at)))
  where
    first : (us : Vals) → item 0 us ≡ Some x → first_type us ≡ type_of x
    first no_vals e = absurd (cc)
    first (val u us) e = let same : u ≡ x = cc in ap type_of same

vec-parts : (m n : ℕ) (s t : Ty) → vec m s ≡ vec n t → (m ≡ n) × (s ≡ t)
vec-parts m n s t e = (cc, cc)

-- which test tells that it is of a vector type
pub vector-told : (w x : Val) (vs : Vals) (n : ℕ) (t : Ty) (b : Bool) → w ≡ vector vs → item 0 (parts w) ≡ Some x → (b ≡ true) ↔ (type_of x ≡ t) → count (parts w) ≡ n → (b ≡ true) ↔ (type_of w ≡ vec n t)
vector-told w x vs n t b is at told counted =
    let own = vector-type w x vs is at in
    (λ r. own ∙ ap (λ (k : ℕ). vec k (type_of x)) counted ∙ ap (vec n) (told.0 r), λ e. told.1 (vec-parts (count (parts w)) n (type_of x) t (sym own ∙ e)).1)
