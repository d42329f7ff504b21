-- One step of the walk that puts the scalars of a value in their places.
use Rattle.std.proofs.Common.{◌≡◌, ℕ, zero, suc, ◌+◌, ◌*◌, ◌<◌, ◌≤◌, List, [], ◌∷◌, length, get_or, drop, Option, Some, None, refl, sym, ap, ◌∙◌, subst, arith, add-one, drop-cons}
use Rattle.std.specs.Prelude.{IsSome, option_map}
use Rattle.std.proofs.Math.Seq.{drop-nil}
use Rattle.wgsl_rules.specs.Values.{Val, vector, Vals, no_vals, val, count, item}
use Rattle.wgsl_values.specs.View.{value_of, vals_view}
use Rattle.wgsl_values.specs.declared.instance.Instance.{Instance}
use Rattle.wgsl_values.proofs.lemmas.Nodes.{nodes, all_nodes, part-smaller}
use Rattle.wgsl_values.proofs.lemmas.Views.{item_within}
use Rattle.wgsl_layout.specs.Plan.{Plan, Places, no_places, plan_view, places_view}
use Rattle.wgsl_layout.specs.Walk.{put, put_row, put_members, Stands, StandInRow, StandAsMembers}
use Rattle.wgsl_layout.specs.declared.plan.Place.{«Place» as CodePlace}
use Rattle.wgsl_layout.proofs.Plans.{places-from}

-- ---- the values from one on

-- of a slice
pub vals-from : (vs : List Instance) (i : ℕ) (v : Instance) → i < length vs → v ≡ get_or vs i v → vals_view (drop i vs) ≡ val (value_of v) (vals_view (drop (i + 1) vs))
vals-from vs i v h e =
    let at : vals_view (drop i vs) ≡ val (value_of (get_or vs i v)) (vals_view (drop (i + 1) vs)) = rw (drop-cons vs i v, add-one) refl in
    at ∙ ap (λ x. val (value_of x) (vals_view (drop (i + 1) vs))) (sym e)

-- of values of the model
abbrev pub from : ℕ → Vals → Vals
from zero vs = vs
from (suc i) no_vals = no_vals
from (suc i) (val v vs) = from i vs

pub from-next : (i : ℕ) (vs : Vals) (v : Val) → item i vs ≡ Some v → from i vs ≡ val v (from (i + 1) vs)
from-next i no_vals v e = absurd (cc)
from-next zero (val w vs) v e = let same : w ≡ v = cc in ap (λ (x : Val). val x vs) same
from-next (suc i) (val w vs) v e = let next : suc i + 1 ≡ suc (i + 1) = omega arith in rw next (from-next i vs v e)

pub from-past : (i : ℕ) (vs : Vals) → count vs ≤ i → from i vs ≡ no_vals
from-past zero no_vals h = refl
from-past zero (val v vs) h = absurd (omega arith)
from-past (suc i) no_vals h = refl
from-past (suc i) (val v vs) h = from-past i vs (omega arith)

-- ---- they are smaller than the whole

pub item-smaller : (i : ℕ) (vs : Vals) (v : Val) → item i vs ≡ Some v → nodes v ≤ all_nodes vs
item-smaller i vs v e = let h = part-smaller i (vector vs) v e in omega arith

pub value-smaller : (vs : List Instance) (i : ℕ) (v : Instance) → i < length vs → v ≡ get_or vs i v → nodes (value_of v) ≤ all_nodes (vals_view vs)
value-smaller vs i v h e = item-smaller i (vals_view vs) (value_of v) (sym (item_within vs i v h) ∙ ap (λ (x : Instance). Some (value_of x)) (sym e))

-- ---- a row

pub record IsNextInRow (others : Vals) (v : Val) (p : Plan) (base i far : ℕ) (out all : List ℕ) : Type 0 where
  pub within : base + i * far ≤ length out
  pub stands : Stands v p (base + i * far) (length out)
  pub after : (new : List ℕ) → length new ≡ length out → new ≡ put v p (base + i * far) out
      → StandInRow others far p (base + (i + 1) * far) (length new) × (put_row others far p (base + (i + 1) * far) new ≡ all)

pub row-next : (now others : Vals) (v : Val) (p : Plan) (base i far : ℕ) (out all : List ℕ) → now ≡ val v others
    → StandInRow now far p (base + i * far) (length out) → put_row now far p (base + i * far) out ≡ all → IsNextInRow others v p base i far out all
row-next now others v p base i far out all is stand put_is =
    let stand' = rw is at stand in
    let put' = rw is at put_is in
    let next : base + i * far + far ≡ base + (i + 1) * far = omega arith in
    record {
      within = stand'.0;
      stands = stand'.1;
      after = λ new long made. (
        subst (λ (n : ℕ). StandInRow others far p (base + (i + 1) * far) n) (sym long) (subst (λ (o : ℕ). StandInRow others far p o (length out)) next stand'.2),
        subst (λ (b : List ℕ). put_row others far p (base + (i + 1) * far) b ≡ all) (sym made)
            (subst (λ (o : ℕ). put_row others far p o (put v p (base + i * far) out) ≡ all) next put'),
      );
    }

-- ---- members

-- a member that stands has a place
pub has-place : (vs : List Instance) (ps : List CodePlace) (i : ℕ) (v : Instance) (o len : ℕ) → i < length vs → v ≡ get_or vs i v → StandAsMembers (vals_view (drop i vs)) (places_view (drop i ps)) o len → i < length ps
has-place vs [] i v o len h e stand =
    absurd (subst (λ (w : Vals). StandAsMembers w no_places o len) (vals-from vs i v h e) (subst (λ (x : List CodePlace). StandAsMembers (vals_view (drop i vs)) (places_view x) o len) (drop-nil i) stand))
has-place (w ∷ vs) (p ∷ ps) zero v o len h e stand = omega arith
has-place (w ∷ vs) (p ∷ ps) (suc i) v o len h e stand = let k = has-place vs ps i v o len (omega arith) e stand in omega arith
has-place [] (p ∷ ps) i v o len h e stand = absurd (omega arith)

pub record IsNextMember (others : Vals) (v : Val) (p : CodePlace) (ps : Places) (base : ℕ) (out all : List ℕ) : Type 0 where
  pub within : base + p.offset ≤ length out
  pub stands : Stands v (plan_view p.plan) (base + p.offset) (length out)
  pub after : (new : List ℕ) → length new ≡ length out → new ≡ put v (plan_view p.plan) (base + p.offset) out → StandAsMembers others ps base (length new) × (put_members others ps base new ≡ all)

pub member-next : (vs : List Instance) (ps : List CodePlace) (i : ℕ) (v : Instance) (p : CodePlace) (base : ℕ) (out all : List ℕ) → i < length vs → v ≡ get_or vs i v → i < length ps → p ≡ get_or ps i p
    → StandAsMembers (vals_view (drop i vs)) (places_view (drop i ps)) base (length out) → put_members (vals_view (drop i vs)) (places_view (drop i ps)) base out ≡ all
    → IsNextMember (vals_view (drop (i + 1) vs)) (value_of v) p (places_view (drop (i + 1) ps)) base out all
member-next vs ps i v p base out all h e k d stand put_is =
    let values = vals-from vs i v h e in
    let places = places-from ps i p k d in
    let stand' = rw (values, places) at stand in
    let put' = rw (values, places) at put_is in
    record {
      within = stand'.0;
      stands = stand'.1;
      after = λ new long made. (rw long stand'.2, rw made put');
    }

-- ---- a part of a position

pub item-there : {A : Type 0} (o : Option A) (f : A → Val) (i : ℕ) (vs : Vals) → option_map f o ≡ item i vs → i < count vs → IsSome o
item-there (Some x) f i vs e h = refl
item-there None f i vs e h = absurd (none i vs (sym e) h)
  where
    none : (i : ℕ) (vs : Vals) → item i vs ≡ None → i < count vs → ⊥
    none i no_vals e h = absurd (omega arith)
    none zero (val v vs) e h = absurd (cc)
    none (suc i) (val v vs) e h = none i vs e (omega arith)

pub item-is : {A : Type 0} (o : Option A) (f : A → Val) (x : A) (i : ℕ) (vs : Vals) → option_map f o ≡ item i vs → o ≡ Some x → item i vs ≡ Some (f x)
item-is o f x i vs e is = sym e ∙ ap (option_map f) is

-- the next column of a matrix
pub column-next : {A : Type 0} (o : Option A) (f : A → Val) (x : A) (i : ℕ) (vs : Vals) (p : Plan) (base far : ℕ) (out all : List ℕ) → option_map f o ≡ item i vs → o ≡ Some x
    → StandInRow (from i vs) far p (base + i * far) (length out) → put_row (from i vs) far p (base + i * far) out ≡ all → IsNextInRow (from (i + 1) vs) (f x) p base i far out all
column-next o f x i vs p base far out all e is = row-next (from i vs) (from (i + 1) vs) (f x) p base i far out all (from-next i vs (f x) (item-is o f x i vs e is))
