-- What is lent of a composite to be written, and the composite after that.
use Rattle.std.proofs.Common.{◌≡◌, ℕ, zero, suc, Bool, true, false, List, [], ◌∷◌, Option, Some, None, option_map, option_and_then, Ok, Err, MutBor, refl, sym, ap, ◌∙◌, subst}
use Rattle.std.specs.Option.{IfSome}
use Rattle.wgsl_rules.proofs.lemmas.Converted.{storable-well_formed}
use Rattle.wgsl_rules.proofs.lemmas.Paths.{member_named-item}
use Rattle.wgsl_rules.specs.Paths.{member_named, parts, value_at, path_of, viewed, put_tree, put_viewed}
use Rattle.wgsl_rules.specs.Refusals.{Outcome}
use Rattle.wgsl_rules.specs.Types as types
use Rattle.wgsl_rules.specs.Types.{Ty}
use Rattle.wgsl_rules.specs.Values.{Step, Val, array_of, atomic_of, matrix, vector, Vals, no_vals, val, count, item, type_of, first_type, array_type, AllOfType, IsStorable, IsWellFormed}
use Rattle.wgsl_values.specs.Parts.{component_at, components}
use Rattle.wgsl_values.specs.Rows.{holding, lent_type}
use Rattle.wgsl_values.specs.View.{value_of, array_view, atomic_view, mat_view, vec_view, vals_view}
use Rattle.wgsl_values.specs.Written.{IsAsSound, IsKept, IsWritten, KeepsWhole, with_part, with_inner_part, with_member}
use Rattle.wgsl_values.specs.declared.instance.Instance.{Instance}
use Rattle.wgsl_values.specs.declared.array.ArrayInstance.{ArrayInstance}
use Rattle.wgsl_values.specs.declared.atomic.AtomicInstance.{AtomicInstance}
use Rattle.wgsl_values.specs.declared.matrix.MatInstance.{MatInstance}
use Rattle.wgsl_values.specs.declared.vector.VecInstance.{VecInstance}
use Rattle.wgsl_values.proofs.lemmas.Replaced.{content-kept, part-kept, part-sound}
use Rattle.wgsl_values.proofs.lemmas.Steps.{item-storable}
use Rattle.wgsl_values.proofs.lemmas.Views.{array_view-is, mat_view-is, vec_view-is}
use Rattle.wgsl_values.proofs.Written.{on_some}
use Rattle.wgsl_values.proofs.lemmas.ViewedPaths.{has-path}

abbrev pub lent_value : Option (MutBor Instance) → Option Val
lent_value = option_map (λ part. value_of part.now)

-- what holds of the part that is there holds of what was lent
pub lent-has : (P : Val → Type 0) (r : Option (MutBor Instance)) (o : Option Val) → lent_value r ≡ o → ((x : Val) → o ≡ Some x → P x) → IfSome r (λ part. P (value_of part.now))
lent-has P None o e h = tt
lent-has P (Some part) o e h = h (value_of part.now) (sym e)

-- the part that is there, where something of a type was lent
lent-part : (r : Option (MutBor Instance)) (o : Option Val) (t : Ty) → lent_value r ≡ o → Some t ≡ lent_type r → (x : Val) × (o ≡ Some x) × (t ≡ type_of x)
lent-part None o t e h = absurd (cc)
lent-part (Some part) o t e h = (value_of part.now, sym e, cc)

-- what is put into the place of the part that is there is written
pub written-is : (put : Val → Val → Val) (r : Option (MutBor Instance)) (o : Option Val) (w old new : Val) → new ≡ put w old → lent_value r ≡ o
    → ((x : Val) → o ≡ Some x → IsStorable w → type_of w ≡ type_of x → IsKept (put w old) old) → IsWritten put (lent_type r) w old new
written-is put r o w old new is e kept = record {
  is = on_some (lent_type r) is;
  kept = λ s h. let k = lent-part r o (type_of w) e h in rw is (kept k.0 k.1 s k.2);
}

-- nothing was lent
pub none-written : (put : Val → Val → Val) (w old new : Val) → IsWritten put None w old new
none-written put w old new = record { is = tt; kept = λ s h. absurd (cc) }

-- ---- where parts are

pub item-at : (i : ℕ) (v x : Val) → item i (parts v) ≡ Some x → value_at (i ∷ []) v ≡ Some x
item-at i v x e = ap (option_and_then (value_at [])) e

pub item-kept : (i : ℕ) (w v x : Val) → item i (parts v) ≡ Some x → IsStorable w → type_of w ≡ type_of x → IsKept (with_part i w v) v
item-kept i w v x e s t = part-kept (i ∷ []) v w x (item-at i v x e) s t

-- the member of a name is the part at its position
named-at : (o : Option (ℕ × Val)) (x : Val) → option_map {T = ℕ × Val} (λ p. p.1) o ≡ Some x → (p : ℕ × Val) × (o ≡ Some p) × (p.1 ≡ x)
named-at None x e = absurd (cc)
named-at (Some p) x e = (p, refl, cc)

pub member-at : (n : List ℕ) (v x : Val) → option_map {T = ℕ × Val} (λ p. p.1) (member_named n v) ≡ Some x → (i : ℕ) × (value_at (i ∷ []) v ≡ Some x)
member-at n v x e =
    let k = named-at (member_named n v) x e in
    (k.0.0, item-at k.0.0 v x (member_named-item n v k.0 k.1 ∙ ap Some k.2))

pub member-kept : (n : List ℕ) (w v x : Val) → option_map {T = ℕ × Val} (λ p. p.1) (member_named n v) ≡ Some x → IsStorable w → type_of w ≡ type_of x → IsKept (with_member n w v) v
member-kept n w v x e s t =
    let k = named-at (member_named n v) x e in
    rw k.1 (item-kept k.0.0 w v x (member_named-item n v k.0 k.1 ∙ ap Some k.2) s t)

components-item : (j : ℕ) (y x : Val) → item j (components y) ≡ Some x → item j (parts y) ≡ Some x
components-item j (vector vs) x e = e
components-item j y x e = absurd (cc)

pub component-at : (i j : ℕ) (v x : Val) → component_at i j (parts v) ≡ Some x → value_at (i ∷ j ∷ []) v ≡ Some x
component-at i j v x e = by (item i (parts v)) e
  where
    by : (o : Option Val) → option_and_then (λ y. item j (components y)) o ≡ Some x → option_and_then (value_at (j ∷ [])) o ≡ Some x
    by None f = absurd (cc)
    by (Some y) f = item-at j y x (components-item j y x f)

pub component-kept : (i j : ℕ) (w v x : Val) → component_at i j (parts v) ≡ Some x → IsStorable w → type_of w ≡ type_of x → IsKept (with_inner_part i j w v) v
component-kept i j w v x e s t = part-kept (i ∷ j ∷ []) v w x (component-at i j v x e) s t

-- ---- the types of parts

item-typed : (i : ℕ) (t : Ty) (vs : Vals) (x : Val) → AllOfType t vs → item i vs ≡ Some x → type_of x ≡ t
item-typed i t no_vals x h e = absurd (cc)
item-typed zero t (val v vs) x h e = let same : v ≡ x = cc in ap type_of (sym same) ∙ h.0
item-typed (suc i) t (val v vs) x h e = item-typed i t vs x h.1 e

element-is : (runtime : Bool) (s t : Ty) (k : ℕ) (n : Option ℕ) → array_type runtime s k ≡ types.array t n → s ≡ t
element-is true s t k n e = cc
element-is false s t k n e = cc

pub element-typed : (i : ℕ) (runtime : Bool) (vs : Vals) (x : Val) (t : Ty) (n : Option ℕ) → item i vs ≡ Some x → IsWellFormed (array_of runtime vs)
    → type_of (array_of runtime vs) ≡ types.array t n → type_of x ≡ t
element-typed i runtime vs x t n e h is = item-typed i (first_type vs) vs x h.1 e ∙ element-is runtime (first_type vs) t (count vs) n is

pub vector-typed : (i : ℕ) (vs : Vals) (x : Val) (n : ℕ) (t : Ty) → item i vs ≡ Some x → IsWellFormed (vector vs) → type_of (vector vs) ≡ types.vec n t → type_of x ≡ t
vector-typed i vs x n t e h is = let first : first_type vs ≡ t = cc in item-typed i (first_type vs) vs x h.3 e ∙ first

pub column-typed : (i : ℕ) (vs : Vals) (x : Val) (columns rows : ℕ) (t : Ty) → item i vs ≡ Some x → IsWellFormed (matrix vs) → type_of (matrix vs) ≡ types.mat columns rows t → type_of x ≡ types.vec rows t
column-typed i no_vals x columns rows t e h is = absurd (cc)
column-typed i (val (vector us) vs) x columns rows t e h is =
    let counted : count us ≡ rows = cc in
    let typed : first_type us ≡ t = cc in
    item-typed i (types.vec (count us) (first_type us)) (val (vector us) vs) x h.3 e ∙ rw (counted, typed) refl
column-typed i (val v vs) x columns rows t e h is = absurd h.2.0

in-column : (j : ℕ) (y x : Val) (rows : ℕ) (t : Ty) → item j (components y) ≡ Some x → IsWellFormed y → type_of y ≡ types.vec rows t → type_of x ≡ t
in-column j (vector us) x rows t e h is = vector-typed j us x rows t e h is
in-column j y x rows t e h is = absurd (cc)

pub component-typed : (i j : ℕ) (vs : Vals) (x : Val) (columns rows : ℕ) (t : Ty) → component_at i j vs ≡ Some x → IsWellFormed (matrix vs) → type_of (matrix vs) ≡ types.mat columns rows t → type_of x ≡ t
component-typed i j vs x columns rows t e h is = by (item i vs) e refl
  where
    by : (o : Option Val) → option_and_then (λ y. item j (components y)) o ≡ Some x → item i vs ≡ o → type_of x ≡ t
    by None f k = absurd (cc)
    by (Some y) f k = in-column j y x rows t f (storable-well_formed y (item-storable i vs y h.4 k)) (column-typed i vs y columns rows t k h is)

-- ---- the parts that are lent of each composite

pub array-part : (a : ArrayInstance) (i : ℕ) (x : Val) → item i (parts (array_view a)) ≡ Some x → (t : Ty) (n : Option ℕ) → IsWellFormed (array_view a) → type_of (array_view a) ≡ types.array t n → type_of x ≡ t
array-part a i x e t n h is =
    let s = array_view-is a in
    element-typed i a.runtime_sized (vals_view a.components.items) x t n (subst (λ (v : Val). item i (parts v) ≡ Some x) s e) (subst IsWellFormed s h) (subst (λ (v : Val). type_of v ≡ types.array t n) s is)

pub vector-part : (a : VecInstance) (i : ℕ) (x : Val) → item i (parts (vec_view a)) ≡ Some x → (n : ℕ) (t : Ty) → IsWellFormed (vec_view a) → type_of (vec_view a) ≡ types.vec n t → type_of x ≡ t
vector-part a i x e n t h is =
    let s = vec_view-is a in
    vector-typed i (vals_view a.components.items) x n t (subst (λ (v : Val). item i (parts v) ≡ Some x) s e) (subst IsWellFormed s h) (subst (λ (v : Val). type_of v ≡ types.vec n t) s is)

pub column-part : (m : MatInstance) (i : ℕ) (x : Val) → item i (parts (mat_view m)) ≡ Some x → (columns rows : ℕ) (t : Ty) → IsWellFormed (mat_view m) → type_of (mat_view m) ≡ types.mat columns rows t → type_of x ≡ types.vec rows t
column-part m i x e columns rows t h is =
    let s = mat_view-is m in
    column-typed i (vals_view m.columns.items) x columns rows t (subst (λ (v : Val). item i (parts v) ≡ Some x) s e) (subst IsWellFormed s h) (subst (λ (v : Val). type_of v ≡ types.mat columns rows t) s is)

pub component-part : (m : MatInstance) (i j : ℕ) (x : Val) → component_at i j (parts (mat_view m)) ≡ Some x → (columns rows : ℕ) (t : Ty) → IsWellFormed (mat_view m) → type_of (mat_view m) ≡ types.mat columns rows t → type_of x ≡ t
component-part m i j x e columns rows t h is =
    let s = mat_view-is m in
    component-typed i j (vals_view m.columns.items) x columns rows t (subst (λ (v : Val). component_at i j (parts v) ≡ Some x) s e) (subst IsWellFormed s h) (subst (λ (v : Val). type_of v ≡ types.mat columns rows t) s is)

-- ---- what an atomic holds

pub holding-kept : (a : AtomicInstance) (w : Instance) (x : Val) → atomic_view (holding a w) ≡ atomic_of (value_of w) → atomic_of x ≡ atomic_view a → IsStorable (value_of w) → type_of (value_of w) ≡ type_of x
    → IsKept (atomic_view (holding a w)) (atomic_view a)
holding-kept a w x new old s t = rw (new, ← old) (content-kept (value_of w) x s t)

pub holding-typed : (a : AtomicInstance) (x : Val) (t : Ty) → atomic_of x ≡ atomic_view a → type_of (atomic_view a) ≡ types.atomic t → type_of x ≡ t
holding-typed a x t e is = let inner : types.atomic (type_of x) ≡ types.atomic t = ap type_of e ∙ is in cc

-- ---- what a view leads to

put-along : (o : Outcome (List ℕ)) (p : List ℕ) (w v : Val) → o ≡ Ok p → (elim o [ Ok q ↦ put_tree q w v | Err e ↦ v ]) ≡ put_tree p w v
put-along (Ok q) p w v e = let same : q ≡ p = cc in ap (λ (r : List ℕ). put_tree r w v) same
put-along (Err r) p w v e = absurd (cc)

pub view-kept : (steps : List Step) (w v x : Val) → viewed steps v ≡ Ok x → IsStorable w → type_of w ≡ type_of x → IsKept (put_viewed steps w v) v
view-kept steps w v x e s t =
    let k = has-path steps v x e in
    rw (put-along (path_of steps v) k.path w v k.there) (part-kept k.path v w x k.stands s t)

pub view-sound : (steps : List Step) (v x : Val) → viewed steps v ≡ Ok x → IsAsSound x v
view-sound steps v x e = let k = has-path steps v x e in part-sound k.path v x k.stands

pub keeps-whole : (put : Val → Val) (t : Ty) (old : Val) → ((w : Val) → IsStorable w → type_of w ≡ t → IsKept (put w) old) → KeepsWhole put t old
keeps-whole put t old kept = record {
  well_formed = λ n w is s k h. subst IsWellFormed (sym is) ((kept w s k).well_formed h);
  storable = λ n w is s k h. subst IsStorable (sym is) ((kept w s k).storable h);
  ty = λ n w is s k. ap type_of is ∙ (kept w s k).ty;
}
