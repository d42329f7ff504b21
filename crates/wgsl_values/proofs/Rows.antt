-- The rows of a matrix, and lists of values that grow at the end.
use Rattle.std.proofs.Common.{◌≡◌, ℕ, zero, suc, ◌+◌, ◌<◌, ◌≤◌, add-one, List, [], ◌∷◌, ◌++◌, length, get_or, drop, Option, Some, None, refl, sym, ap, ap₂, ◌∙◌, subst}
use Rattle.std.proofs.Math.Seq.{drop-cons}
use Rattle.std.proofs.lemmas.List.{drop_all}
use Rattle.wgsl_rules.specs.Paths.{parts}
use Rattle.wgsl_rules.specs.Values.{Val, Vals, no_vals, val, item, IsLiteral, AreLiterals, IsVector, AreVectors, IsStorable, AreStorable}
use Rattle.wgsl_scalar.specs.Literals.{literal_of}
use Rattle.wgsl_scalar.specs.declared.literal.LiteralInstance.{LiteralInstance}
use Rattle.wgsl_values.specs.Matrices.{behind, row, tabulated}
use Rattle.wgsl_values.specs.View.{value_of, mat_view, vec_view, vals_view}
use Rattle.wgsl_values.specs.declared.instance.Instance.{Instance, Literal}
use Rattle.wgsl_values.specs.declared.matrix.MatInstance.{MatInstance}
use Rattle.wgsl_values.specs.declared.vector.VecInstance.{VecInstance}
use Rattle.wgsl_values.proofs.lemmas.Views.{value_of-Literal, mat_view-is, vec_view-is, item_within}

-- ---- lists of values that grow at the end

abbrev pub joined : Vals → Vals → Vals
joined no_vals ws = ws
joined (val v vs) ws = val v (joined vs ws)

pub joined-none : (vs : Vals) → joined vs no_vals ≡ vs
joined-none no_vals = refl
joined-none (val v vs) = ap (val v) (joined-none vs)

pub joined-push : (vs : List Instance) (w : Instance) (ws : Vals) → joined (vals_view (vs ++ w ∷ [])) ws ≡ joined (vals_view vs) (val (value_of w) ws)
joined-push [] w ws = refl
joined-push (v ∷ vs) w ws = ap (val (value_of v)) (joined-push vs w ws)

pub tabulated-push : (vs : List Instance) (w : Instance) (n : ℕ) (f : ℕ → Val) → vals_view vs ≡ tabulated n f → value_of w ≡ f n → vals_view (vs ++ w ∷ []) ≡ tabulated (suc n) f
tabulated-push [] w zero f e h = ap (λ v. val v no_vals) h
tabulated-push [] w (suc n) f e h = absurd (cc)
tabulated-push (v ∷ vs) w zero f e h = absurd (cc)
tabulated-push (v ∷ vs) w (suc n) f e h =
    let first : value_of v ≡ f 0 = cc in
    let others : vals_view vs ≡ tabulated n (λ i. f (suc i)) = cc in
    ap₂ val first (tabulated-push vs w n (λ i. f (suc i)) others h)

-- ---- columns and components of a matrix that may be stored

item-literal : (i : ℕ) (vs : Vals) (x : Val) → AreLiterals vs → Some x ≡ item i vs → IsLiteral x
item-literal i no_vals x h e = absurd (cc)
item-literal zero (val w ws) x h e = let same : w ≡ x = cc in subst IsLiteral same h.0
item-literal (suc i) (val w ws) x h e = item-literal i ws x h.1 e

pub component-literal : (v : VecInstance) (i : ℕ) (x : Val) → IsStorable (vec_view v) → Some x ≡ item i (parts (vec_view v)) → IsLiteral x
component-literal v i x h e = item-literal i (vals_view v.components.items) x (rw (vec_view-is v) at h).2 (rw (vec_view-is v) at e)

item-storable : (i : ℕ) (vs : Vals) (x : Val) → AreStorable vs → Some x ≡ item i vs → IsStorable x
item-storable i no_vals x h e = absurd (cc)
item-storable zero (val w ws) x h e = let same : w ≡ x = cc in subst IsStorable same h.0
item-storable (suc i) (val w ws) x h e = item-storable i ws x h.1 e

item-vector : (i : ℕ) (vs : Vals) (x : Val) → AreVectors vs → Some x ≡ item i vs → IsVector x
item-vector i no_vals x h e = absurd (cc)
item-vector zero (val w ws) x h e = let same : w ≡ x = cc in subst IsVector same h.0
item-vector (suc i) (val w ws) x h e = item-vector i ws x h.1 e

column-there : (m : MatInstance) (items : List Instance) (i : ℕ) (x : Instance) → items ≡ m.columns.items → i < length items → x ≡ get_or items i x → Some (value_of x) ≡ item i (vals_view m.columns.items)
column-there m items i x are l e = ap (λ (y : Instance). Some (value_of y)) e ∙ item_within items i x l ∙ ap (λ (vs : List Instance). item i (vals_view vs)) are

pub column-storable : (m : MatInstance) (items : List Instance) (i : ℕ) (x : Instance) → IsStorable (mat_view m) → items ≡ m.columns.items → i < length items → x ≡ get_or items i x
    → IsStorable (value_of x)
column-storable m items i x h are l e = item-storable i (vals_view m.columns.items) (value_of x) (rw (mat_view-is m) at h).4 (column-there m items i x are l e)

pub column-vector : (m : MatInstance) (items : List Instance) (i : ℕ) (x : Instance) → IsStorable (mat_view m) → items ≡ m.columns.items → i < length items → x ≡ get_or items i x
    → IsVector (value_of x)
column-vector m items i x h are l e = item-vector i (vals_view m.columns.items) (value_of x) (rw (mat_view-is m) at h).2 (column-there m items i x are l e)

-- ---- rows

-- the columns from index i on
abbrev pub row_from : ℕ → ℕ → List Instance → Vals
row_from i from columns = row i (vals_view (drop from columns))

row_from-next : (i from : ℕ) (columns : List Instance) (x : Instance) → from < length columns → x ≡ get_or columns from x
    → row_from i from columns ≡ behind (item i (parts (value_of x))) (row_from i (from + 1) columns)
row_from-next i from columns x l e =
    let next : drop from columns ≡ x ∷ drop (from + 1) columns = rw (add-one, drop-cons columns from x) (ap (λ (y : Instance). y ∷ drop (suc from) columns) (sym e)) in
    ap (λ (vs : List Instance). row i (vals_view vs)) next

pub row_from-past : (i from : ℕ) (columns : List Instance) (vs : Vals) → length columns ≤ from → joined vs (row_from i from columns) ≡ vs
row_from-past i from columns vs h =
    ap (λ (more : List Instance). joined vs (row i (vals_view more))) (drop_all from columns h) ∙ joined-none vs

-- a component of the next column is put behind those of the columns before it
pub row-grown : (i from : ℕ) (columns vs : List Instance) (column : Instance) (v : VecInstance) (literal : LiteralInstance) → from < length columns → column ≡ get_or columns from column
    → vec_view v ≡ value_of column → Some (literal_of literal) ≡ item i (parts (vec_view v))
    → joined (vals_view (vs ++ Literal literal ∷ [])) (row_from i (from + 1) columns) ≡ joined (vals_view vs) (row_from i from columns)
row-grown i from columns vs column v literal l e seen there =
    let more = row_from i (from + 1) columns in
    let first : item i (parts (value_of column)) ≡ Some (value_of (Literal literal)) = ap (λ (x : Val). item i (parts x)) (sym seen) ∙ sym there ∙ ap Some (sym (value_of-Literal literal)) in
    joined-push vs (Literal literal) more
    ∙ ap (joined (vals_view vs)) (sym (row_from-next i from columns column l e ∙ ap (λ (o : Option Val). behind o more) first))

-- a column without such a component adds nothing
pub row-kept : (i from : ℕ) (columns vs : List Instance) (column : Instance) (v : VecInstance) → from < length columns → column ≡ get_or columns from column
    → vec_view v ≡ value_of column → None ≡ item i (parts (vec_view v))
    → joined (vals_view vs) (row_from i (from + 1) columns) ≡ joined (vals_view vs) (row_from i from columns)
row-kept i from columns vs column v l e seen there =
    let more = row_from i (from + 1) columns in
    let first : item i (parts (value_of column)) ≡ None = ap (λ (x : Val). item i (parts x)) (sym seen) ∙ sym there in
    ap (joined (vals_view vs)) (sym (row_from-next i from columns column l e ∙ ap (λ (o : Option Val). behind o more) first))
