-- Composites with a part written.
use Rattle.std.proofs.Common.{◌≡◌, ◌↔◌, ℕ, zero, suc, Bool, true, false, IsTrue, List, Option, None, Some, option_map, Ok, Err, refl, sym, ap, ◌∙◌}
use Rattle.std.specs.Option.{OnSome}
use Rattle.std.specs.Vec.{with_item}
use Rattle.wgsl_rules.specs.Paths.{index_in, parts, part_at, placed, member_named, replace_item}
use Rattle.wgsl_rules.specs.Equal.{same_is}
use Rattle.wgsl_rules.specs.Refusals.{write_ref_type}
use Rattle.wgsl_rules.specs.Same.{same}
use Rattle.wgsl_rules.specs.Types.{Ty}
use Rattle.wgsl_rules.specs.Values.{Val, Vals, no_vals, val, item, record_of, array_of, vector, matrix, type_of}
use Rattle.wgsl_values.specs.Parts.{as_record, as_vector, component_at, components}
use Rattle.wgsl_values.specs.View.{value_of, array_view, mat_view, struct_view, vec_view, vals_view}
use Rattle.wgsl_values.specs.Written.{as_array, as_matrix, replaced, with_part, with_inner_part, with_placed, with_member}
use Rattle.wgsl_values.specs.declared.instance.Instance.{Instance, Vec}
use Rattle.wgsl_values.specs.declared.instance.Instance.TheViews.{roll-ArrayInstance, roll-MatInstance, roll-StructInstance, roll-VecInstance}
use Rattle.wgsl_values.specs.declared.array.ArrayInstance.{ArrayInstance}
use Rattle.wgsl_values.specs.declared.matrix.MatInstance.{MatInstance}
use Rattle.wgsl_values.specs.declared.structure.StructInstance.{StructInstance}
use Rattle.wgsl_values.specs.declared.vector.VecInstance.{VecInstance}
use Rattle.wgsl_values.proofs.lemmas.Views.{array_view-is, mat_view-is, struct_view-is, vec_view-is, value_of-Vec, vals_view-set}
use Rattle.wgsl_values.proofs.lemmas.Steps.{part_at-array, part_at-vector, part_at-matrix, with_part-own, with_inner_part-is}

-- what holds anyway holds where something was lent
pub on_some : {T : Type 0} {P : Type 0} → (o : Option T) → P → OnSome o P
on_some None p = tt
on_some (Some x) p = p

pub array_view-with : (a : ArrayInstance) (i : ℕ) (w : Instance)
    → array_view (roll-ArrayInstance (record { components = with_item a.components i w; runtime_sized = a.runtime_sized })) ≡ with_part i (value_of w) (array_view a)
array_view-with a i w =
    rw (array_view-is a, array_view-is (roll-ArrayInstance (record { components = with_item a.components i w; runtime_sized = a.runtime_sized })), vals_view-set) refl

pub vec_view-with : (v : VecInstance) (i : ℕ) (w : Instance)
    → vec_view (roll-VecInstance (record { components = with_item v.components i w })) ≡ with_part i (value_of w) (vec_view v)
vec_view-with v i w =
    rw (vec_view-is v, vec_view-is (roll-VecInstance (record { components = with_item v.components i w })), vals_view-set) refl

pub mat_view-with : (m : MatInstance) (i : ℕ) (w : Instance)
    → mat_view (roll-MatInstance (record { columns = with_item m.columns i w })) ≡ with_part i (value_of w) (mat_view m)
mat_view-with m i w =
    rw (mat_view-is m, mat_view-is (roll-MatInstance (record { columns = with_item m.columns i w })), vals_view-set) refl

-- ---- structures

replace_item-past : (i : ℕ) (w : Val) (vs : Vals) → item i vs ≡ None → replace_item i (λ _. w) vs ≡ vs
replace_item-past i w no_vals e = refl
replace_item-past zero w (val v vs) e = absurd (cc)
replace_item-past (suc i) w (val v vs) e = ap (val v) (replace_item-past i w vs e)

with_member-placed : (t : Ty) (i : ℕ) (w : Val) (vs : Vals) (n : List ℕ) → Some i ≡ index_in n t → record_of t (replace_item i (λ _. w) vs) ≡ with_member n w (record_of t vs)
with_member-placed t i w vs n e = rw (← e) (by (item i vs) refl)
  where
    by : (o : Option Val) → item i vs ≡ o → record_of t (replace_item i (λ _. w) vs) ≡ with_placed (option_map (λ x. (i, x)) o) w (record_of t vs)
    by None is = ap (record_of t) (replace_item-past i w vs is)
    by (Some x) is = refl

pub struct_view-with : (s : StructInstance) (i : ℕ) (w : Instance) (n : List ℕ) → Some i ≡ index_in n s.ty
    → struct_view (roll-StructInstance (record { ty = s.ty; members = with_item s.members i w })) ≡ with_member n (value_of w) (struct_view s)
struct_view-with s i w n e =
    rw (struct_view-is s, struct_view-is (roll-StructInstance (record { ty = s.ty; members = with_item s.members i w })), vals_view-set)
    (with_member-placed s.ty i (value_of w) (vals_view s.members.items) n e)

placed-value : (i : ℕ) (vs : Vals) → item i vs ≡ option_map (λ p. p.1) (placed i vs)
placed-value i vs = by (item i vs)
  where
    by : (o : Option Val) → o ≡ option_map {T = ℕ × Val} (λ p. p.1) (option_map (λ x. (i, x)) o)
    by None = refl
    by (Some x) = refl

-- the member of a name is the part at the position of the name
pub named-value : (s : StructInstance) (i : ℕ) (n : List ℕ) → Some i ≡ index_in n s.ty
    → item i (vals_view s.members.items) ≡ option_map (λ p. p.1) (member_named n (struct_view s))
named-value s i n e = rw (struct_view-is s, ← e) (placed-value i (vals_view s.members.items))

-- ---- a value that is written through one of its cases

pub as_record-is : (v x : Val) → Some x ≡ as_record v → v ≡ x
as_record-is (record_of t vs) x e = cc
as_record-is v x e = absurd (cc)

pub as_array-is : (v x : Val) → Some x ≡ as_array v → v ≡ x
as_array-is (array_of runtime vs) x e = cc
as_array-is v x e = absurd (cc)

pub as_vector-is : (v x : Val) → Some x ≡ as_vector v → v ≡ x
as_vector-is (vector vs) x e = cc
as_vector-is v x e = absurd (cc)

pub as_matrix-is : (v x : Val) → Some x ≡ as_matrix v → v ≡ x
as_matrix-is (matrix vs) x e = cc
as_matrix-is v x e = absurd (cc)

-- the part of an index is the item, of each case that has indexed parts
pub array_part_at : (i : ℕ) (v w x : Val) → Some w ≡ as_array v → Some x ≡ item i (parts w) → part_at i w ≡ Ok (i, x)
array_part_at i v (array_of runtime vs) x e is = part_at-array i runtime vs x is
array_part_at i (array_of runtime vs) w x e is = absurd (cc)
array_part_at i v w x e is = absurd (cc)

pub vector_part_at : (i : ℕ) (v w x : Val) → Some w ≡ as_vector v → Some x ≡ item i (parts w) → part_at i w ≡ Ok (i, x)
vector_part_at i v (vector vs) x e is = part_at-vector i vs x is
vector_part_at i (vector vs) w x e is = absurd (cc)
vector_part_at i v w x e is = absurd (cc)

pub matrix_part_at : (i : ℕ) (v w x : Val) → Some w ≡ as_matrix v → Some x ≡ item i (parts w) → part_at i w ≡ Ok (i, x)
matrix_part_at i v (matrix vs) x e is = part_at-matrix i vs x is
matrix_part_at i (matrix vs) w x e is = absurd (cc)
matrix_part_at i v w x e is = absurd (cc)

-- ---- components of matrices

pub column-kept : (m : MatInstance) (i : ℕ) (column : Instance) → Some (value_of column) ≡ item i (vals_view m.columns.items)
    → mat_view (roll-MatInstance (record { columns = with_item m.columns i column })) ≡ mat_view m
column-kept m i column e =
    mat_view-with m i column ∙ with_part-own i (mat_view m) (value_of column) (rw (mat_view-is m) (sym e))

pub component-written : (m : MatInstance) (i j : ℕ) (column : Instance) (v : VecInstance) (w : Instance) → Some (value_of column) ≡ item i (vals_view m.columns.items)
    → Some (vec_view v) ≡ as_vector (value_of column)
    → mat_view (roll-MatInstance (record { columns = with_item m.columns i (Vec (roll-VecInstance (record { components = with_item v.components j w }))) })) ≡ with_inner_part i j (value_of w) (mat_view m)
component-written m i j column v w at is =
    let new = roll-VecInstance (record { components = with_item v.components j w }) in
    let same = as_vector-is (value_of column) (vec_view v) is in
    mat_view-with m i (Vec new)
    ∙ ap (λ (x : Val). with_part i x (mat_view m)) (value_of-Vec new ∙ vec_view-with v j w)
    ∙ with_inner_part-is i j (value_of w) (mat_view m) (vec_view v) (rw (mat_view-is m, ← at, same) refl)

pub components-kept : (m : MatInstance) (i : ℕ) (column : Instance) (v : VecInstance) → Some (value_of column) ≡ item i (vals_view m.columns.items)
    → Some (vec_view v) ≡ as_vector (value_of column)
    → mat_view (roll-MatInstance (record { columns = with_item m.columns i (Vec (roll-VecInstance (record { components = v.components }))) })) ≡ mat_view m
components-kept m i column v at is =
    let old = roll-VecInstance (record { components = v.components }) in
    let same = as_vector-is (value_of column) (vec_view v) is in
    column-kept m i (Vec old) (rw (value_of-Vec old, vec_view-is old, ← vec_view-is v, ← same) at)

pub component_at-is : (m : MatInstance) (i j : ℕ) (column : Instance) (v : VecInstance) → Some (value_of column) ≡ item i (vals_view m.columns.items)
    → Some (vec_view v) ≡ as_vector (value_of column) → item j (vals_view v.components.items) ≡ component_at i j (parts (mat_view m))
component_at-is m i j column v at is =
    let same = as_vector-is (value_of column) (vec_view v) is in
    rw (mat_view-is m, ← at, same, vec_view-is v) refl

no_components : (x : Val) (j : ℕ) → None ≡ as_vector x → None ≡ item j (components x)
no_components (vector vs) j e = absurd (cc)
no_components x j e = refl

pub component_at-none : (m : MatInstance) (i j : ℕ) (column : Instance) → Some (value_of column) ≡ item i (vals_view m.columns.items)
    → None ≡ as_vector (value_of column) → None ≡ component_at i j (parts (mat_view m))
component_at-none m i j column at is = rw (mat_view-is m, ← at) (no_components (value_of column) j is)

-- ---- a value that replaces another

pub replaced-is : (w v : Val) (b : Bool) → IsTrue b ↔ (type_of v ≡ type_of w) → IsTrue b → replaced w v ≡ Ok v
replaced-is w v b h is = rw ((same_is (type_of w) (type_of v)).1 (sym (h.0 is))) refl

unlike : (b : Bool) → (IsTrue b → ⊥) → b ≡ false
unlike true h = absurd (h refl)
unlike false h = refl

pub replaced-refused : (w v : Val) (b : Bool) → IsTrue b ↔ (type_of v ≡ type_of w) → b ≡ false → replaced w v ≡ Err (write_ref_type (type_of w) (type_of v))
replaced-refused w v b h is =
    let other = unlike (same (type_of w) (type_of v)) (λ e. let k = h.1 (sym ((same_is (type_of w) (type_of v)).0 e)) in cc) in
    rw other refl
