-- The texts of composites, and of the first items of a list.
use Rattle.std.proofs.Common.{◌≡◌, ℕ, ◌+◌, ◌<◌, ◌==◌, List, [], ◌∷◌, ◌++◌, take, map, length, get_or, refl, ap, string_bytes, codes}
use Rattle.std.specs.List.{flat_map, join_by}
use Rattle.std.specs.Prelude.{decimal}
use Rattle.wgsl_rules.specs.View.{struct_view as struct_type_view}
use Rattle.wgsl_rules.specs.declared.ty.StructType.{StructType, out-StructType}
use Rattle.wgsl_rules.proofs.lemmas.Views.{struct_view-is as struct_type_view-is}
use Rattle.wgsl_values.specs.declared.instance.Instance.{Instance}
use Rattle.wgsl_values.specs.declared.array.ArrayInstance.{ArrayInstance}
use Rattle.wgsl_values.specs.declared.matrix.MatInstance.{MatInstance}
use Rattle.wgsl_values.specs.declared.structure.StructInstance.{StructInstance}
use Rattle.wgsl_values.specs.declared.vector.VecInstance.{VecInstance}
use Rattle.wgsl_rules.specs.Paths.{parts}
use Rattle.wgsl_values.specs.Matrices.{row_count}
use Rattle.wgsl_values.specs.Texts.{text_of_value, text_of_items, text_of_more_items, text_before_item}
use Rattle.wgsl_values.specs.View.{value_of, array_view, mat_view, struct_view, vec_view, vals_view}
use Rattle.wgsl_values.proofs.Joined.{joined_more}
use Rattle.wgsl_values.proofs.lemmas.Views.{array_view-is, mat_view-is, struct_view-is, vec_view-is, count-vals_view}

pub text_of_struct : (s : StructInstance) (t : StructType) → struct_type_view t ≡ s.ty → text_of_value (struct_view s) ≡ string_bytes (out-StructType t).name ++ (codes "(" ++ (text_of_items (vals_view s.members.items) ++ codes ")"))
text_of_struct s t e = rw (struct_view-is s, ← e, struct_type_view-is t) refl

pub text_of_array : (a : ArrayInstance) → text_of_value (array_view a) ≡ codes "array(" ++ (text_of_items (vals_view a.components.items) ++ codes ")")
text_of_array a = rw (array_view-is a) refl

pub text_of_vec : (v : VecInstance) → text_of_value (vec_view v) ≡ codes "vec" ++ (decimal (length v.components.items) ++ (codes "(" ++ (text_of_items (vals_view v.components.items) ++ codes ")")))
text_of_vec v = rw (vec_view-is v, count-vals_view v.components.items) refl

pub text_of_mat : (m : MatInstance) → text_of_value (mat_view m) ≡ codes "mat" ++ (decimal (length m.columns.items) ++ (codes "x" ++ (decimal (row_count (parts (mat_view m))) ++ (codes "(" ++ (text_of_items (vals_view m.columns.items) ++ codes ")")))))
text_of_mat m = rw (mat_view-is m, count-vals_view m.columns.items) refl

text_of_more_items-is : (vs : List Instance) → text_of_more_items (vals_view vs) ≡ flat_map (λ v. codes ", " ++ text_of_value v) (map value_of vs)
text_of_more_items-is [] = refl
text_of_more_items-is (v ∷ vs) = rw (text_of_more_items-is vs) refl

text_of_items-is : (vs : List Instance) → text_of_items (vals_view vs) ≡ join_by text_of_value (codes ", ") (map value_of vs)
text_of_items-is [] = refl
text_of_items-is (v ∷ vs) = ap (λ (t : List ℕ). text_of_value (value_of v) ++ t) (text_of_more_items-is vs)

-- the text of one item more, which stands behind a comma unless it is the first
pub items_more : (vs : List Instance) (i : ℕ) (d : Instance) → i < length vs
    → text_of_items (vals_view (take (i + 1) vs)) ≡ text_of_items (vals_view (take i vs)) ++ (text_before_item (i == 0) ++ text_of_value (value_of (get_or vs i d)))
items_more vs i d h = rw (text_of_items-is (take (i + 1) vs), text_of_items-is (take i vs)) (joined_more text_of_value value_of vs i d h)
