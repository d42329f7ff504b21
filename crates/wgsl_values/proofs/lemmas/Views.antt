-- What values, lists of values and views of the program stand for, a case each.
use Rattle.std.proofs.Common.{◌≡◌, ℕ, zero, suc, ◌<◌, ◌≤◌, List, [], ◌∷◌, length, get_or, set, Some, None, refl, ap, arith, rules, String, Global, Box, string_bytes}
use Rattle.wgsl_rules.specs.Values.{member, index, record_of, array_of, vector, matrix, atomic_of, deferred, item, count, val}
use Rattle.wgsl_rules.specs.Paths.{replace_item}
use Rattle.wgsl_rules.specs.View.{type_view}
use Rattle.wgsl_rules.specs.declared.ty.Type.{«Type» as RType}
use Rattle.wgsl_scalar.specs.Literals.{literal_of}
use Rattle.wgsl_scalar.specs.declared.literal.LiteralInstance.{LiteralInstance}
use Rattle.wgsl_values.specs.View.{value_of, array_view, atomic_view, mat_view, struct_view, vec_view, ptr_view, ref_view, vals_view, steps_of}
use Rattle.wgsl_values.specs.declared.instance.Instance.{Instance, the_lemmas}
use Rattle.wgsl_values.specs.declared.instance.Instance.TheVariants as inst
use Rattle.wgsl_values.specs.declared.array.ArrayInstance.{ArrayInstance}
use Rattle.wgsl_values.specs.declared.atomic.AtomicInstance.{AtomicInstance}
use Rattle.wgsl_values.specs.declared.matrix.MatInstance.{MatInstance}
use Rattle.wgsl_values.specs.declared.pointer.PtrInstance.{PtrInstance}
use Rattle.wgsl_values.specs.declared.pointer.RefInstance.{RefInstance}
use Rattle.wgsl_values.specs.declared.structure.StructInstance.{StructInstance}
use Rattle.wgsl_values.specs.declared.vector.VecInstance.{VecInstance}
use Rattle.wgsl_values.specs.declared.view.MemView.{MemView, Member, Index, the_lemmas as view_lemmas}

-- ---- values

pub value_of-Literal : (l : LiteralInstance) → value_of (inst.Literal l) ≡ literal_of l
value_of-Literal l = search (rules, the_lemmas)

pub value_of-Struct : (s : StructInstance) → value_of (inst.Struct s) ≡ struct_view s
value_of-Struct s = search (rules, the_lemmas)

pub value_of-Array : (a : ArrayInstance) → value_of (inst.Array a) ≡ array_view a
value_of-Array a = search (rules, the_lemmas)

pub value_of-Vec : (v : VecInstance) → value_of (inst.Vec v) ≡ vec_view v
value_of-Vec v = search (rules, the_lemmas)

pub value_of-Mat : (m : MatInstance) → value_of (inst.Mat m) ≡ mat_view m
value_of-Mat m = search (rules, the_lemmas)

pub value_of-Ptr : (p : PtrInstance) → value_of (inst.Ptr p) ≡ ptr_view p
value_of-Ptr p = search (rules, the_lemmas)

pub value_of-Ref : (r : RefInstance) → value_of (inst.Ref r) ≡ ref_view r
value_of-Ref r = search (rules, the_lemmas)

pub value_of-Atomic : (a : AtomicInstance) → value_of (inst.Atomic a) ≡ atomic_view a
value_of-Atomic a = search (rules, the_lemmas)

pub value_of-Deferred : (t : RType) → value_of (inst.Deferred t) ≡ deferred (type_view t)
value_of-Deferred t = search (rules, the_lemmas)

pub struct_view-is : (s : StructInstance) → struct_view s ≡ record_of s.ty (vals_view s.members.items)
struct_view-is s = search (rules, the_lemmas)

pub array_view-is : (a : ArrayInstance) → array_view a ≡ array_of a.runtime_sized (vals_view a.components.items)
array_view-is a = search (rules, the_lemmas)

pub vec_view-is : (v : VecInstance) → vec_view v ≡ vector (vals_view v.components.items)
vec_view-is v = search (rules, the_lemmas)

pub mat_view-is : (m : MatInstance) → mat_view m ≡ matrix (vals_view m.columns.items)
mat_view-is m = search (rules, the_lemmas)

pub atomic_view-is : (a : AtomicInstance) → atomic_view a ≡ atomic_of (value_of a.content.value)
atomic_view-is a = search (rules, the_lemmas)

pub ruleset views = (value_of-Literal, value_of-Struct, value_of-Array, value_of-Vec, value_of-Mat, value_of-Ptr, value_of-Ref, value_of-Atomic, value_of-Deferred, struct_view-is, array_view-is, vec_view-is, mat_view-is, atomic_view-is)

-- ---- views

pub steps_of-Member : (n : String Global) (rest : Box MemView Global) → steps_of (Member n rest) ≡ member (string_bytes n) ∷ steps_of rest.value
steps_of-Member n rest = search (rules, view_lemmas)

pub steps_of-Index : (i : ℕ) (rest : Box MemView Global) → steps_of (Index i rest) ≡ index i ∷ steps_of rest.value
steps_of-Index i rest = search (rules, view_lemmas)

-- ---- lists of values

pub item_within : (vs : List Instance) (i : ℕ) (d : Instance) → i < length vs → Some (value_of (get_or vs i d)) ≡ item i (vals_view vs)
item_within [] i d h = absurd (omega arith)
item_within (v ∷ vs) zero d h = refl
item_within (v ∷ vs) (suc i) d h = item_within vs i d (omega arith)

pub item_past : (vs : List Instance) (i : ℕ) → length vs ≤ i → None ≡ item i (vals_view vs)
item_past [] i h = refl
item_past (v ∷ vs) zero h = absurd (omega arith)
item_past (v ∷ vs) (suc i) h = item_past vs i (omega arith)

pub count-vals_view : (vs : List Instance) → count (vals_view vs) ≡ length vs
count-vals_view [] = refl
count-vals_view (v ∷ vs) = ap suc (count-vals_view vs)

pub vals_view-set : (vs : List Instance) (i : ℕ) (w : Instance) → vals_view (set vs i w) ≡ replace_item i (λ _. value_of w) (vals_view vs)
vals_view-set [] i w = refl
vals_view-set (v ∷ vs) zero w = refl
vals_view-set (v ∷ vs) (suc i) w = ap (val (value_of v)) (vals_view-set vs i w)
