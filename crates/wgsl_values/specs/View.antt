-- What the values and views of the program stand for in the model.
use Rattle.std.specs.Prelude.{List, [], ◌∷◌, map, string_bytes}
use Rattle.wgsl_rules.specs.Values.{Step, member, index, Reference, Val, record_of, array_of, vector, matrix, atomic_of, pointer, reference, deferred, Vals, no_vals, val}
use Rattle.wgsl_rules.specs.View.{type_view}
use Rattle.wgsl_scalar.specs.Literals.{literal_of}
use Rattle.wgsl_values.specs.declared.instance.Instance.{Instance}
use Rattle.wgsl_values.specs.declared.array.ArrayInstance.{ArrayInstance}
use Rattle.wgsl_values.specs.declared.atomic.AtomicInstance.{AtomicInstance}
use Rattle.wgsl_values.specs.declared.matrix.MatInstance.{MatInstance}
use Rattle.wgsl_values.specs.declared.pointer.PtrInstance.{PtrInstance}
use Rattle.wgsl_values.specs.declared.pointer.RefInstance.{RefInstance}
use Rattle.wgsl_values.specs.declared.structure.StructInstance.{StructInstance}
use Rattle.wgsl_values.specs.declared.vector.VecInstance.{VecInstance}
use Rattle.wgsl_values.specs.declared.instance.Instance.TheOpen.{Instance-F, ArrayInstance-F, AtomicInstance-F, MatInstance-F, StructInstance-F, VecInstance-F}
use Rattle.wgsl_values.specs.declared.instance.Instance.TheFolds.{fold-Instance, fold-ArrayInstance, fold-AtomicInstance, fold-MatInstance, fold-StructInstance, fold-VecInstance}
use Rattle.wgsl_values.specs.declared.view.MemView.{MemView}
use Rattle.wgsl_values.specs.declared.view.MemView.TheOpen.{MemView-F}
use Rattle.wgsl_values.specs.declared.view.MemView.TheFolds.{fold-MemView}

-- the steps of a view, the first taken first

abbrev pub steps_step : MemView-F (List Step) → List Step
steps_step MemView-F.Whole = []
steps_step (MemView-F.Member name rest) = member (string_bytes name) ∷ rest.value
steps_step (MemView-F.Index i rest) = index i ∷ rest.value

abbrev pub steps_of : MemView → List Step
steps_of = fold-MemView (List Step) steps_step

-- references and pointers

abbrev pub reference_of : RefInstance → Reference
reference_of r = record { cell = r.cell; view = steps_of r.view; ty = type_view r.ty; space = r.space; access = r.access }

abbrev pub ref_view : RefInstance → Val
ref_view r = reference (reference_of r)

abbrev pub ptr_view : PtrInstance → Val
ptr_view p = pointer (reference_of p.ptr)

-- values

abbrev pub vals_of : List Val → Vals
vals_of [] = no_vals
vals_of (v ∷ vs) = val v (vals_of vs)

abbrev pub instance_step : Instance-F Val Val Val Val Val Val → Val
instance_step (Instance-F.Literal l) = literal_of l
instance_step (Instance-F.Struct s) = s
instance_step (Instance-F.Array a) = a
instance_step (Instance-F.Vec v) = v
instance_step (Instance-F.Mat m) = m
instance_step (Instance-F.Ptr p) = ptr_view p
instance_step (Instance-F.Ref r) = ref_view r
instance_step (Instance-F.Atomic a) = a
instance_step (Instance-F.Deferred t) = deferred (type_view t)

abbrev pub array_step : ArrayInstance-F Val Val Val Val Val Val → Val
array_step a = array_of a.runtime_sized (vals_of a.components.items)

abbrev pub atomic_step : AtomicInstance-F Val Val Val Val Val Val → Val
atomic_step a = atomic_of a.content.value

abbrev pub mat_step : MatInstance-F Val Val Val Val Val Val → Val
mat_step m = matrix (vals_of m.columns.items)

abbrev pub struct_step : StructInstance-F Val Val Val Val Val Val → Val
struct_step s = record_of s.ty (vals_of s.members.items)

abbrev pub vec_step : VecInstance-F Val Val Val Val Val Val → Val
vec_step v = vector (vals_of v.components.items)

abbrev pub value_of : Instance → Val
value_of = fold-Instance Val Val Val Val Val Val instance_step array_step atomic_step mat_step struct_step vec_step

abbrev pub array_view : ArrayInstance → Val
array_view = fold-ArrayInstance Val Val Val Val Val Val instance_step array_step atomic_step mat_step struct_step vec_step

abbrev pub atomic_view : AtomicInstance → Val
atomic_view = fold-AtomicInstance Val Val Val Val Val Val instance_step array_step atomic_step mat_step struct_step vec_step

abbrev pub mat_view : MatInstance → Val
mat_view = fold-MatInstance Val Val Val Val Val Val instance_step array_step atomic_step mat_step struct_step vec_step

abbrev pub struct_view : StructInstance → Val
struct_view = fold-StructInstance Val Val Val Val Val Val instance_step array_step atomic_step mat_step struct_step vec_step

abbrev pub vec_view : VecInstance → Val
vec_view = fold-VecInstance Val Val Val Val Val Val instance_step array_step atomic_step mat_step struct_step vec_step

abbrev pub vals_view : List Instance → Vals
vals_view vs = vals_of (map value_of vs)
