-- Operands of one type: nothing is converted.
use Rattle.std.proofs.Common.{◌≡◌, ◌∙◌, Bool, IsTrue, List, Some, refl, sym, ap, ap₂}
use Rattle.wgsl_rules.proofs.lemmas.Converted.{converted-own}
use Rattle.wgsl_rules.specs.Conversion.{common_type}
use Rattle.wgsl_rules.specs.Converted.{converted, inner_converted}
use Rattle.wgsl_rules.specs.Equal.{same-Decides}
use Rattle.wgsl_rules.specs.InCommon.{in_common}
use Rattle.wgsl_rules.specs.TypeParts.{inner_type}
use Rattle.wgsl_rules.specs.Types.{Ty, vec}
use Rattle.wgsl_rules.specs.Paths.{parts}
use Rattle.wgsl_rules.specs.Values.{Val, vector, Vals, no_vals, val, count, item, type_of, first_type, IsWellFormed}
use Rattle.wgsl_rules.specs.declared.syntax.ShaderStage.{ShaderStage}
use Rattle.wgsl_rules.specs.declared.syntax.BinaryOperator.{BinaryOperator}
use Rattle.wgsl_scalar.specs.Literals.{literal_of}
use Rattle.wgsl_scalar.specs.declared.literal.LiteralInstance.{LiteralInstance}
use Rattle.wgsl_scalar.specs.declared.literal.LiteralInstance.TheVariants as literals
use Rattle.wgsl_values.proofs.lemmas.Views.{vec_view-is}
use Rattle.wgsl_values.specs.View.{vals_view, vec_view}
use Rattle.wgsl_values.specs.declared.instance.Instance.{Instance}
use Rattle.wgsl_values.specs.declared.vector.VecInstance.{VecInstance}
use Rattle.wgsl_value_ops.proofs.Lifting.{of-components-is}
use Rattle.wgsl_value_ops.specs.Vectors.{of_converted, of_components, of_vector_scalar, of_scalar_vector, of_each_and_scalar, of_scalar_and_each}

-- ---- the type of the components

pub first-typed : (vs : Vals) (x : Val) → Some x ≡ item 0 vs → type_of x ≡ first_type vs
first-typed no_vals x h = cc
first-typed (val v vs) x h = let e : x ≡ v = cc in ap type_of e

component-type : (v : VecInstance) (vs : List Instance) (x : Val) → vals_view vs ≡ parts (vec_view v) → Some x ≡ item 0 (vals_view vs) → type_of x ≡ inner_type (type_of (vec_view v))
component-type v vs x e h =
    let k = vec_view-is v in
    rw k (first-typed (vals_view v.components.items) x (h ∙ ap (item 0) (rw k at e)))

-- the components of a vector are of the type of a literal
pub of_one_type : (v : VecInstance) (vs : List Instance) (x y : Val) (b : Bool) → vals_view vs ≡ parts (vec_view v) → Some x ≡ item 0 (vals_view vs) → (IsTrue b → type_of x ≡ type_of y)
    → IsTrue b → inner_type (type_of (vec_view v)) ≡ type_of y
of_one_type v vs x y b e h one t = sym (component-type v vs x e h) ∙ one t

vector-type : (v : VecInstance) → type_of (vec_view v) ≡ vec (count (parts (vec_view v))) (inner_type (type_of (vec_view v)))
vector-type v = rw (vec_view-is v) refl

-- two vectors are of one type where they have as many components, of one type
pub one_type : (v w : VecInstance) (ws : List Instance) (y : Val) (b : Bool) → count (parts (vec_view v)) ≡ count (parts (vec_view w)) → vals_view ws ≡ parts (vec_view w) → Some y ≡ item 0 (vals_view ws)
    → (IsTrue b → inner_type (type_of (vec_view v)) ≡ type_of y) → IsTrue b → type_of (vec_view v) ≡ type_of (vec_view w)
one_type v w ws y b n e h one t = vector-type v ∙ ap₂ vec n (one t ∙ component-type w ws y e h) ∙ sym (vector-type w)

-- ---- conversions that change nothing

pub own-common : (t : Ty) → common_type t t ≡ Some t
own-common t = rw ((same-Decides t t).1 refl) refl

in-own : (v w : Val) → IsWellFormed v → IsWellFormed w → type_of v ≡ type_of w → in_common converted v w ≡ Some (v, w)
in-own v w k l e =
    let first : converted v (type_of w) ≡ Some v = rw (← e) (converted-own v k) in
    rw (e, own-common (type_of w), first, converted-own w l) refl

-- two vectors of one type have the components joined
pub of_converted-own : (op : BinaryOperator) (stage : ShaderStage) (v w : VecInstance) → IsWellFormed (vec_view v) → IsWellFormed (vec_view w) → type_of (vec_view v) ≡ type_of (vec_view w)
    → of_converted op stage (vec_view v) (vec_view w) ≡ of_components op stage (vec_view v) (vec_view w)
of_converted-own op stage v w k l e = rw (in-own (vec_view v) (vec_view w) k l e, of-components-is op stage v w e) refl

literal-own : (l : LiteralInstance) → inner_converted (literal_of l) (inner_type (type_of (literal_of l))) ≡ Some (literal_of l)
literal-own (literals.Bool b) = refl
literal-own (literals.AbstractInt z) = refl
literal-own (literals.I32 z) = refl
literal-own (literals.U32 z) = refl
literal-own (literals.I64 z) = refl
literal-own (literals.U64 z) = refl

literal-inner : (l : LiteralInstance) → inner_type (type_of (literal_of l)) ≡ type_of (literal_of l)
literal-inner (literals.Bool b) = refl
literal-inner (literals.AbstractInt z) = refl
literal-inner (literals.I32 z) = refl
literal-inner (literals.U32 z) = refl
literal-inner (literals.I64 z) = refl
literal-inner (literals.U64 z) = refl

vector-own : (v : VecInstance) → IsWellFormed (vec_view v) → inner_converted (vec_view v) (inner_type (type_of (vec_view v))) ≡ Some (vec_view v)
vector-own v k =
    let e = vec_view-is v in
    rw e (converted-own (vector (vals_view v.components.items)) (rw e at k))

-- the components and the scalar are of one type
pub of_vector_scalar-own : (op : BinaryOperator) (stage : ShaderStage) (v : VecInstance) (s : LiteralInstance) → IsWellFormed (vec_view v) → inner_type (type_of (vec_view v)) ≡ type_of (literal_of s)
    → of_vector_scalar op stage (vec_view v) (literal_of s) ≡ of_each_and_scalar op stage (vec_view v) (literal_of s)
of_vector_scalar-own op stage v s k e =
    let t = type_of (literal_of s) in
    let first : inner_converted (vec_view v) t ≡ Some (vec_view v) = rw (← e) (vector-own v k) in
    let second : inner_converted (literal_of s) t ≡ Some (literal_of s) = rw (literal-inner s) at (literal-own s) in
    rw (e, literal-inner s, own-common t, first, second) refl

pub of_scalar_vector-own : (op : BinaryOperator) (stage : ShaderStage) (v : VecInstance) (s : LiteralInstance) → IsWellFormed (vec_view v) → inner_type (type_of (vec_view v)) ≡ type_of (literal_of s)
    → of_scalar_vector op stage (literal_of s) (vec_view v) ≡ of_scalar_and_each op stage (literal_of s) (vec_view v)
of_scalar_vector-own op stage v s k e =
    let t = type_of (literal_of s) in
    let first : inner_converted (vec_view v) t ≡ Some (vec_view v) = rw (← e) (vector-own v k) in
    let second : inner_converted (literal_of s) t ≡ Some (literal_of s) = rw (literal-inner s) at (literal-own s) in
    rw (e, literal-inner s, own-common t, first, second) refl
