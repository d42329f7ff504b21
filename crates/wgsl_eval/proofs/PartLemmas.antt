-- What indexes and members give.
use Rattle.std.specs.declared.alloc.AllocError.{AllocError}
use Rattle.std.proofs.Common.{◌≡◌, ◌∙◌, ℕ, List, [], ◌∷◌, Option, Some, None, Result, Ok, Err, IfOk, IfSome, refl, sym, ap, subst, rules, Box, Global, String, string_bytes}
use Rattle.std.specs.Prelude.{Bool, IsSomeAnd}
use Rattle.std.specs.Option.{option_map}
use Rattle.wgsl_rules.specs.Paths.{member_named, parts, viewed}
use Rattle.wgsl_rules.specs.Values.{Step, Val, Vals, array_of, vector, matrix, index, item, member}
use Rattle.wgsl_values.proofs.lemmas.Steps.{viewed-member, viewed-storable}
use Rattle.wgsl_values.proofs.lemmas.Views.{array_view-is, mat_view-is, steps_of-Index, steps_of-Member, value_of-Array, value_of-Mat, value_of-Struct, value_of-Vec, vec_view-is}
use Rattle.wgsl_values.specs.View.{array_view, mat_view, steps_of, struct_view, vals_view, value_of, vec_view}
use Rattle.wgsl_values.specs.declared.array.ArrayInstance.{ArrayInstance}
use Rattle.wgsl_values.specs.declared.instance.Instance.{Instance, Array, Mat, Struct, Vec}
use Rattle.wgsl_values.specs.declared.matrix.MatInstance.{MatInstance}
use Rattle.wgsl_values.specs.declared.structure.StructInstance.{StructInstance}
use Rattle.wgsl_values.specs.declared.vector.VecInstance.{VecInstance}
use Rattle.wgsl_values.specs.declared.view.MemView.{MemView, Whole, Member, Index}
use Rattle.wgsl_values.proofs.Turned.{steps_of_whole}
use Rattle.wgsl_eval.proofs.Answered.{fault-with, faults-with, value-with, with-mapped}
use Rattle.wgsl_eval.specs.Answers.{IsFault, IsSoundValue, IsValueWith, value_in}
use Rattle.wgsl_eval.specs.Parts.{IsElement, IsMember, IsSwizzle, position_in}
use Rattle.wgsl_eval.specs.declared.answer.Answer.{Answer}
use Rattle.wgsl_eval.specs.declared.answer.Value.{Value}

-- ---- views of one step

pub one_index : (i : ℕ) (b : Box MemView Global) → b.value ≡ Whole → steps_of (Index i b) ≡ index i ∷ []
one_index i b h = steps_of-Index i b ∙ ap (λ (v : MemView). index i ∷ steps_of v) h ∙ ap (λ steps. index i ∷ steps) steps_of_whole

pub one_member : (n : String Global) (b : Box MemView Global) → b.value ≡ Whole → steps_of (Member n b) ≡ member (string_bytes n) ∷ []
one_member n b h = steps_of-Member n b ∙ ap (λ (v : MemView). member (string_bytes n) ∷ steps_of v) h ∙ ap (λ steps. member (string_bytes n) ∷ steps) steps_of_whole

-- ---- elements

element-is : (v i w : Val) (at : ℕ) → position_in i ≡ Some at → viewed (index at ∷ []) v ≡ Ok w → IsElement v i w
element-is v i w at h k = rw h k

whole-element : (o : Option Value) (i : Val) (at : ℕ) (a : Answer) → position_in i ≡ Some at
    → IsSomeAnd o (λ v. IsValueWith (λ w. viewed (index at ∷ []) (value_of v.instance) ≡ Ok w) a) → IsSomeAnd o (λ v. IsValueWith (IsElement (value_of v.instance) i) a)
whole-element (Some v) i at a h k =
    with-mapped (λ w. viewed (index at ∷ []) (value_of v.instance) ≡ Ok w) (IsElement (value_of v.instance) i) a (λ w e. element-is (value_of v.instance) i w at h e) k
whole-element None i at a h k = k

pub whole-elements : (o : Option Value) (i : Val) (at : ℕ) (r : Result Answer AllocError) → position_in i ≡ Some at
    → IfOk r (λ a. IsSomeAnd o (λ v. IsValueWith (λ w. viewed (index at ∷ []) (value_of v.instance) ≡ Ok w) a))
    → IfOk r (λ a. IsSomeAnd o (λ v. IsValueWith (IsElement (value_of v.instance) i) a))
whole-elements o i at (Ok a) h k = whole-element o i at a h k
whole-elements o i at (Err e) h k = tt

whole-fault : (o : Option Value) (Q : Val → Val → Type 0) (a : Answer) → IsSomeAnd o IsSoundValue → IsFault a → IsSomeAnd o (λ v. IsValueWith (Q (value_of v.instance)) a)
whole-fault (Some v) Q a h k = fault-with (Q (value_of v.instance)) a k
whole-fault None Q a h k = absurd h

-- a fault in place of an element
pub no-elements : (o : Option Value) (i : Val) (r : Result Answer AllocError) → IsSomeAnd o IsSoundValue → IfOk r IsFault
    → IfOk r (λ a. IsSomeAnd o (λ v. IsValueWith (IsElement (value_of v.instance) i) a))
no-elements o i (Ok a) h k = whole-fault o (λ v. IsElement v i) a h k
no-elements o i (Err e) h k = tt

-- a fault in place of a part
pub no-parts : (o : Option Value) (steps : List Step) (r : Result Answer AllocError) → IsSomeAnd o IsSoundValue → IfOk r IsFault
    → IfOk r (λ a. IsSomeAnd o (λ v. IsValueWith (λ w. viewed steps (value_of v.instance) ≡ Ok w) a))
no-parts o steps (Ok a) h k = whole-fault o (λ v w. viewed steps v ≡ Ok w) a h k
no-parts o steps (Err e) h k = tt

pub ruleset element_steps = (whole-elements, no-elements)

-- ---- members

-- a vector has no member
member-is : (name : List ℕ) (v w : Val) → viewed (member name ∷ []) v ≡ Ok w → IsMember name v w
member-is name (vector vs) w h = cc
member-is name v w h = h

whole-member : (name : List ℕ) (o : Option Value) (a : Answer)
    → IsSomeAnd o (λ v. IsValueWith (λ w. viewed (member name ∷ []) (value_of v.instance) ≡ Ok w) a) → IsSomeAnd o (λ v. IsValueWith (IsMember name (value_of v.instance)) a)
whole-member name (Some v) a k =
    with-mapped (λ w. viewed (member name ∷ []) (value_of v.instance) ≡ Ok w) (IsMember name (value_of v.instance)) a (λ w e. member-is name (value_of v.instance) w e) k
whole-member name None a k = k

pub whole-members : (name : List ℕ) (o : Option Value) (r : Result Answer AllocError)
    → IfOk r (λ a. IsSomeAnd o (λ v. IsValueWith (λ w. viewed (member name ∷ []) (value_of v.instance) ≡ Ok w) a))
    → IfOk r (λ a. IsSomeAnd o (λ v. IsValueWith (IsMember name (value_of v.instance)) a))
whole-members name o (Ok a) k = whole-member name o a k
whole-members name o (Err e) k = tt

pub members-swizzled : (name : List ℕ) (v : Instance) (x : VecInstance) (r : Result Answer AllocError) → v ≡ Vec x
    → IfOk r (IsValueWith (IsSwizzle name (parts (vec_view x)))) → IfOk r (IsValueWith (IsMember name (value_of v)))
members-swizzled name v x r is k =
    let whole : vector (parts (vec_view x)) ≡ value_of v = ap (λ y. vector (parts y)) (vec_view-is x) ∙ sym (vec_view-is x) ∙ sym (value_of-Vec x) ∙ sym (ap value_of is) in
    subst (λ (y : Val). IfOk r (IsValueWith (IsMember name y))) whole k

pub ruleset member_steps = (whole-members, members-swizzled)

-- ---- parts that are lent

-- what is lent of a value is what a step leads to, where that is so of each
lent : {A : Type 0} (o : Option A) (f : A → Val) (steps : List Step) (v : Val) (given : Option Val) → ((x : Val) → given ≡ Some x → viewed steps v ≡ Ok x)
    → option_map f o ≡ given → IfSome o (λ x. viewed steps v ≡ Ok (f x))
lent None f steps v given leads h = tt
lent (Some x) f steps v given leads h = leads (f x) (sym h)

-- an item is what an index leads to
LeadsToItems : ℕ → Val → Type 0
LeadsToItems i v = (x : Val) → item i (parts v) ≡ Some x → viewed (index i ∷ []) v ≡ Ok x

array-leads : (i : ℕ) (runtime : Bool) (vs : Vals) → LeadsToItems i (array_of runtime vs)
unfolding LeadsToItems
array-leads i runtime vs = λ x h. rw h refl

vector-leads : (i : ℕ) (vs : Vals) → LeadsToItems i (vector vs)
unfolding LeadsToItems
vector-leads i vs = λ x h. rw h refl

matrix-leads : (i : ℕ) (vs : Vals) → LeadsToItems i (matrix vs)
unfolding LeadsToItems
matrix-leads i vs = λ x h. rw h refl

lent-item : {A : Type 0} (o : Option A) (f : A → Val) (i : ℕ) (v w : Val) → v ≡ w → LeadsToItems i v
    → option_map f o ≡ item i (parts v) → IfSome o (λ x. viewed (index i ∷ []) w ≡ Ok (f x))
unfolding LeadsToItems
lent-item o f i v w is leads h =
    let P : Val → Type 0 = λ y. IfSome o (λ x. viewed (index i ∷ []) y ≡ Ok (f x)) in
    subst P is (lent o f (index i ∷ []) v (item i (parts v)) leads h)

pub lent-array : {A : Type 0} (o : Option A) (f : A → Val) (i : ℕ) (v : Instance) (a : ArrayInstance) → v ≡ Array a
    → option_map f o ≡ item i (parts (array_view a)) → IfSome o (λ x. viewed (index i ∷ []) (value_of v) ≡ Ok (f x))
lent-array o f i v a is h =
    let P : Val → Type 0 = λ y. LeadsToItems i y in
    lent-item o f i (array_view a) (value_of v) (sym (ap value_of is ∙ value_of-Array a))
    (subst P (sym (array_view-is a)) (array-leads i a.runtime_sized (vals_view a.components.items))) h

pub lent-vector : {A : Type 0} (o : Option A) (f : A → Val) (i : ℕ) (v : Instance) (a : VecInstance) → v ≡ Vec a
    → option_map f o ≡ item i (parts (vec_view a)) → IfSome o (λ x. viewed (index i ∷ []) (value_of v) ≡ Ok (f x))
lent-vector o f i v a is h =
    let P : Val → Type 0 = λ y. LeadsToItems i y in
    lent-item o f i (vec_view a) (value_of v) (sym (ap value_of is ∙ value_of-Vec a))
    (subst P (sym (vec_view-is a)) (vector-leads i (vals_view a.components.items))) h

pub lent-matrix : {A : Type 0} (o : Option A) (f : A → Val) (i : ℕ) (v : Instance) (a : MatInstance) → v ≡ Mat a
    → option_map f o ≡ item i (parts (mat_view a)) → IfSome o (λ x. viewed (index i ∷ []) (value_of v) ≡ Ok (f x))
lent-matrix o f i v a is h =
    let P : Val → Type 0 = λ y. LeadsToItems i y in
    lent-item o f i (mat_view a) (value_of v) (sym (ap value_of is ∙ value_of-Mat a))
    (subst P (sym (mat_view-is a)) (matrix-leads i (vals_view a.columns.items))) h

pub lent-structure : {A : Type 0} (o : Option A) (f : A → Val) (name : List ℕ) (v : Instance) (a : StructInstance) → v ≡ Struct a
    → option_map f o ≡ option_map (λ p. p.1) (member_named name (struct_view a)) → IfSome o (λ x. viewed (member name ∷ []) (value_of v) ≡ Ok (f x))
lent-structure o f name v a is h =
    let P : Val → Type 0 = λ y. IfSome o (λ x. viewed (member name ∷ []) y ≡ Ok (f x)) in
    let given : Option Val = option_map (λ (p : ℕ × Val). p.1) (member_named name (struct_view a)) in
    let leads : (x : Val) → given ≡ Some x → viewed (member name ∷ []) (struct_view a) ≡ Ok x = λ x k. viewed-member name [] (struct_view a) x (sym k) in
    subst P (sym (ap value_of is ∙ value_of-Struct a)) (lent o f (member name ∷ []) (struct_view a) given leads h)

-- ---- answers of parts

pub parts-are : (steps : List Step) (v x : Val) (r : Result Answer AllocError) → viewed steps v ≡ Ok x → IfOk r (λ a. value_in a ≡ Some x)
    → IfOk r (IsValueWith (λ w. viewed steps v ≡ Ok w))
parts-are steps v x (Ok a) h k = value-with (λ w. viewed steps v ≡ Ok w) x a k h
parts-are steps v x (Err e) h k = tt

pub parts-along : (steps : List Step) (v : Val) (view : MemView) (r : Result Answer AllocError) → steps_of view ≡ steps
    → IfOk r (IsValueWith (λ w. viewed (steps_of view) v ≡ Ok w)) → IfOk r (IsValueWith (λ w. viewed steps v ≡ Ok w))
parts-along steps v view r e h =
    let P : List Step → Type 0 = λ ss. IfOk r (IsValueWith (λ w. viewed ss v ≡ Ok w)) in
    subst P e h

-- a refused part
pub parts-refused : (steps : List Step) (v : Val) (r : Result Answer AllocError) → IfOk r IsFault → IfOk r (IsValueWith (λ w. viewed steps v ≡ Ok w))
parts-refused steps v r h = faults-with (λ w. viewed steps v ≡ Ok w) r h

pub ruleset part_steps = (viewed-storable, parts-are, parts-along, parts-refused, one_index, one_member)
