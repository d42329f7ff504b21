use Rattle.std.proofs.Common.{refl, ◌≡◌, ℕ, get_or, length, arith, sym, ap, subst, ◌∙◌}
use Rattle.std.proofs.lemmas.Bool.{false≢true, not-false}
use Rattle.wgsl_rules.specs.Values.{IsStorable, IsLiteral, IsVector, type_of}
use Rattle.wgsl_values.specs.View.{value_of}
use Rattle.wgsl_values.specs.declared.instance.Instance.{Instance}
use Rattle.wgsl_values.proofs.Made.{decides-next, of_members-counts, of_members-here, of_members-rest, of_members-more, vector-made, matrix-made, storable-here, above_zero}
use Rattle.wgsl_values.proofs.lemmas.Views.{value_of-Literal, count-vals_view}
use Rattle.wgsl_values.proofs.+storable.Goals as goal
use Rattle.wgsl_values.proofs.+storable.Goals.{lists::have_one_type-then-i-gt0, lists::have_one_type-else-i-gt0, lists::have_types-then-not-is_storable-via-then-not-is_storable, lists::have_types-then-not-is_storable-via-else-not-is_storable+then-not-has_ty}

pub instance::Instance::is_storable-returns-in-Literal : goal.instance::Instance::is_storable-returns-in-Literal
instance::Instance::is_storable-returns-in-Literal t c =
    rw (c.in-Literal.is, value_of-Literal) ((λ h. c.literal_ty-ty.ensures.in_kind), (λ h. refl))

pub lists::have_types-returns-then-values-members : goal.lists::have_types-returns-then-values-members
lists::have_types-returns-then-values-members t c =
    ((λ h. absurd (false≢true h)), (λ h. absurd (c.if-values-members.true (of_members-counts _ _ h.0))))

pub lists::have_types-returns-then-not-is_storable : goal.lists::have_types-returns-then-not-is_storable
lists::have_types-returns-then-not-is_storable t c = (
  (λ h. absurd (false≢true h)),
  (λ h. let vs = c.args.values.now in
      let ms = c.args.members.now in
      let v = c.index-values-i.result in
      let left = c.loop-i.invariant.1.1 h in
      elim c.then-not-is_storable.branch [
        | lists::have_types-then-not-is_storable-via-then-not-is_storable w ↦
            w.if-not-is_storable.ensures.1 (subst (λ (x : Instance). IsStorable (value_of x)) (sym c.index-values-i.is) (storable-here vs c.loop-i.i v c.loop-i-test.true left.1))
        | lists::have_types-then-not-is_storable-via-else-not-is_storable+then-not-has_ty w ↦
            w.if-not-has_ty.ensures.1 (ap (λ x. type_of (value_of x)) c.index-values-i.is ∙ of_members-here ms vs c.loop-i.i w.index-members-i.result v c.loop-i-test.true c.loop-i.invariant.0 left)
      ]),
)

pub lists::have_types-loop-i-preserved : goal.lists::have_types-loop-i-preserved
lists::have_types-loop-i-preserved t c =
    let vs = c.args.values.now in
    let ms = c.args.members.now in
    let v = c.index-values-i.result in
    let m = c.index-members-i.result in
    let typed = sym (ap (λ x. type_of (value_of x)) c.index-values-i.is) ∙ c.if-not-has_ty.ensures.0 refl in
    let storable = subst (λ (x : Instance). IsStorable (value_of x)) c.index-values-i.is (c.if-not-is_storable.ensures.0 refl) in (
      c.loop-i.invariant.0,
      (
        (λ h. c.loop-i.invariant.1.0 (of_members-more ms vs c.loop-i.i m v c.loop-i-test.true c.loop-i.invariant.0 (typed, storable) h)),
        (λ h. of_members-rest ms vs c.loop-i.i c.loop-i-test.true c.loop-i.invariant.0 (c.loop-i.invariant.1.1 h)),
      ),
    )

pub array::ArrayInstance::can_make-returns-then-not-is_empty : goal.array::ArrayInstance::can_make-returns-then-not-is_empty
array::ArrayInstance::can_make-returns-then-not-is_empty t c =
    let some = above_zero (length c.args.components.now) (sym c.is_empty.ensures ∙ c.if-not-is_empty.true) in (
      (λ h. let all = c.have_one_type.ensures.0 h in (omega (arith, some, count-vals_view c.args.components.now), all.0, all.1)),
      (λ h. c.have_one_type.ensures.1 (h.1, h.2)),
    )

pub vector::VecInstance::can_make-returns-then-not-is_component_count : goal.vector::VecInstance::can_make-returns-then-not-is_component_count
vector::VecInstance::can_make-returns-then-not-is_component_count t c =
    let counted = count-vals_view c.args.components.now in
    ((λ h. absurd (false≢true h)), (λ h. c.if-not-is_component_count.ensures.1 (omega (arith, h.0), omega (arith, h.1))))

pub vector::VecInstance::can_make-returns-then-is_literal : goal.vector::VecInstance::can_make-returns-then-is_literal
vector::VecInstance::can_make-returns-then-is_literal t c =
    let first = subst (λ (x : Instance). IsLiteral (value_of x)) c.index-components-0.is (c.if-is_literal.ensures.0 refl) in
    vector-made c.args.components.now c.index-components-0.result c.have_one_type.result (c.if-not-is_component_count.ensures.0 refl) first c.have_one_type.ensures

pub matrix::MatInstance::can_make-returns-then-not-is_component_count : goal.matrix::MatInstance::can_make-returns-then-not-is_component_count
matrix::MatInstance::can_make-returns-then-not-is_component_count t c =
    let counted = count-vals_view c.args.columns.now in
    ((λ h. absurd (false≢true h)), (λ h. c.if-not-is_component_count.ensures.1 (omega (arith, h.0), omega (arith, h.1))))

pub matrix::MatInstance::can_make-returns-then-is_vector : goal.matrix::MatInstance::can_make-returns-then-is_vector
matrix::MatInstance::can_make-returns-then-is_vector t c =
    let first = subst (λ (x : Instance). IsVector (value_of x)) c.index-columns-0.is (c.if-is_vector.ensures.0 refl) in
    matrix-made c.args.columns.now c.index-columns-0.result c.have_one_type.result (c.if-not-is_component_count.ensures.0 refl) first c.have_one_type.ensures

pub lists::have_one_type-loop-i-preserved : goal.lists::have_one_type-loop-i-preserved
lists::have_one_type-loop-i-preserved t c =
    let vs = c.args.values.now in
    let v = c.index-values-i.result in
    let storable = c.if-not-is_storable.ensures.0 refl in
    elim c.if-i-gt0.branch [
      | lists::have_one_type-then-i-gt0 w ↦
          (let typed = w.same_type.ensures.0 (not-false w.same_type.result (sym w.value-is ∙ c.if-not-same_type.false)) in
          decides-next vs c.loop-i.i v w.index-values-0.result c.loop-i-test.true c.index-values-i.is w.index-values-0.is storable typed c.loop-i.invariant)
      | lists::have_one_type-else-i-gt0 w ↦
          (let start : c.loop-i.i ≡ 0 = omega (arith, w.if-i-gt0.false) in
          let first = subst (λ (i : ℕ). v ≡ get_or vs i v) start c.index-values-i.is in
          decides-next vs c.loop-i.i v v c.loop-i-test.true c.index-values-i.is first storable refl c.loop-i.invariant)
    ]
