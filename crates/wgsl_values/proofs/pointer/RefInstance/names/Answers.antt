use Rattle.std.proofs.Common.{sym, ◌∙◌}
use Rattle.wgsl_values.proofs.Typed.{ref-same, all_true, first_false, second_false}
use Rattle.wgsl_values.proofs.pointer.RefInstance.names.Goals as goal
use Rattle.wgsl_values.proofs.pointer.RefInstance.names.Goals.{then-eq, else-eq}

pub returns-then-eq-2 : goal.returns-then-eq-2
returns-then-eq-2 c =
    elim c.if-eq.branch [
      | then-eq w ↦ ref-same _ _ _ _ _ _ _ (all_true _ _ _ _ (sym c.eq.ensures ∙ w.if-eq.true) (sym w.eq-then-eq.ensures ∙ sym w.value-is ∙ c.if-eq-2.true) c.eq-then-eq-2.ensures)
      | else-eq w ↦ absurd (cc)
    ]

pub returns-else-eq-2 : goal.returns-else-eq-2
returns-else-eq-2 c =
    elim c.if-eq.branch [
      | then-eq w ↦ ref-same _ _ _ _ _ _ _ (second_false _ _ _ _ (sym w.eq-then-eq.ensures ∙ sym w.value-is ∙ c.if-eq-2.false) c.if-eq-2.false)
      | else-eq w ↦ ref-same _ _ _ _ _ _ _ (first_false _ _ _ (sym c.eq.ensures ∙ w.if-eq.false) c.if-eq-2.false)
    ]
