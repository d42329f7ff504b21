use Rattle.std.proofs.Common.{◌≡◌, ◌∙◌, ap, sym}
use Rattle.wgsl_rules.specs.Layout.{runtime_count, last_elements}
use Rattle.wgsl_rules.specs.Paths.{parts}
use Rattle.wgsl_values.specs.View.{value_of, struct_view}
use Rattle.wgsl_values.specs.declared.instance.Instance.{Instance}
use Rattle.wgsl_values.specs.declared.structure.StructInstance.{StructInstance}
use Rattle.wgsl_values.specs.declared.instance.Instance.TheVariants as inst
use Rattle.wgsl_values.proofs.lemmas.Views.{value_of-Struct, struct_view-is}
use Rattle.wgsl_layout.proofs.Totals.{last-elements, no-last}
use Rattle.wgsl_layout.proofs.writer.runtime_count.Goals as goal

-- of a structure, by its members
counted : (x : Instance) (s : StructInstance) → x ≡ inst.Struct s → runtime_count (value_of x) ≡ last_elements 0 (parts (struct_view s))
counted x s e = ap (λ (y : Instance). runtime_count (value_of y)) e ∙ ap runtime_count (value_of-Struct s) ∙ rw struct_view-is

pub returns-in-Some : goal.returns-in-Some
returns-in-Some c =
    c.elements.ensures ∙ sym (last-elements 0 c.members.result.now c.in-Some.last.now c.in-Some.ensures.value) ∙ ap (last_elements 0) c.members.ensures
    ∙ sym (counted c.args.value.now c.in-Struct.s c.in-Struct.is)

pub returns-in-None : goal.returns-in-None
returns-in-None c =
    sym (no-last c.members.result.now c.in-None.ensures.value) ∙ ap (last_elements 0) c.members.ensures
    ∙ sym (counted c.args.value.now c.in-Struct.s c.in-Struct.is)
