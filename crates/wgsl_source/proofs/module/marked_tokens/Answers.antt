use Rattle.std.proofs.Common.{All, List, length, subst, sym}
use Rattle.wgsl_source.specs.Blanks.{IsCut}
use Rattle.wgsl_source.specs.Faults.{IsTold}
use Rattle.wgsl_source.specs.declared.fault.Fault.{Fault}
use Rattle.wgsl_source.specs.declared.module.Extent.{Extent}
use Rattle.wgsl_source.proofs.module.marked_tokens.Goals as goal

pub returns : goal.returns
returns c =
    let found = c.in_ok-tokens.field-0.faults.items in
    let P : List Extent → Type 0 = λ ts. IsCut c.args.text.now ts found (length c.args.text.now) in
    let Q : List Fault → Type 0 = All (IsTold c.tell.new.faults.faults.items) in
    (found, subst P (sym c.mark_templates.ensures.extents) c.in_ok-tokens.ensures, subst Q c.as_slice.ensures.value c.in_ok-tell.ensures)
