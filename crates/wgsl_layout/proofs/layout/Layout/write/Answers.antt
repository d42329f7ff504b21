use Rattle.std.proofs.Common.{◌∙◌, Ok, ap, refl, sym}
use Rattle.std.proofs.lemmas.Bool.{false≢true}
use Rattle.wgsl_values.specs.View.{steps_of, value_of}
use Rattle.wgsl_layout.specs.Located.{part_range, shape_plan, shape_ty}
use Rattle.wgsl_layout.proofs.LayoutParts.{other-length, other-type, put-there, written-there}
use Rattle.wgsl_layout.proofs.layout.Layout.write.Goals as goal

pub returns-then-not-is_type_of-clause-outcome : goal.returns-then-not-is_type_of-clause-outcome
returns-then-not-is_type_of-clause-outcome c =
    let b = c.args.bytes.now in
    let w = value_of c.args.value.now in
    let l = c.in_ok-part.part in
    sym (other-type b w l.start l.count (shape_ty l.shape) (λ e. false≢true (c.if-not-is_type_of.ensures.1 e)))
    ∙ written-there b (steps_of c.args.view.now) c.args.self.now w (part_range l) c.in_ok-part.ensures.range

pub returns-then-not-is_count_of-clause-outcome : goal.returns-then-not-is_count_of-clause-outcome
returns-then-not-is_count_of-clause-outcome c =
    let b = c.args.bytes.now in
    let w = value_of c.args.value.now in
    let l = c.in_ok-part.part in
    let typed = c.if-not-is_type_of.ensures.0 refl in
    sym (other-length b w l.start l.count (shape_ty l.shape) (shape_plan l.shape) l.len c.in_ok-part.ensures.there.0 c.requires typed (λ e. false≢true (c.if-not-is_count_of.ensures.1 e)))
    ∙ written-there b (steps_of c.args.view.now) c.args.self.now w (part_range l) c.in_ok-part.ensures.range

pub returns-clause-outcome : goal.returns-clause-outcome
returns-clause-outcome c =
    let b = c.args.bytes.now in
    let w = value_of c.args.value.now in
    let l = c.in_ok-part.part in
    let typed = c.if-not-is_type_of.ensures.0 refl in
    let alike = c.if-not-is_count_of.ensures.0 refl in
    ap Ok c.overwrite.ensures ∙ sym (put-there b w l.start l.count (shape_ty l.shape) typed alike)
    ∙ written-there b (steps_of c.args.view.now) c.args.self.now w (part_range l) c.in_ok-part.ensures.range
