use Rattle.std.proofs.Common.{◌∙◌, Some, ap, arith}
use Rattle.wgsl_rules.specs.View.{type_view}
use Rattle.wgsl_layout.specs.Located.{shape_ty}
use Rattle.wgsl_layout.proofs.AtomicParts.{no-number-at, number-at}
use Rattle.wgsl_layout.proofs.flat.FlatPart.atomic_number.Goals as goal

pub read_literal-requires : goal.read_literal-requires
read_literal-requires c =
    let p = c.args.self in
    let l = p.located in
    let at = number-at l.count (shape_ty l.shape) (type_view c.in_ok-content.content.now) p.bytes.now l.start c.in_ok-content.ensures c.requires.there.laid in
    record { scalar = at.kind; inside = omega (arith, at.length, c.requires.there.inside, c.requires.whole) }

pub returns-in_err-content : goal.returns-in_err-content
returns-in_err-content c =
    let p = c.args.self in
    let l = p.located in
    rw c.from_residual.ensures (no-number-at l.count (shape_ty l.shape) p.bytes.now l.start c.in_err-content.ensures)

pub returns : goal.returns
returns c =
    let p = c.args.self in
    let l = p.located in
    let at = number-at l.count (shape_ty l.shape) (type_view c.in_ok-content.content.now) p.bytes.now l.start c.in_ok-content.ensures c.requires.there.laid in
    ap Some c.read_literal.ensures ∙ at.value
