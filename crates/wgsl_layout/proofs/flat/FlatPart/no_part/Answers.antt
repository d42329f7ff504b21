use Rattle.std.proofs.Common.{sym, ◌∙◌}
use Rattle.wgsl_layout.specs.Located.{shape_ty}
use Rattle.wgsl_layout.proofs.Locating.{indexable-refused, unindexable-refused}
use Rattle.wgsl_layout.proofs.flat.FlatPart.no_part.Goals as goal

pub returns-then-is_indexable : goal.returns-then-is_indexable
returns-then-is_indexable c =
    let p = c.args.self in
    let l = p.located in
    rw (c.in_ok-ty.ensures, c.part_count.ensures) (indexable-refused c.args.i l.count (shape_ty l.shape) p.bytes.now l.start (sym c.is_indexable.ensures ∙ c.if-is_indexable.true) c.requires.none)

pub returns-else-is_indexable : goal.returns-else-is_indexable
returns-else-is_indexable c =
    let p = c.args.self in
    let l = p.located in
    rw c.in_ok-ty.ensures (unindexable-refused c.args.i l.count (shape_ty l.shape) p.bytes.now l.start (sym c.is_indexable.ensures ∙ c.if-is_indexable.false))
