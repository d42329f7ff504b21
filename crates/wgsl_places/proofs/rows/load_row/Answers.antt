use Rattle.std.proofs.Common.{◌+◌, ◌*◌, [], ◌∷◌, arith}
use Rattle.wgsl_scalar.specs.Literals.{literal_of}
use Rattle.wgsl_places.proofs.SideBySide.{loaded-at, row-loaded, row-not-loaded}
use Rattle.wgsl_places.proofs.rows.load_row.Goals as goal

pub returns-in_err-y : goal.returns-in_err-y
returns-in_err-y c =
    let w = c.in_ok-width.width in
    rw c.from_residual-in_err-y.ensures
    (row-not-loaded c.args.bytes.now c.args.at c.args.kind w 1 c.args.count (c.args.at + w) c.in_ok-width.ensures (omega arith) (omega arith) c.in_err-y.ensures)

pub returns-in_err-z : goal.returns-in_err-z
returns-in_err-z c =
    let w = c.in_ok-width.width in
    rw c.from_residual-in_err-z.ensures
    (row-not-loaded c.args.bytes.now c.args.at c.args.kind w 2 c.args.count (c.args.at + 2 * w) c.in_ok-width.ensures (omega arith) (omega arith) c.in_err-z.ensures)

pub returns-then-count-eq3 : goal.returns-then-count-eq3
returns-then-count-eq3 c =
    let b = c.args.bytes.now in
    let w = c.in_ok-width.width in
    row-loaded b c.args.at c.args.kind w c.args.count (literal_of c.in_ok-x.x ∷ literal_of c.in_ok-y.y ∷ literal_of c.in_ok-z.z ∷ []) c.in_ok-width.ensures (omega arith)
    (c.in_ok-x.ensures, (c.in_ok-y.ensures, (loaded-at b c.args.kind (c.args.at + 2 * w) (c.args.at + w + w) (omega arith) c.in_ok-z.ensures, tt)))

pub returns-in_err-w : goal.returns-in_err-w
returns-in_err-w c =
    let w = c.in_ok-width.width in
    rw c.from_residual-in_err-w.ensures
    (row-not-loaded c.args.bytes.now c.args.at c.args.kind w 3 c.args.count (c.args.at + 3 * w) c.in_ok-width.ensures (omega arith) (omega arith) c.in_err-w.ensures)

pub returns : goal.returns
returns c =
    let b = c.args.bytes.now in
    let w = c.in_ok-width.width in
    row-loaded b c.args.at c.args.kind w c.args.count (literal_of c.in_ok-x.x ∷ literal_of c.in_ok-y.y ∷ literal_of c.in_ok-z.z ∷ literal_of c.in_ok-w.w ∷ []) c.in_ok-width.ensures (omega arith) (
      c.in_ok-x.ensures,
      (
        c.in_ok-y.ensures,
        (
          loaded-at b c.args.kind (c.args.at + 2 * w) (c.args.at + w + w) (omega arith) c.in_ok-z.ensures,
          (loaded-at b c.args.kind (c.args.at + 3 * w) (c.args.at + w + w + w) (omega arith) c.in_ok-w.ensures, tt),
        ),
      ),
    )
