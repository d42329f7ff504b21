use Rattle.std.proofs.Common.{◌≡◌, length, arith}
use Rattle.wgsl_source.proofs.declaration.read_module.Goals as goal

pub returns-clause-read : goal.returns-clause-read
returns-clause-read c =
    let end : length c.args.cursor.tokens.now ≡ c.loop-at.at = omega (arith, c.loop-at.invariant.within) in
    rw (end, c.into_module.ensures.pieces, c.into_module.ensures.declarations, c.into_module.ensures.asserts) c.loop-at.invariant.read
