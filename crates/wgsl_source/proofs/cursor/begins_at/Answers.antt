use Rattle.std.proofs.Common.{refl}
use Rattle.wgsl_source.proofs.Boundaries.{same_as_boundary}
use Rattle.wgsl_source.specs.Cuts.{is_boundary}
use Rattle.wgsl_source.proofs.cursor.begins_at.Goals as goal

pub returns-clause-value : goal.returns-clause-value
returns-clause-value c =
    same_as_boundary c.args.text.now c.args.at c.is_char_boundary.result (is_boundary c.args.text.now c.args.at) refl c.is_char_boundary.ensures.test
