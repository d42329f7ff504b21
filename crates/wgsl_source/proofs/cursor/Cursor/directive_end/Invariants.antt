use Rattle.std.proofs.Common.{◌≡◌, ℕ, ◌<◌, false}
use Rattle.wgsl_source.specs.Cursors.{text_of}
use Rattle.wgsl_source.specs.Identifiers.{is_one_of}
use Rattle.wgsl_source.specs.Pieces.{no_parts}
use Rattle.wgsl_source.proofs.cursor.Cursor.directive_end.Given as goal

abbrev pub invariant-loop-at : goal.invariant-loop-at
invariant-loop-at l =
    (token : ℕ) → l.self.at < token → token < l.at → is_one_of no_parts (text_of l.self token) ≡ false
