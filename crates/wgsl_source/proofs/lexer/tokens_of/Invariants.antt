use Rattle.std.proofs.Common.{◌-◌, ◌≤◌, length, map}
use Rattle.wgsl_source.specs.Blanks.{IsCut}
use Rattle.wgsl_source.specs.Readings.{extent_in}
use Rattle.wgsl_source.proofs.lexer.tokens_of.Given as goal

abbrev pub invariant-loop-start : goal.invariant-loop-start
invariant-loop-start l = record {
  within : l.start ≤ length l.bytes;
  cut : IsCut l.bytes (map extent_in l.lexed.tokens.items) l.lexed.faults.items l.start;
}

abbrev pub decreases-loop-start : goal.decreases-loop-start
decreases-loop-start l = length l.bytes - l.start
