use Rattle.std.proofs.Common.{◌<◌, ◌-◌}
use Rattle.wgsl_source.proofs.UseLemmas.{IsFinding}
use Rattle.wgsl_source.proofs.uses.Finder.add_tokens.Given as goal

abbrev pub invariant-loop-at : goal.invariant-loop-at
invariant-loop-at l = record {
  behind : l.at < l.end → l.name < l.at;
  found : IsFinding l.fn.self l.name l.end l.at l.self;
}

abbrev pub decreases-loop-at : goal.decreases-loop-at
decreases-loop-at l = l.end - l.at
