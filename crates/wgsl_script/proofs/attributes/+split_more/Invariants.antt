use Rattle.std.proofs.Common.{length}
use Rattle.wgsl_script.proofs.attributes.+split_more.Given as goal

-- an attribute takes some of the word
abbrev pub decreases-split_more : goal.decreases-split_more
decreases-split_more l = length l.word.now
