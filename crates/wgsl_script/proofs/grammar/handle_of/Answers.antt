use Rattle.wgsl_script.proofs.Numbers.{no_handle}
use Rattle.wgsl_script.proofs.grammar.handle_of.Goals as goal

pub returns-in_err-strip_prefix : goal.returns-in_err-strip_prefix
returns-in_err-strip_prefix c = rw c.from_residual.ensures (no_handle c.args.word.now c.in_err-strip_prefix.ensures.cases)
