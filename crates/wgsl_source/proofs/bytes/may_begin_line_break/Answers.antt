use Rattle.wgsl_source.proofs.BlankLemmas.{neither_class}
use Rattle.wgsl_source.proofs.bytes.may_begin_line_break.Goals as goal

pub returns-in_default : goal.returns-in_default
returns-in_default c = neither_class c.args.byte c.class_of.result c.class_of.ensures c.in_default.not-Lead c.in_default.not-Break
