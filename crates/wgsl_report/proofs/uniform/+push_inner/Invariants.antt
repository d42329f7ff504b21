use Rattle.wgsl_report.proofs.uniform.+push_inner.Given as goal

abbrev pub decreases-push_inner : goal.decreases-push_inner
decreases-push_inner l = l.deep
