use Rattle.wgsl_rules.specs.View.{type_view}
use Rattle.wgsl_layout.proofs.Locating.{vector-of}
use Rattle.wgsl_layout.proofs.located.is_vector_of.Goals as goal

pub returns-then-m-n : goal.returns-then-m-n
returns-then-m-n c =
    vector-of (type_view c.args.ty.now) (type_view c.args.component.now) (type_view c.in-Some.own.now) c.args.n c.in-Some.m c.eq.result c.in-Some.ensures c.if-m-n.true c.eq.ensures
