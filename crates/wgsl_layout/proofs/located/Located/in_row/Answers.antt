use Rattle.wgsl_rules.specs.Layout.{layout}
use Rattle.wgsl_layout.specs.Located.{shape_ty}
use Rattle.wgsl_layout.proofs.Locating.{row-past, row-nth}
use Rattle.wgsl_layout.proofs.located.Located.in_row.Goals as goal

pub returns-then-i-n-clause-range : goal.returns-then-i-n-clause-range
returns-then-i-n-clause-range c = row-past c.args.self.start c.args.far c.args.i c.args.n (layout c.args.self.count (shape_ty c.args.shape)) c.if-i-n.true

pub returns-clause-range : goal.returns-clause-range
returns-clause-range c = row-nth c.args.self.start c.args.far c.args.i c.args.n (layout c.args.self.count (shape_ty c.args.shape)) c.if-i-n.false
