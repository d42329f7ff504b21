use Rattle.std.proofs.Common.{sym, refl}
use Rattle.wgsl_rules.specs.Types.{vec}
use Rattle.wgsl_rules.specs.View.{type_view}
use Rattle.wgsl_layout.proofs.Locating.{vector-of}
use Rattle.wgsl_layout.proofs.located.Located.has_vector_ty.Goals as goal

pub returns-then-m-n : goal.returns-then-m-n
returns-then-m-n c =
    let own = type_view c.in-Column.own.now in
    let told = vector-of (vec c.in-Column.m own) (type_view c.args.component.now) own c.args.n c.in-Column.m c.eq.result refl c.if-m-n.true c.eq.ensures in
    rw c.in-Column.is (λ h. sym (told.0 h), λ e. told.1 (sym e))
