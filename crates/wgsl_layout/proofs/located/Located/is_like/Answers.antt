use Rattle.std.proofs.Common.{◌∙◌, ℕ, sym, ap, eq-eqb}
use Rattle.std.proofs.lemmas.Bool.{eqb-true}
use Rattle.wgsl_rules.specs.Layout.{layout, length_in}
use Rattle.wgsl_layout.specs.Located.{shape_ty}
use Rattle.wgsl_layout.proofs.Copies.{alike-parts}
use Rattle.wgsl_layout.proofs.located.Located.is_like.Goals as goal

pub returns-then-self-other : goal.returns-then-self-other
returns-then-self-other c =
    let s = c.args.other in
    let t = c.args.self in
    let typed = c.has_ty_of.ensures.0 c.if-not-has_ty_of.false in (
      λ h. ap (λ (n : ℕ). layout n (shape_ty s.shape)) (sym c.if-self-other.true) ∙ ap (layout t.count) typed,
      λ e. eq-eqb t.count s.count c.if-self-other.true,
    )

pub returns-else-self-other : goal.returns-else-self-other
returns-else-self-other c =
    let s = c.args.other in
    let t = c.args.self in
    let own = c.size in
    let other = c.size-else-self-other in
    let typed = c.has_ty_of.ensures.0 c.if-not-has_ty_of.false in (
      λ h. alike-parts s t c.requires.other c.requires.own typed (sym other.ensures ∙ sym (eqb-true own.result other.result h) ∙ own.ensures),
      λ e. eq-eqb own.result other.result (own.ensures ∙ ap length_in (sym e) ∙ sym other.ensures),
    )
