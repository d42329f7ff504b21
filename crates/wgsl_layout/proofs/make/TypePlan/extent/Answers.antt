use Rattle.std.proofs.Common.{◌≡◌, ◌∙◌, ℕ, Option, true, false, ap, sym}
use Rattle.std.specs.Option.{unwrap_or}
use Rattle.wgsl_rules.specs.Size.{size_of}
use Rattle.wgsl_rules.specs.Layout.{has_fixed_layout}
use Rattle.wgsl_layout.specs.Plan.{plan_view}
use Rattle.wgsl_layout.proofs.Making.{amount-is}
use Rattle.wgsl_layout.proofs.lemmas.Extents.{open-extent}
use Rattle.wgsl_layout.proofs.lemmas.Tidy.{fixed-length}
use Rattle.wgsl_layout.proofs.make.TypePlan.extent.Goals as goal

pub returns-then-self : goal.returns-then-self
returns-then-self c = λ t is laid.
    let f : has_fixed_layout t ≡ true = sym is.measures.fixed ∙ c.if-self.true in
    (c.unwrap_or.ensures ∙ ap (λ (o : Option ℕ). unwrap_or o 0) is.measures.size ∙ amount-is (size_of t), fixed-length t 0 f)

pub returns-else-self : goal.returns-else-self
returns-else-self c = λ t is laid.
    let f : has_fixed_layout t ≡ false = sym is.measures.fixed ∙ c.if-self.false in
    open-extent t (plan_view c.args.self.now.plan) c.tail.result laid f is.plan c.tail.ensures
