use Rattle.std.proofs.Common.{◌≡◌, ◌∙◌, ℕ, Bool, true, false, Option, ap, sym}
use Rattle.std.specs.Prelude.{if◌then◌else◌}
use Rattle.std.specs.Option.{unwrap_or}
use Rattle.wgsl_rules.specs.Size.{size_of}
use Rattle.wgsl_rules.specs.Layout.{size, has_fixed_layout}
use Rattle.wgsl_layout.proofs.Making.{amount-is}
use Rattle.wgsl_layout.proofs.make.fixed_size.Goals as goal

pub returns-then-measures : goal.returns-then-measures
returns-then-measures c = λ t own.
    let f : has_fixed_layout t ≡ true = sym own.fixed ∙ c.if-measures.true in
    c.unwrap_or.ensures ∙ ap (λ (o : Option ℕ). unwrap_or o 0) own.size ∙ amount-is (size_of t) ∙ sym (ap (λ (b : Bool). if b then size t else 0) f)

pub returns-else-measures : goal.returns-else-measures
returns-else-measures c = λ t own.
    let f : has_fixed_layout t ≡ false = sym own.fixed ∙ c.if-measures.false in
    sym (ap (λ (b : Bool). if b then size t else 0) f)
