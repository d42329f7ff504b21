use Rattle.std.proofs.Common.{◌∙◌, ℕ, Option, ap}
use Rattle.std.specs.Option.{unwrap_or}
use Rattle.wgsl_rules.specs.Size.{size_of}
use Rattle.wgsl_rules.specs.View.{type_view}
use Rattle.wgsl_layout.specs.declared.extent.Extent.TheVariants as extents
use Rattle.wgsl_layout.proofs.Making.{amount-is}
use Rattle.wgsl_layout.proofs.extent.Extent.of_size.Goals as goal

pub returns-in_default : goal.returns-in_default
returns-in_default c = ap extents.Fixed (c.unwrap_or.ensures ∙ ap (λ (o : Option ℕ). unwrap_or o 0) c.measures.ensures.size ∙ amount-is (size_of (type_view c.args.ty.now)))
