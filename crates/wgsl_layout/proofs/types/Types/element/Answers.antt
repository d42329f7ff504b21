use Rattle.wgsl_rules.specs.Types.{array}
use Rattle.wgsl_layout.proofs.Sharing.{element-layout}
use Rattle.wgsl_layout.proofs.types.Types.element.Goals as goal

pub returns-in-Of : goal.returns-in-Of
returns-in-Of c = λ n t m s first. c.part.ensures n (array t m) t s (λ r e. element-layout 0 n t m r e)
