use Rattle.std.proofs.Common.{◌≡◌, IfOk, IfSome, List, map, subst, sym}
use Rattle.wgsl_rules.specs.Values.{Val}
use Rattle.wgsl_scalar.specs.Literals.{literal_of}
use Rattle.wgsl_eval.proofs.literals.components_of.Goals as goal

pub returns-in-None : goal.returns-in-None
returns-in-None c =
    subst (λ (vs : List Val). IfOk c.flattened.result (λ o. IfSome o (λ ls. map literal_of ls.items ≡ vs))) (sym (c.in-None.ensures c.args.n)) c.flattened.ensures
