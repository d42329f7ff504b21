use Rattle.std.proofs.Common.{ℕ}
use Rattle.wgsl_source.specs.Finders.{IsStep}
use Rattle.wgsl_source.specs.Scopes.{IsKnown}
use Rattle.wgsl_source.proofs.UseLemmas.{step-followed, weaker}
use Rattle.wgsl_source.proofs.uses.Finder.add_token.Goals as goal

pub returns : goal.returns
returns c =
    let f = c.args.self.now in
    let m = c.add_name.new.self in
    let s = c.follow.new.self in
    let b = c.is_in_body_behind-in_body.result in
    let A : Type 0 = (n : ℕ) → IsKnown s n → IsKnown m.scopes n in
    weaker c.follow.result A (IsStep c.args.at f (record m { scopes = s; in_body = b }))
    (λ known. step-followed c.args.at f m s b c.in_ok-add_name.ensures c.is_in_body_behind-in_body.ensures known) c.follow.ensures
