use Rattle.std.proofs.Common.{◌+◌, ◌<◌, ◌≤◌, ℕ, arith, min}
use Rattle.wgsl_source.proofs.UseLemmas.{finding-done, finding-none, finding-step}
use Rattle.wgsl_source.proofs.uses.Finder.add_tokens.Goals as goal

pub loop-at-init : goal.loop-at-init
loop-at-init c =
    let at : ℕ = c.saturating_add-at.result in
    record {
      behind = λ below. omega (arith, below, c.saturating_add-at.ensures, c.ranges.end.fits);
      found = finding-none c.args.self.now c.args.name c.args.end at c.requires.scopes c.requires.body (omega (arith, c.saturating_add-at.ensures));
    }

pub loop-at-preserved : goal.loop-at-preserved
loop-at-preserved c =
    let inv = c.loop-at.invariant in
    record {
      behind = λ below. omega (arith, inv.behind c.loop-at-test.true);
      found = finding-step c.args.self.now c.loop-at.self c.add_token.new.self c.args.name c.args.end c.loop-at.at (inv.behind c.loop-at-test.true) c.loop-at-test.true inv.found c.in_ok-add_token.ensures;
    }

pub returns : goal.returns
returns c = finding-done c.args.self.now c.loop-at.self c.args.name c.args.end c.loop-at.at c.loop-at-test.false c.loop-at.invariant.found
