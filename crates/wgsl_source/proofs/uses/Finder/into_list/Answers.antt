use Rattle.std.proofs.Common.{◌≡◌, ◌++◌, List, ℕ, [], subst, sym, ◌∙◌, ap}
use Rattle.std.proofs.lemmas.List.{append-nil}
use Rattle.std.proofs.lemmas.Map.Iter.{rest_all}
use Rattle.std.proofs.lemmas.Map.Keys.{IsStrictlyIncreasing-from_sorted}
use Rattle.std.specs.List.Sorted.{IsStrictlyIncreasing}
use Rattle.std.specs.Map.Iter.{deref}
use Rattle.wgsl_source.proofs.uses.Finder.into_list.Goals as goal

pub returns-clause-same : goal.returns-clause-same
returns-clause-same c =
    let rest : c.loop-number.number-iterator ≡ [] = rest_all deref _ _ _ c.in-None.is c.next.ensures.steps in
    sym (append-nil c.loop-number.list.items) ∙ (ap (λ (xs : List ℕ). c.loop-number.list.items ++ xs) (sym rest) ∙ c.loop-number.invariant)

pub returns-clause-rising : goal.returns-clause-rising
returns-clause-rising c =
    subst IsStrictlyIncreasing (sym (returns-clause-same c)) (IsStrictlyIncreasing-from_sorted c.args.self.found.keys c.len.ensures.ordered)
