use Rattle.std.proofs.lemmas.List.Sorted.{answers_always}
use Rattle.wgsl_eval.specs.declared.message.Message.{Message}
use Rattle.std.proofs.Common.{rules, ◌++◌, ◌∙◌, List, ap}
use Rattle.wgsl_eval.proofs.MessageLemmas.{told_all}
use Rattle.wgsl_eval.proofs.message.Messages.into_sorted.Goals as goal

pub returns-clause-sorted : goal.returns-clause-sorted
returns-clause-sorted c =
    c.in_ok-sort_by_key.ensures.sorted (λ (m : Message). m.start) (answers_always _ _ _ (λ f a r k called. search rules))

pub returns-clause-told : goal.returns-clause-told
returns-clause-told c =
    told_all c.args.self.faults.items c.args.self.warnings.items _ _ _ c.args.self.warned
    (c.in_ok-append.ensures.items ∙ ap (λ (ws : List Message). c.args.self.faults.items ++ ws) c.truncate.ensures.items) c.sort_by_key.ensures.permutation
