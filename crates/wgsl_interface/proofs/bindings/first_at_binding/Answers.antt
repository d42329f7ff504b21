use Rattle.std.proofs.Common.{◌∙◌, ◌+◌, ℕ, List, [], ◌∷◌, ◌++◌, sym, ap, take, drop, get_or, Option, append_assoc}
use Rattle.wgsl_interface.specs.Bindings.{firsts_behind}
use Rattle.wgsl_interface.specs.FirstNumbers.{number_at}
use Rattle.wgsl_interface.specs.declared.bindings.Binding.{Binding}
use Rattle.wgsl_interface.proofs.FirstBindings.{firsts-next, positions-next}
use Rattle.wgsl_interface.proofs.bindings.first_at_binding.Goals as goal

pub loop-i-preserved : goal.loop-i-preserved
loop-i-preserved c =
    let xs = c.args.bindings.now in
    let i = c.loop-i.i in
    let lt = c.loop-i-test.true in
    let d : Binding = record { group = 0; binding = 0 } in
    let x = get_or xs i d in
    let known = c.loop-i.invariant.firsts in
    let rest = firsts_behind (take (i + 1) xs) (drop (i + 1) xs) in
    record {
      found =
          ap (λ (os : List (Option ℕ)). os ++ rest) c.in_ok-push.ensures.items
          ∙ append_assoc c.loop-i.found.items (c.in_ok-first.first ∷ []) rest
          ∙ ap (λ (o : Option ℕ). c.loop-i.found.items ++ (o ∷ rest)) (c.in_ok-first.ensures.first ∙ known x)
          ∙ ap (λ (os : List (Option ℕ)). c.loop-i.found.items ++ os) (sym (firsts-next xs i d lt))
          ∙ c.loop-i.invariant.found;
      firsts = positions-next (number_at c.loop-i.firsts) (number_at c.enter.new.self) xs i d lt known c.in_ok-first.ensures.entered;
    }
