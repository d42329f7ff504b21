use Rattle.std.proofs.Common.{◌≡◌, ◌∙◌, ◌+◌, ℕ, List, [], ◌∷◌, sym, ap, take, drop, get_or, Option, Some, None, append_assoc}
use Rattle.std.specs.Prelude.{option_map}
use Rattle.wgsl_interface.specs.Bindings.{binding_of, pair_with, pairs, pairs_behind}
use Rattle.wgsl_interface.specs.FirstNumbers.{number_at}
use Rattle.wgsl_interface.specs.declared.bindings.Binding.{Binding}
use Rattle.wgsl_interface.specs.declared.bindings.BindingPair.{BindingPair}
use Rattle.wgsl_interface.proofs.FirstBindings.{finds-over, finds-next, pairs-next, pair-none, pair-first, pair}
use Rattle.wgsl_interface.proofs.bindings.pairs_at_binding.Goals.{in-Some-2+in_ok-push, in_default-2}
use Rattle.wgsl_interface.proofs.bindings.pairs_at_binding.Goals as goal

pub loop-later-preserved-in_default : goal.loop-later-preserved-in_default
loop-later-preserved-in_default c =
    let bindings = c.args.bindings.now in
    let used = c.args.used.now in
    let i = c.loop-later.later-index in
    let lt = c.loop-later-test.true in
    let none : binding_of bindings (get_or used i 0) ≡ None = sym c.in_default.ensures in
    record {
      found = pairs-next bindings used i 0 c.loop-later.found.items (pairs bindings used) None lt (pair-none bindings (take i used) (get_or used i 0) none) c.loop-later.invariant.found;
      firsts = finds-over (number_at c.loop-later.firsts) bindings used i 0 lt none c.loop-later.invariant.firsts;
    }

pub loop-later-preserved : goal.loop-later-preserved
loop-later-preserved c =
    let bindings = c.args.bindings.now in
    let used = c.args.used.now in
    let i = c.loop-later.later-index in
    let lt = c.loop-later-test.true in
    let n : ℕ = get_or used i 0 in
    let x : Binding = c.in-Some.binding in
    let some : binding_of bindings n ≡ Some x = sym c.in-Some.ensures in
    let known = c.loop-later.invariant.firsts in
    let found : List BindingPair = c.loop-later.found.items in
    let all : List BindingPair = pairs bindings used in
    let first : Option ℕ = c.in_ok-first.field-0 in
    let with_first : pair_with bindings (take i used) n ≡ option_map (λ (first : ℕ). pair first n) first = pair-first bindings (take i used) n x first some (c.in_ok-first.ensures.first ∙ known x) in
    let firsts = finds-next (number_at c.loop-later.firsts) (number_at c.enter.new.self) bindings used i 0 x lt some known c.in_ok-first.ensures.entered in
    elim c.match-branch-2.branch [
      | in-Some-2+in_ok-push w ↦
          let one : BindingPair = pair w.in-Some-2.first n in
          let is : pair_with bindings (take i used) n ≡ Some one = with_first ∙ ap (λ (o : Option ℕ). option_map (λ (first : ℕ). pair first n) o) w.in-Some-2.is in
          rw (w.found-is, w.in_ok-push.ensures.items) (record {
            found = append_assoc found (one ∷ []) (pairs_behind bindings (take (i + 1) used) (drop (i + 1) used)) ∙ pairs-next bindings used i 0 found all (Some one) lt is c.loop-later.invariant.found;
            firsts = firsts;
          })
      | in_default-2 w ↦
          let is : pair_with bindings (take i used) n ≡ None = with_first ∙ ap (λ (o : Option ℕ). option_map (λ (first : ℕ). pair first n) o) w.in_default-2.is in
          rw w.found-is (record { found = pairs-next bindings used i 0 found all None lt is c.loop-later.invariant.found; firsts = firsts })
    ]
