use Rattle.std.proofs.Common.{ℕ, List, Bool, false, Some, ◌∙◌, ap, arith}
use Rattle.std.proofs.lemmas.Option.{slice_get-get_or}
use Rattle.wgsl_interface.specs.Marks.{IsMarked}
use Rattle.wgsl_interface.proofs.Marks.{numbers-marked, numbers-unmarked, numbers-all, rising_push}
use Rattle.wgsl_interface.proofs.reach.marked_numbers.Goals.{then-is_marked+in_ok-push, else-is_marked}
use Rattle.wgsl_interface.proofs.reach.marked_numbers.Goals as goal

pub loop-number-preserved : goal.loop-number-preserved
loop-number-preserved c =
    let marks : List Bool = c.args.marks.now in
    let xs : List ℕ = c.loop-number.numbers.items in
    let i : ℕ = c.loop-number.number in
    let known = c.loop-number.invariant.marked in
    let mark = slice_get-get_or marks i false c.loop-number-test.true in
    elim c.if-is_marked.branch [
      | then-is_marked+in_ok-push w ↦
          let here : IsMarked marks i = mark ∙ ap Some w.if-is_marked.true in
          rw (w.numbers-is, w.in_ok-push.ensures.items) (record {
            marked = numbers-marked marks xs i known here;
            rising = rising_push xs i c.loop-number.invariant.rising (λ n h. ((known n).0 h).0);
          })
      | else-is_marked w ↦
          rw w.numbers-is (record {
            marked = numbers-unmarked marks xs i known (λ (here : IsMarked marks i). let e = ap Some w.if-is_marked.false in cc);
            rising = c.loop-number.invariant.rising;
          })
    ]

pub returns-clause-marked : goal.returns-clause-marked
returns-clause-marked c = numbers-all c.args.marks.now c.loop-number.numbers.items c.loop-number.number (omega arith) c.loop-number.invariant.marked
