use Rattle.std.proofs.Common.{ℕ, List, Option, is_some, inl, inr, sym, ap, ◌∙◌, arith}
use Rattle.std.specs.Option.{unwrap_or}
use Rattle.wgsl_places.proofs.SideBySide.{row-not-stored, row-stored}
use Rattle.wgsl_places.proofs.rows.store_row.Goals as goal
use Rattle.wgsl_places.proofs.rows.store_row.Goals.{then-not-are_of_kind-via-then-not-are_of_kind, then-not-are_of_kind-via-else-not-are_of_kind+then-not-is_inside}

pub returns-then-not-are_of_kind-clause-answer : goal.returns-then-not-are_of_kind-clause-answer
returns-then-not-are_of_kind-clause-answer c =
    let none = row-not-stored c.args.bytes.now c.args.at c.args.kind c.in-Some.width c.args.numbers.now c.in-Some.ensures (omega arith)
    (elim c.then-not-are_of_kind.branch [
      | then-not-are_of_kind-via-then-not-are_of_kind w ↦ inl (sym c.are_of_kind.ensures ∙ w.if-not-are_of_kind.true)
      | then-not-are_of_kind-via-else-not-are_of_kind+then-not-is_inside w ↦ inr (sym w.is_inside.ensures ∙ w.if-not-is_inside.true)
    ]) in
    ap is_some none

pub returns-then-not-are_of_kind-clause-bytes : goal.returns-then-not-are_of_kind-clause-bytes
returns-then-not-are_of_kind-clause-bytes c =
    let none = row-not-stored c.args.bytes.now c.args.at c.args.kind c.in-Some.width c.args.numbers.now c.in-Some.ensures (omega arith)
    (elim c.then-not-are_of_kind.branch [
      | then-not-are_of_kind-via-then-not-are_of_kind w ↦ inl (sym c.are_of_kind.ensures ∙ w.if-not-are_of_kind.true)
      | then-not-are_of_kind-via-else-not-are_of_kind+then-not-is_inside w ↦ inr (sym w.is_inside.ensures ∙ w.if-not-is_inside.true)
    ]) in
    ap (λ (x : Option (List ℕ)). unwrap_or x c.args.bytes.now) none

pub put_row-requires : goal.put_row-requires
put_row-requires c =
    let row = row-stored c.args.bytes.now c.args.at c.args.kind c.in-Some.width c.args.numbers.now c.in-Some.ensures (sym c.are_of_kind.ensures ∙ c.if-not-are_of_kind.false) (sym c.is_inside.ensures ∙ c.if-not-is_inside.false) in
    row.stand

pub returns-clause-answer : goal.returns-clause-answer
returns-clause-answer c =
    let row = row-stored c.args.bytes.now c.args.at c.args.kind c.in-Some.width c.args.numbers.now c.in-Some.ensures (sym c.are_of_kind.ensures ∙ c.if-not-are_of_kind.false) (sym c.is_inside.ensures ∙ c.if-not-is_inside.false) in
    ap is_some row.bytes

pub returns-clause-bytes : goal.returns-clause-bytes
returns-clause-bytes c =
    let row = row-stored c.args.bytes.now c.args.at c.args.kind c.in-Some.width c.args.numbers.now c.in-Some.ensures (sym c.are_of_kind.ensures ∙ c.if-not-are_of_kind.false) (sym c.is_inside.ensures ∙ c.if-not-is_inside.false) in
    c.put_row.ensures ∙ ap (λ (x : Option (List ℕ)). unwrap_or x c.args.bytes.now) row.bytes
