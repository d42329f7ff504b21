use Rattle.std.proofs.Common.{sym, ◌∙◌, Some, None}
use Rattle.wgsl_nodes.specs.Paths.{is_digit}
use Rattle.wgsl_nodes.proofs.Texts.{split-at, no-bracket, no-number, index-answers}
use Rattle.wgsl_nodes.proofs.paths.index_step.Goals as goal

pub returns-in_err-rest : goal.returns-in_err-rest
returns-in_err-rest c =
    let s = split-at is_digit c.args.text.now c.split_at.result.0.now c.split_at.result.1.now c.digits_len.result c.split_at.ensures.front c.split_at.ensures.back c.digits_len.ensures.digits c.digits_len.ensures.end in
    rw c.from_residual.ensures (no-bracket c.args.nodes.now c.args.names.now c.args.len c.args.place c.args.text.now c.split_at.result.0.now c.split_at.result.1.now s.is s.all s.end c.in_err-rest.ensures)

pub returns-in_err-number : goal.returns-in_err-number
returns-in_err-number c =
    let s = split-at is_digit c.args.text.now c.split_at.result.0.now c.split_at.result.1.now c.digits_len.result c.split_at.ensures.front c.split_at.ensures.back c.digits_len.ensures.digits c.digits_len.ensures.end in
    rw c.from_residual-in_err-number.ensures (no-number c.args.nodes.now c.args.names.now c.args.len c.args.place c.args.text.now c.split_at.result.0.now c.split_at.result.1.now s.is s.all s.end c.in_err-number.ensures)

pub returns-in_err-next : goal.returns-in_err-next
returns-in_err-next c =
    let s = split-at is_digit c.args.text.now c.split_at.result.0.now c.split_at.result.1.now c.digits_len.result c.split_at.ensures.front c.split_at.ensures.back c.digits_len.ensures.digits c.digits_len.ensures.end in
    let number = c.in_ok-number.ensures in
    rw c.from_residual-in_err-next.ensures
    (index-answers c.args.nodes.now c.args.names.now c.args.len c.args.place c.args.text.now c.split_at.result.0.now c.split_at.result.1.now c.in_ok-rest.rest.now c.in_ok-number.field-0 None s.is s.all s.end c.in_ok-rest.ensures number.0 number.1
    (sym c.in_err-next.was ∙ c.indexed.ensures))

pub returns : goal.returns
returns c =
    let s = split-at is_digit c.args.text.now c.split_at.result.0.now c.split_at.result.1.now c.digits_len.result c.split_at.ensures.front c.split_at.ensures.back c.digits_len.ensures.digits c.digits_len.ensures.end in
    let number = c.in_ok-number.ensures in
    index-answers c.args.nodes.now c.args.names.now c.args.len c.args.place c.args.text.now c.split_at.result.0.now c.split_at.result.1.now c.in_ok-rest.rest.now c.in_ok-number.field-0 (Some c.in_ok-next.next) s.is s.all s.end c.in_ok-rest.ensures number.0 number.1
    (sym c.in_ok-next.was ∙ c.indexed.ensures)
