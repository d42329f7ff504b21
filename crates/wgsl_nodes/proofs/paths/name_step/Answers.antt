use Rattle.std.proofs.Common.{sym, ◌∙◌, Some, None}
use Rattle.wgsl_nodes.specs.Paths.{is_name_byte}
use Rattle.wgsl_nodes.proofs.Texts.{split-at, some-taken, empty-head, name-answers}
use Rattle.wgsl_nodes.proofs.paths.name_step.Goals as goal

pub returns-then-end-eq0 : goal.returns-then-end-eq0
returns-then-end-eq0 c = empty-head c.args.nodes.now c.args.names.now c.args.len c.args.place c.args.text.now c.name_len-end.result c.if-end-eq0.true c.name_len-end.ensures.end

pub returns-in_err-next : goal.returns-in_err-next
returns-in_err-next c =
    let text = c.args.text.now in
    let name = c.split_at.result.0.now in
    let s = split-at is_name_byte text name c.split_at.result.1.now c.name_len-end.result c.split_at.ensures.front c.split_at.ensures.back c.name_len-end.ensures.name c.name_len-end.ensures.end in
    let some = some-taken c.name_len-end.result text name c.if-end-eq0.false c.name_len-end.ensures.within c.split_at.ensures.front in
    rw c.from_residual.ensures (name-answers c.args.nodes.now c.args.names.now c.args.len c.args.place text name c.split_at.result.1.now None s.is s.all s.end some (sym c.in_err-next.was ∙ c.named.ensures))

pub returns : goal.returns
returns c =
    let text = c.args.text.now in
    let name = c.split_at.result.0.now in
    let s = split-at is_name_byte text name c.split_at.result.1.now c.name_len-end.result c.split_at.ensures.front c.split_at.ensures.back c.name_len-end.ensures.name c.name_len-end.ensures.end in
    let some = some-taken c.name_len-end.result text name c.if-end-eq0.false c.name_len-end.ensures.within c.split_at.ensures.front in
    name-answers c.args.nodes.now c.args.names.now c.args.len c.args.place text name c.split_at.result.1.now (Some c.in_ok-next.next) s.is s.all s.end some (sym c.in_ok-next.was ∙ c.named.ensures)
