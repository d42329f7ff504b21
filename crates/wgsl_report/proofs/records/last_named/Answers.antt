use Rattle.std.proofs.Common.{sym, string_bytes}
use Rattle.wgsl_report.proofs.Named.{last-of, name-is}
use Rattle.wgsl_report.proofs.records.last_named.Goals as goal

pub returns-in-Some : goal.returns-in-Some
returns-in-Some c =
    let item = c.in-Some.item.now in
    last-of c.named.result c.args.name.now c.args.items.now item (sym c.in-Some.ensures.value)
    (name-is c.as_str.result.now (string_bytes item.name) c.args.name.now c.eq.result c.eq.ensures c.if-eq.true c.as_str.ensures.value)
    c.named.ensures
