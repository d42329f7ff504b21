use Rattle.std.proofs.Common.{sym, string_bytes, refl, arith}
use Rattle.wgsl_report.proofs.Named.{name-is}
use Rattle.wgsl_report.proofs.records.variable_named.Goals as goal

pub returns-in-Variable : goal.returns-in-Variable
returns-in-Variable c =
    let item = c.item-item.result in
    record {
      item = item;
      there = (c.loop-item.item-index, omega (arith, c.loop-item-test.true), sym c.item-item.is);
      named = name-is c.as_str.result.now (string_bytes item.name) c.args.name.now c.eq.result c.eq.ensures c.if-eq.true c.as_str.ensures.value;
      typed = rw c.in-Variable.is refl;
    }
