use Rattle.std.proofs.Common.{sym}
use Rattle.wgsl_rules.specs.View.{type_view}
use Rattle.wgsl_values.specs.View.{value_of}
use Rattle.wgsl_store.proofs.LaidOut.{laid-content}
use Rattle.wgsl_store.proofs.store.Store.write_read.Goals as goal

pub write-requires-clause-storable : goal.write-requires-clause-storable
write-requires-clause-storable c = (laid-content c.args.self.now c.args.bytes.now (type_view c.target_ty.result.now) (value_of c.in-Some.value) (sym (rw c.in-Some.is at c.in_ok-value.ensures))).0

pub write-requires-clause-held : goal.write-requires-clause-held
write-requires-clause-held c = (laid-content c.args.self.now c.args.bytes.now (type_view c.target_ty.result.now) (value_of c.in-Some.value) (sym (rw c.in-Some.is at c.in_ok-value.ensures))).1
