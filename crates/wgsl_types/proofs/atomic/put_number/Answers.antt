use Rattle.wgsl_values.specs.View.{value_of}
use Rattle.wgsl_types.proofs.AtomicLoads.{content_literal}
use Rattle.wgsl_types.proofs.atomic.put_number.Goals as goal

pub unwrap_literal-requires : goal.unwrap_literal-requires
unwrap_literal-requires c = content_literal (value_of c.args.number) c.requires.storable.0

pub put_atomic_number-requires-clause-typed : goal.put_atomic_number-requires-clause-typed
put_atomic_number-requires-clause-typed c = rw c.unwrap_literal.ensures c.requires.typed

pub put_atomic_number-requires-clause-storable : goal.put_atomic_number-requires-clause-storable
put_atomic_number-requires-clause-storable c = rw c.unwrap_literal.ensures c.requires.storable

pub returns-clause-put : goal.returns-clause-put
returns-clause-put c = rw (← c.unwrap_literal.ensures) c.put_atomic_number.ensures.put
