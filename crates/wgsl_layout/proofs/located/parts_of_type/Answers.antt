use Rattle.std.proofs.Common.{◌∙◌}
use Rattle.wgsl_rules.proofs.lemmas.Views.{view-Struct, view-Array, view-Vec, view-Mat}
use Rattle.wgsl_rules.specs.View.{type_view}
use Rattle.wgsl_rules.specs.declared.ty.StructType.{out-StructType}
use Rattle.wgsl_layout.proofs.Locating.{struct-count, array-count, vector-count, matrix-count}
use Rattle.wgsl_layout.proofs.located.parts_of_type.Goals as goal

pub returns-in-Struct : goal.returns-in-Struct
returns-in-Struct c =
    rw (c.in-Struct.is, view-Struct, ← c.deref.ensures) (struct-count c.deref.result.now c.args.count c.len.result (c.len.ensures ∙ (out-StructType c.deref.result.now).members.ok.0))

pub returns-in-Array : goal.returns-in-Array
returns-in-Array c = rw (c.in-Array.is, view-Array) (array-count c.unwrap_or.result c.args.count c.in-Array.n (type_view c.in-Array.field-0.value) c.unwrap_or.ensures)

pub returns-in-Vec : goal.returns-in-Vec
returns-in-Vec c = rw (c.in-Vec.is, view-Vec) (vector-count c.from.result c.args.count c.in-Vec.n (type_view c.in-Vec.field-1.value) c.from.ensures)

pub returns-in-Mat : goal.returns-in-Mat
returns-in-Mat c = rw (c.in-Mat.is, view-Mat) (matrix-count c.from-in-Mat.result c.args.count c.in-Mat.columns c.in-Mat.field-1 (type_view c.in-Mat.field-2.value) c.from-in-Mat.ensures)
