use Rattle.std.proofs.Common.{ℕ, subst}
use Rattle.wgsl_values.specs.View.{value_of}
use Rattle.wgsl_layout.specs.Located.{shape_plan, shape_ty}
use Rattle.wgsl_layout.specs.Walk.{Stands}
use Rattle.wgsl_layout.proofs.Plans.{view-scalar}
use Rattle.wgsl_layout.proofs.lemmas.Flat.{stands-there}
use Rattle.wgsl_layout.proofs.located.Located.write.Goals as goal

pub write_value-requires : goal.write_value-requires
write_value-requires c =
    let l = c.args.self in
    let w = value_of c.args.value.now in
    let there = subst (λ (n : ℕ). Stands w (shape_plan l.shape) l.start n) c.requires.whole
    (stands-there w l.count (shape_ty l.shape) (shape_plan l.shape) l.start l.len c.requires.located c.requires.storable c.requires.alike) in
    rw c.in-Whole.is at there

pub write_value-requires-in-Column : goal.write_value-requires-in-Column
write_value-requires-in-Column c =
    let l = c.args.self in
    let w = value_of c.args.value.now in
    let there = subst (λ (n : ℕ). Stands w (shape_plan l.shape) l.start n) c.requires.whole
    (stands-there w l.count (shape_ty l.shape) (shape_plan l.shape) l.start l.len c.requires.located c.requires.storable c.requires.alike) in
    rw c.in-Column.is at there

pub write_value-requires-in-Component : goal.write_value-requires-in-Component
write_value-requires-in-Component c =
    let l = c.args.self in
    let w = value_of c.args.value.now in
    let there = subst (λ (n : ℕ). Stands w (shape_plan l.shape) l.start n) c.requires.whole
    (stands-there w l.count (shape_ty l.shape) (shape_plan l.shape) l.start l.len c.requires.located c.requires.storable c.requires.alike) in
    let at_scalar = rw c.in-Component.is at there in
    rw view-scalar at_scalar
