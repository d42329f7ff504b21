use Rattle.std.proofs.Common.{◌∙◌, ℕ, subst}
use Rattle.wgsl_rules.specs.Values.{atomic_of}
use Rattle.wgsl_scalar.specs.Literals.{literal_of}
use Rattle.wgsl_layout.specs.Located.{shape_plan, shape_ty}
use Rattle.wgsl_layout.specs.Walk.{Stands}
use Rattle.wgsl_layout.proofs.AtomicParts.{put-number, stands-number}
use Rattle.wgsl_layout.proofs.lemmas.Flat.{stands-there}
use Rattle.wgsl_layout.proofs.located.Located.write_atomic_number.Goals as goal

pub write_literal-requires : goal.write_literal-requires
write_literal-requires c =
    let l = c.args.self in
    let w = literal_of c.args.number in
    stands-number w (shape_plan l.shape) l.start _ c.requires.storable.0
    (subst (λ (n : ℕ). Stands (atomic_of w) (shape_plan l.shape) l.start n) c.requires.whole
    (stands-there (atomic_of w) l.count (shape_ty l.shape) (shape_plan l.shape) l.start l.len c.requires.located c.requires.storable c.requires.alike))

pub returns : goal.returns
returns c =
    let l = c.args.self in
    c.write_literal.ensures ∙ put-number (literal_of c.args.number) (shape_plan l.shape) l.start _ c.requires.storable.0
