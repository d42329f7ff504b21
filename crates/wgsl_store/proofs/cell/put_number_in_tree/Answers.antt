use Rattle.std.proofs.Common.{◌∙◌, ap}
use Rattle.wgsl_rules.specs.Paths.{put_viewed, viewed}
use Rattle.wgsl_rules.specs.Values.{Val, atomic_of, type_of}
use Rattle.wgsl_scalar.specs.Literals.{literal_of}
use Rattle.wgsl_values.specs.View.{steps_of, value_of}
use Rattle.wgsl_values.proofs.lemmas.PutTwice.{put-twice}
use Rattle.wgsl_layout.specs.Atomics.{IsAtomicOf}
use Rattle.wgsl_layout.proofs.AtomicParts.{none-led, some-led}
use Rattle.wgsl_store.proofs.cell.put_number_in_tree.Goals as goal

pub unreachable-requires : goal.unreachable-requires
unreachable-requires c =
    none-led (IsAtomicOf (type_of (literal_of c.args.number))) (viewed (steps_of c.args.view.now) (value_of c.args.whole.now)) c.in_default.ensures.part c.requires

pub with_number-requires : goal.with_number-requires
with_number-requires c =
    some-led (IsAtomicOf (type_of (literal_of c.args.number))) (viewed (steps_of c.args.view.now) (value_of c.args.whole.now)) (value_of c.in-Some.atomic) c.in-Some.ensures.part c.requires

pub returns : goal.returns
returns c =
    let steps = steps_of c.args.view.now in
    let v = value_of c.args.whole.now in
    let w = atomic_of (literal_of c.args.number) in
    c.put-2.ensures.put ∙ ap (λ (x : Val). put_viewed steps x (value_of c.put.new.self)) c.with_number.ensures
    ∙ ap (put_viewed steps w) c.put.ensures.put ∙ put-twice steps w _ v
