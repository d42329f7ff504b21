use Rattle.std.proofs.Common.{ap, ◌∙◌, MutBor}
use Rattle.wgsl_value_ops.proofs.InPlace.{place_there}
use Rattle.wgsl_rules.specs.Paths.{parts}
use Rattle.wgsl_values.specs.View.{value_of, vec_view}
use Rattle.wgsl_values.specs.Written.{with_part}
use Rattle.wgsl_values.specs.declared.instance.Instance.{Instance}
use Rattle.wgsl_value_ops.proofs.in_place.replace_component.Goals as goal

pub returns-in-Some-clause-replaced : goal.returns-in-Some-clause-replaced
returns-in-Some-clause-replaced c =
    let held = rw c.in-Some.is at (c.get_mut.follows.holds c.component-value.result).is in
    held ∙ ap (λ w. with_part c.args.i w (vec_view c.args.target.now)) c.component-value.ensures.value

pub returns-in_default-clause-replaced : goal.returns-in_default-clause-replaced
returns-in_default-clause-replaced c =
    absurd (place_there (λ (v : MutBor Instance). value_of v.now) c.get_mut.result (parts (vec_view c.args.target.now)) c.args.i c.get_mut.ensures.value c.requires.within c.in_default.is)
