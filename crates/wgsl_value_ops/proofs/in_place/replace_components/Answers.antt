use Rattle.std.proofs.Common.{◌≡◌, ◌<◌, length, map, take, ap, ◌∙◌, subst, arith}
use Rattle.wgsl_rules.specs.Paths.{parts}
use Rattle.wgsl_rules.specs.Values.{AreStorable, count, vector}
use Rattle.wgsl_scalar.specs.Literals.{literal_of}
use Rattle.wgsl_values.specs.Iterators.{listed}
use Rattle.wgsl_values.specs.View.{vals_of, vec_view}
use Rattle.wgsl_values.specs.Written.{with_part}
use Rattle.wgsl_values.proofs.Listed.{length-listed}
use Rattle.wgsl_value_ops.proofs.InPlace.{storable-next, written-all, written-count, written-next, written-none}
use Rattle.wgsl_value_ops.proofs.in_place.replace_components.Goals as goal

pub loop-i-init : goal.loop-i-init
loop-i-init c = record { so_far = written-none c.args.target.now c.args.literals.now; storable = tt }

pub replace_component-requires : goal.replace_component-requires
replace_component-requires c =
    let olds = parts (vec_view c.args.target.now) in
    let within = c.loop-i-test.true in
    let same = ap (λ v. count (parts v)) c.loop-i.invariant.so_far ∙ written-count olds c.args.literals.now c.loop-i.i (omega (arith, c.n-i-end.ensures, within)) (omega (arith, c.n-i-end.ensures, within, c.requires.most)) in
    omega (arith, same, c.n-i-end.ensures, within)

pub loop-i-preserved : goal.loop-i-preserved
loop-i-preserved c =
    let olds = parts (vec_view c.args.target.now) in
    let ls = c.args.literals.now in
    let within = c.loop-i-test.true in
    let first : c.loop-i.i < length (listed olds) = omega (arith, length-listed olds, c.n-i-end.ensures, within) in
    let there : c.loop-i.i < length ls = omega (arith, c.n-i-end.ensures, within, c.requires.most) in
    record {
      so_far = c.replace_component.ensures.replaced ∙ ap (with_part c.loop-i.i _) c.loop-i.invariant.so_far ∙ written-next (listed olds) ls c.loop-i.i _ first there;
      storable = storable-next ls c.loop-i.i _ there c.loop-i.invariant.storable c.replace_component.ensures.storable;
    }

pub returns-clause-components : goal.returns-clause-components
returns-clause-components c =
    c.loop-i.invariant.so_far ∙ ap (λ l. vector (vals_of l)) (written-all c.args.literals.now c.loop-i.i (parts (vec_view c.args.target.now)) (omega (arith, c.n-i-end.ensures, c.loop-i-test.false, c.loop-i.auto.i-end)))

pub returns-clause-storable : goal.returns-clause-storable
returns-clause-storable c =
    let all : c.loop-i.i ≡ count (parts (vec_view c.args.target.now)) = omega (arith, c.n-i-end.ensures, c.loop-i-test.false, c.loop-i.auto.i-end) in
    subst (λ n. AreStorable (vals_of (map literal_of (take n c.args.literals.now)))) all c.loop-i.invariant.storable
