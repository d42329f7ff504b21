use Rattle.std.proofs.Common.{rules, ◌≡◌, ◌∙◌, ◌++◌, [], ◌∷◌, Ok, Err, refl, sym, ap}
use Rattle.std.specs.Prelude.{MatchOption}
use Rattle.wgsl_value_ops.specs.Lift.{lifted}
use Rattle.wgsl_rules.specs.Values.{Val}
use Rattle.wgsl_rules.specs.View.{type_view}
use Rattle.wgsl_scalar.specs.Answers.{refusal_of}
use Rattle.wgsl_scalar.specs.Literals.{literal_of}
use Rattle.wgsl_value_builtins.proofs.PackedBytes.{literal-at}
use Rattle.wgsl_value_builtins.proofs.SoFar.{HasMade, made-start, made-more, made-refused, made-all, gives-through}
use Rattle.wgsl_value_builtins.specs.Bitcast.{taken_as}
use Rattle.wgsl_values.proofs.lemmas.Views.{value_of-Literal}
use Rattle.wgsl_values.specs.View.{value_of, vals_view}
use Rattle.wgsl_values.specs.declared.instance.Instance.TheVariants as inst
use Rattle.wgsl_value_builtins.proofs.bitcast.each_taken_as.Goals as goal

pub unwrap_literal_ref-requires : goal.unwrap_literal_ref-requires
unwrap_literal_ref-requires c = literal-at c.args.literals.now c.loop-literal.literal-index c.literal-item.result c.loop-literal-test.true c.literal-item.is c.requires

pub loop-literal-init : goal.loop-literal-init
loop-literal-init c = record { count = search rules; room = search rules; so_far = rw c.in_ok-taken.ensures.items (made-start (taken_as (type_view c.args.ty.now)) c.args.literals.now) }

pub returns-in_err-number : goal.returns-in_err-number
returns-in_err-number c =
    let h : MatchOption (refusal_of c.in_err-number.field-0.0) (Unit {0}) (λ r. taken_as (type_view c.args.ty.now) (literal_of c.unwrap_literal_ref.result.now) ≡ Err r) = c.in_err-number.ensures in
    search (
      rules,
      gives-through (refusal_of c.in_err-number.field-0.0) (taken_as (type_view c.args.ty.now) (literal_of c.unwrap_literal_ref.result.now)) (lifted (taken_as (type_view c.args.ty.now)) (vals_view c.args.literals.now))
          (λ r e. made-refused (taken_as (type_view c.args.ty.now)) c.args.literals.now c.loop-literal.literal-index c.literal-item.result c.loop-literal.taken.items r c.loop-literal-test.true c.literal-item.is c.loop-literal.invariant.so_far (ap (taken_as (type_view c.args.ty.now)) (sym c.unwrap_literal_ref.ensures) ∙ e)) h,
    )

pub loop-literal-preserved : goal.loop-literal-preserved
loop-literal-preserved c =
    let made : taken_as (type_view c.args.ty.now) (literal_of c.unwrap_literal_ref.result.now) ≡ Ok (literal_of c.in_ok-number.number) = c.in_ok-number.ensures in
    let same : c.push.new.self.items ≡ c.loop-literal.taken.items ++ inst.Literal c.in_ok-number.number ∷ [] = search rules in
    record {
      count = search rules;
      room = search rules;
      so_far = rw same (made-more (taken_as (type_view c.args.ty.now)) c.args.literals.now c.loop-literal.literal-index c.literal-item.result (inst.Literal c.in_ok-number.number) c.loop-literal.taken.items c.loop-literal-test.true c.literal-item.is c.loop-literal.invariant.so_far (ap (taken_as (type_view c.args.ty.now)) (sym c.unwrap_literal_ref.ensures) ∙ made ∙ ap (λ (v : Val). Ok v) (sym (value_of-Literal c.in_ok-number.number))));
    }

pub returns : goal.returns
returns c = made-all (taken_as (type_view c.args.ty.now)) c.args.literals.now c.loop-literal.literal-index c.loop-literal.taken.items c.loop-literal-test.false c.loop-literal.invariant.so_far
