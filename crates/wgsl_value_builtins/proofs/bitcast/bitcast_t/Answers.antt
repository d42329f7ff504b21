use Rattle.std.proofs.Common.{rules, ◌≡◌, ◌∙◌, Ok, Err, sym, ap, subst}
use Rattle.std.specs.Prelude.{MatchOption}
use Rattle.wgsl_rules.specs.Refusals.{Outcome, and_then}
use Rattle.wgsl_rules.specs.TypeParts.{inner_type}
use Rattle.wgsl_rules.specs.Types.{Ty}
use Rattle.wgsl_rules.specs.Values.{Val}
use Rattle.wgsl_rules.specs.View.{type_view}
use Rattle.wgsl_scalar.specs.Answers.{Gives, refusal_of}
use Rattle.wgsl_value_builtins.proofs.PackingAnswers.{bitcast-storable}
use Rattle.wgsl_value_builtins.proofs.SoFar.{gives-storable, gives-through}
use Rattle.wgsl_value_builtins.proofs.Taken.{value-taken, inner-word}
use Rattle.wgsl_value_builtins.specs.Bitcast.{bitcast, taken_as, with_bytes_of}
use Rattle.wgsl_value_builtins.specs.Lifts.{on_components}
use Rattle.wgsl_values.specs.View.{value_of}
use Rattle.wgsl_value_builtins.proofs.bitcast.bitcast_t.Goals as goal

pub returns-in_err-taken-clause-value : goal.returns-in_err-taken-clause-value
returns-in_err-taken-clause-value c =
    let h : MatchOption (refusal_of c.in_err-taken.field-0.0) (Unit {0}) (λ r. on_components (taken_as (type_view c.inner.result.now)) (value_of c.args.e.now) ≡ Err r) = c.in_err-taken.ensures in
    search (
      rules,
      gives-through (refusal_of c.in_err-taken.field-0.0) (on_components (taken_as (type_view c.inner.result.now)) (value_of c.args.e.now)) (bitcast (type_view c.args.tplt.now) (value_of c.args.e.now))
          (λ r e. ap (λ (u : Ty). and_then (on_components (taken_as u) (value_of c.args.e.now)) (λ w. with_bytes_of w (type_view c.args.tplt.now))) (sym c.inner.ensures)
          ∙ ap (λ (o : Outcome Val). and_then o (λ w. with_bytes_of w (type_view c.args.tplt.now))) e) h,
    )

pub with_bytes_of-requires-clause-value : goal.with_bytes_of-requires-clause-value
with_bytes_of-requires-clause-value c =
    let taken : on_components (taken_as (inner_type (type_view c.args.tplt.now))) (value_of c.args.e.now) ≡ Ok (value_of c.in_ok-taken.taken) =
    ap (λ (u : Ty). on_components (taken_as u) (value_of c.args.e.now)) (sym c.inner.ensures) ∙ c.in_ok-taken.ensures in
    (value-taken (inner_type (type_view c.args.tplt.now)) (value_of c.args.e.now) (value_of c.in_ok-taken.taken) (inner-word (type_view c.args.tplt.now) c.requires.target) c.requires.well_formed taken).storable

pub with_bytes_of-requires-clause-laid : goal.with_bytes_of-requires-clause-laid
with_bytes_of-requires-clause-laid c =
    let taken : on_components (taken_as (inner_type (type_view c.args.tplt.now))) (value_of c.args.e.now) ≡ Ok (value_of c.in_ok-taken.taken) =
    ap (λ (u : Ty). on_components (taken_as u) (value_of c.args.e.now)) (sym c.inner.ensures) ∙ c.in_ok-taken.ensures in
    (value-taken (inner_type (type_view c.args.tplt.now)) (value_of c.args.e.now) (value_of c.in_ok-taken.taken) (inner-word (type_view c.args.tplt.now) c.requires.target) c.requires.well_formed taken).laid

pub returns-clause-value : goal.returns-clause-value
returns-clause-value c =
    let taken : on_components (taken_as (inner_type (type_view c.args.tplt.now))) (value_of c.args.e.now) ≡ Ok (value_of c.in_ok-taken.taken) =
    ap (λ (u : Ty). on_components (taken_as u) (value_of c.args.e.now)) (sym c.inner.ensures) ∙ c.in_ok-taken.ensures in
    subst (λ (o : Outcome Val). Gives value_of c.with_bytes_of.result (and_then o (λ w. with_bytes_of w (type_view c.args.tplt.now)))) (sym taken) c.with_bytes_of.ensures

pub returns-clause-storable : goal.returns-clause-storable
returns-clause-storable c =
    gives-storable c.with_bytes_of.result (bitcast (type_view c.args.tplt.now) (value_of c.args.e.now)) (λ x e. bitcast-storable (type_view c.args.tplt.now) (value_of c.args.e.now) x c.requires.well_formed e) (returns-clause-value c)
