use Rattle.std.proofs.Common.{rules, arith, ◌≡◌, ◌∙◌, true, Option, Some, option_map, sym, ap, subst}
use Rattle.std.specs.Prelude.{IfSome}
use Rattle.wgsl_rules.specs.Converted.{converted}
use Rattle.wgsl_rules.specs.InCommon.{in_common, pair_view}
use Rattle.wgsl_rules.specs.Values.{IsWellFormed, type_of}
use Rattle.wgsl_value_builtins.proofs.LogicalAnswers.{selected_by-storable, selected-storable}
use Rattle.wgsl_value_builtins.proofs.OwnTypes.{selected-own}
use Rattle.wgsl_value_builtins.proofs.Picked.{common-storable-pair}
use Rattle.wgsl_value_builtins.proofs.SoFar.{gives-storable}
use Rattle.wgsl_value_builtins.specs.Logical.{is_known, selected, selected_by}
use Rattle.wgsl_values.specs.View.{value_of}
use Rattle.wgsl_values.specs.declared.instance.Instance.{Instance}
use Rattle.wgsl_value_builtins.proofs.logical.select.Goals as goal

pub selected_by-requires-clause-first : goal.selected_by-requires-clause-first
selected_by-requires-clause-first c =
    let f : is_known (value_of c.args.f.now) ≡ true = first_of (search rules, grind arith) in
    let t : is_known (value_of c.args.t.now) ≡ true = first_of (search rules, grind arith) in
    let common : in_common converted (value_of c.args.f.now) (value_of c.args.t.now) ≡ Some (value_of c.in-Some.f, value_of c.in-Some.t) = sym c.in_ok-f.ensures.value ∙ ap (option_map (pair_view value_of value_of)) c.in-Some.is in
    let well = subst (λ (o : Option (Instance × Instance)). IfSome o (λ p. IsWellFormed (value_of p.0) × IsWellFormed (value_of p.1))) c.in-Some.is c.in_ok-f.ensures.well_formed in
    (common-storable-pair (value_of c.args.f.now) (value_of c.args.t.now) (value_of c.in-Some.f) (value_of c.in-Some.t) f t common well.0 well.1).first

pub selected_by-requires-clause-second : goal.selected_by-requires-clause-second
selected_by-requires-clause-second c =
    let f : is_known (value_of c.args.f.now) ≡ true = first_of (search rules, grind arith) in
    let t : is_known (value_of c.args.t.now) ≡ true = first_of (search rules, grind arith) in
    let common : in_common converted (value_of c.args.f.now) (value_of c.args.t.now) ≡ Some (value_of c.in-Some.f, value_of c.in-Some.t) = sym c.in_ok-f.ensures.value ∙ ap (option_map (pair_view value_of value_of)) c.in-Some.is in
    let well = subst (λ (o : Option (Instance × Instance)). IfSome o (λ p. IsWellFormed (value_of p.0) × IsWellFormed (value_of p.1))) c.in-Some.is c.in_ok-f.ensures.well_formed in
    (common-storable-pair (value_of c.args.f.now) (value_of c.args.t.now) (value_of c.in-Some.f) (value_of c.in-Some.t) f t common well.0 well.1).second

pub returns-in-Some-clause-storable : goal.returns-in-Some-clause-storable
returns-in-Some-clause-storable c =
    let f : is_known (value_of c.args.f.now) ≡ true = first_of (search rules, grind arith) in
    let t : is_known (value_of c.args.t.now) ≡ true = first_of (search rules, grind arith) in
    let common : in_common converted (value_of c.args.f.now) (value_of c.args.t.now) ≡ Some (value_of c.in-Some.f, value_of c.in-Some.t) = sym c.in_ok-f.ensures.value ∙ ap (option_map (pair_view value_of value_of)) c.in-Some.is in
    let well = subst (λ (o : Option (Instance × Instance)). IfSome o (λ p. IsWellFormed (value_of p.0) × IsWellFormed (value_of p.1))) c.in-Some.is c.in_ok-f.ensures.well_formed in
    let typed = subst (λ (o : Option (Instance × Instance)). IfSome o (λ p. type_of (value_of p.0) ≡ type_of (value_of p.1))) c.in-Some.is c.in_ok-f.ensures.one_type in
    let s = common-storable-pair (value_of c.args.f.now) (value_of c.args.t.now) (value_of c.in-Some.f) (value_of c.in-Some.t) f t common well.0 well.1 in
    gives-storable c.selected_by.result (selected_by (value_of c.args.cond.now) (value_of c.in-Some.f) (value_of c.in-Some.t))
    (λ x e. selected_by-storable (value_of c.args.cond.now) (value_of c.in-Some.f) (value_of c.in-Some.t) x s.first s.second typed e) c.selected_by.ensures

pub returns-then-are_of_one_type-clause-value : goal.returns-then-are_of_one_type-clause-value
returns-then-are_of_one_type-clause-value c =
    let f : is_known (value_of c.args.f.now) ≡ true = first_of (search rules, grind arith) in
    let t : is_known (value_of c.args.t.now) ≡ true = first_of (search rules, grind arith) in
    let typed = c.are_of_one_type.ensures c.if-are_of_one_type.true in
    rw (selected-own (value_of c.args.f.now) (value_of c.args.t.now) (value_of c.args.cond.now) f t c.requires.first c.requires.second typed) c.copied_by.ensures

pub returns-then-are_of_one_type-clause-storable : goal.returns-then-are_of_one_type-clause-storable
returns-then-are_of_one_type-clause-storable c =
    gives-storable c.copied_by.result (selected (value_of c.args.f.now) (value_of c.args.t.now) (value_of c.args.cond.now))
    (λ x e. selected-storable (value_of c.args.f.now) (value_of c.args.t.now) (value_of c.args.cond.now) x c.requires.first c.requires.second c.requires.condition e) (returns-then-are_of_one_type-clause-value c)
