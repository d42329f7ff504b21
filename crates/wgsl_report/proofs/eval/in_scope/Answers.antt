use Rattle.std.proofs.Common.{◌≡◌, List, ℕ, IfSome, string_bytes, subst, ◌∙◌}
use Rattle.wgsl_report.specs.Scopes.{IsLastValue, IsReadingOf, with_constant}
use Rattle.wgsl_report.proofs.Named.{outcome-of}
use Rattle.wgsl_report.proofs.eval.in_scope.Goals as goal

pub returns-in-Ok : goal.returns-in-Ok
returns-in-Ok c = λ text is.
    let source = c.args.module.now in
    let outline = c.in_ok-reading.reading in
    let found = c.in_ok-values.field-0 in
    let name = string_bytes c.args.with.now.name in
    let reads : IsReadingOf (with_constant source name text) outline = record {
      text_is = c.in_ok-reading.ensures.text ∙ c.as_str-text.ensures.value ∙ is;
      tokens = c.in_ok-reading.ensures.tokens;
      whole = c.in_ok-reading.ensures.pieces;
      pieces = c.in_ok-reading.ensures.holds;
      declarations = c.in_ok-reading.ensures.declarations;
      order = c.in_ok-reading.ensures.order;
    } in
    let named : c.as_str.result.now ≡ name = cc in
    let last =
    subst (λ (n : List ℕ). IfSome c.last_outcome-outcome.result (IsLastValue outline n found.values.items)) named c.last_outcome-outcome.ensures in
    outcome-of source text name c.args.settings outline c.as_slice-given.result.now found c.last_outcome-outcome.result reads c.in_ok-values.ensures.evaluated last
