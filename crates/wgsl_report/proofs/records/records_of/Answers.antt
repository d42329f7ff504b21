use Rattle.std.proofs.Common.{◌≡◌, List, ℕ, ◌⊎◌, IfSome, string_bytes, subst, ◌∙◌}
use Rattle.wgsl_rules.specs.Types.{Ty}
use Rattle.wgsl_eval.specs.declared.declarations.Item.{Item}
use Rattle.wgsl_report.specs.Records.{IfType, IsLast, IsTypeOf, IsVariable}
use Rattle.wgsl_report.specs.Scopes.{IsReadingOf, with_alias}
use Rattle.wgsl_report.proofs.Named.{either-of, if-type, records-of}
use Rattle.wgsl_report.proofs.records.records_of.Goals as goal

pub returns : goal.returns
returns c =
    let source = c.args.module.now in
    let text = c.args.ty.now in
    let settings = c.args.settings in
    let outline = c.in_ok-reading.reading in
    let declared = c.in_ok-items.field-0 in
    let name = string_bytes c.in_ok-text.field-0.name in
    let reads : IsReadingOf (with_alias source name text) outline = record {
      text_is = c.in_ok-reading.ensures.text ∙ c.as_str.ensures.value ∙ c.in_ok-text.ensures;
      tokens = c.in_ok-reading.ensures.tokens;
      whole = c.in_ok-reading.ensures.pieces;
      pieces = c.in_ok-reading.ensures.holds;
      declarations = c.in_ok-reading.ensures.declarations;
      order = c.in_ok-reading.ensures.order;
    } in
    let typed : (t : Ty) → IsVariable text t declared.items.items ⊎ IsLast name t declared.items.items → IsTypeOf source text settings t = λ t is. record {
      name = name;
      outline = outline;
      reads = reads;
      given = c.as_slice.result.now;
      found = declared;
      declared = c.in_ok-items.ensures.declared;
      is = is;
    } in
    let first-items : c.as_slice-2.result.now ≡ declared.items.items = cc in
    let last-items : c.as_slice-3.result.now ≡ declared.items.items = cc in
    let last-name : c.as_str-2.result.now ≡ name = cc in
    let variable = subst (λ (items : List Item). IfSome c.variable_named-variable.result (λ f. IfType f (λ t. IsVariable text t items))) first-items c.variable_named-variable.ensures in
    let last =
    subst (λ (n : List ℕ). IfType c.last_named.result (λ t. IsLast n t declared.items.items)) last-name
    (subst (λ (items : List Item). IfType c.last_named.result (λ t. IsLast c.as_str-2.result.now t items)) last-items c.last_named.ensures) in
    let either = either-of (λ t. IsVariable text t declared.items.items) (λ t. IsLast name t declared.items.items) c.variable_named-variable.result c.last_named.result c.unwrap_or-found.result c.unwrap_or-found.ensures variable last in
    records-of (IsTypeOf source text settings) c.unwrap_or-found.result c.records_with_names-records.result
    (if-type (λ t. IsVariable text t declared.items.items ⊎ IsLast name t declared.items.items) (IsTypeOf source text settings) c.unwrap_or-found.result typed either) c.records_with_names-records.ensures
