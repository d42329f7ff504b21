use Rattle.std.proofs.Common.{rules, ◌≡◌, length, Some, option_map, ap, ◌∙◌}
use Rattle.wgsl_rules.specs.Layout.{size}
use Rattle.wgsl_rules.specs.Refusals.{builtin}
use Rattle.wgsl_rules.specs.View.{type_view}
use Rattle.wgsl_scalar.specs.Operands.{ok_or}
use Rattle.wgsl_layout.specs.Buffers.{buffer_of, IsReadOf}
use Rattle.wgsl_values.specs.View.{value_of}
use Rattle.wgsl_value_builtins.proofs.Bytes.{cast_bytes}
use Rattle.wgsl_value_builtins.proofs.bitcast.with_bytes_of.Goals as goal

pub returns-in-Some-2 : goal.returns-in-Some-2
returns-in-Some-2 c =
    let bytes : Some c.in-Some.bytes.items ≡ buffer_of (value_of c.args.value.now) = search rules in
    let many : length c.in-Some.bytes.items ≡ size (type_view c.args.ty.now) = search rules in
    let read : IsReadOf c.in-Some.bytes.items (type_view c.args.ty.now) (option_map value_of c.in_ok-cast.field-0) = search rules in
    cast_bytes (value_of c.args.value.now) (type_view c.args.ty.now) c.in-Some.bytes.items (option_map value_of c.in_ok-cast.field-0) c.requires.value c.requires.laid bytes many read
    ∙ ap (λ o. ok_or builtin (option_map value_of o)) c.in-Some-2.is

pub returns : goal.returns
returns c =
    let bytes : Some c.in-Some.bytes.items ≡ buffer_of (value_of c.args.value.now) = search rules in
    let many : length c.in-Some.bytes.items ≡ size (type_view c.args.ty.now) = search rules in
    let read : IsReadOf c.in-Some.bytes.items (type_view c.args.ty.now) (option_map value_of c.in_ok-cast.field-0) = search rules in
    cast_bytes (value_of c.args.value.now) (type_view c.args.ty.now) c.in-Some.bytes.items (option_map value_of c.in_ok-cast.field-0) c.requires.value c.requires.laid bytes many read
    ∙ ap (λ o. ok_or builtin (option_map value_of o)) c.in-None-2.is
