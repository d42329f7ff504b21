use Rattle.std.proofs.Common.{◌∙◌, List, ℕ, Some, ap, sym}
use Rattle.wgsl_rules.specs.Values.{type_of}
use Rattle.wgsl_values.specs.View.{value_of}
use Rattle.wgsl_layout.proofs.Totals.{buffer_of-is}
use Rattle.wgsl_layout.proofs.writer.write_buffer.Goals as goal

pub write_whole-requires : goal.write_whole-requires
write_whole-requires c =
    let v = value_of c.args.value.now in
    let laid = sym c.in_ok-ty.ensures.layout ∙ c.if-not-ty.false in
    record { storable = c.requires; planned = c.in_ok-ty.ensures.plan; extent = c.extent.ensures (type_of v) c.in_ok-ty.ensures laid; laid = laid }

pub returns : goal.returns
returns c =
    ap (λ (b : List ℕ). Some b) c.in_ok-write_whole.ensures
    ∙ sym (buffer_of-is (value_of c.args.value.now) c.requires (sym c.in_ok-ty.ensures.layout ∙ c.if-not-ty.false))
