use Rattle.std.proofs.Common.{List, [], map, subst, sym, arith}
use Rattle.wgsl_source.specs.Blanks.{IsCut}
use Rattle.wgsl_source.specs.Blanks.IsCut.{blank}
use Rattle.wgsl_source.specs.Readings.{extent_in}
use Rattle.wgsl_source.specs.declared.fault.Fault.{Fault}
use Rattle.wgsl_source.specs.declared.token.Token.{Token}
use Rattle.wgsl_source.proofs.BlankLemmas.{blank_byte}
use Rattle.wgsl_source.proofs.lexer.tokens_of.Goals as goal

pub loop-start-init : goal.loop-start-init
loop-start-init c =
    let bytes = c.as_bytes-bytes.result.now in
    let P : List Token → Type 0 = λ ts. IsCut bytes (map extent_in ts) [] c.byte_order_mark_len-start.result in
    let Q : List Fault → Type 0 = λ fs. IsCut bytes (map extent_in c.new.result.items) fs c.byte_order_mark_len-start.result in
    let cut = subst P (sym c.new.ensures.items) c.byte_order_mark_len-start.ensures.cut in
    record { within = c.byte_order_mark_len-start.ensures.within; cut = subst Q (sym c.new-2.ensures.items) cut }

pub loop-start-preserved-then-is_blank : goal.loop-start-preserved-then-is_blank
loop-start-preserved-then-is_blank c = record {
  within = omega arith;
  cut =
      blank c.loop-start.invariant.cut (omega arith) (omega arith)
      (blank_byte c.as_bytes-bytes.result.now c.loop-start.start c.class_of-class.result (omega arith) c.class_of-class.ensures (c.is_blank.ensures.0 c.if-is_blank.true));
}
