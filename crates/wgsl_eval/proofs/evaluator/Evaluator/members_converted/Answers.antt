use Rattle.std.proofs.Common.{get_or}
use Rattle.wgsl_rules.specs.View.{type_view}
use Rattle.wgsl_eval.proofs.ConvertedLists.{member-converted, push-sound}
use Rattle.wgsl_eval.proofs.evaluator.Evaluator.members_converted.Goals as goal

pub loop-i-preserved : goal.loop-i-preserved
loop-i-preserved c =
    let m = c.index-members-i.result in
    let out = c.loop-i.converted.items in
    let o = c.in_ok-member.field-0 in
    record {
      counted = c.requires.count;
      converted = rw c.in_ok-push-in-Some.ensures.items
          (member-converted c.args.members.now c.args.values.now c.loop-i.i m c.index-values-i.result c.in-Some.member o out c.requires.sound c.loop-i-test.true
          c.requires.count c.index-values-i.is c.in_ok-member.ensures.value c.in-Some.is c.loop-i.invariant.converted);
      sound = rw c.in_ok-push-in-Some.ensures.items
          (push-sound out o c.in-Some.member (type_view (get_or c.args.members.now c.loop-i.i m).ty) c.loop-i.invariant.sound c.in_ok-member.ensures.some c.in-Some.is);
    }
