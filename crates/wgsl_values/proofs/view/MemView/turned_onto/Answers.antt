use Rattle.std.proofs.Common.{◌≡◌, ◌∷◌, string_bytes}
use Rattle.std.specs.Box.{with_value}
use Rattle.wgsl_rules.specs.Values.{member, index}
use Rattle.wgsl_values.specs.View.{steps_of}
use Rattle.wgsl_values.specs.declared.view.MemView.{Member, Index}
use Rattle.wgsl_values.proofs.Turned.{turned_member, turned_index}
use Rattle.wgsl_values.proofs.lemmas.Views.{steps_of-Member, steps_of-Index}
use Rattle.wgsl_values.proofs.view.MemView.turned_onto.Goals as goal

pub loop-self-preserved-in-Member : goal.loop-self-preserved-in-Member
loop-self-preserved-in-Member c =
    let name = c.in-Member.name in
    let rest = c.in-Member.rest in
    let before = c.loop-self.invariant in
    let is = c.in-Member.is in
    let turned = turned_member name rest (steps_of c.loop-self.done) in
    let taken = c.replace-self.ensures.value in
    let lent = c.deref_mut.ensures.value in
    let after = c.replace-self.ensures.after in
    let behind : steps_of (Member name (with_value rest c.replace-self.new.dest)) ≡ member (string_bytes name) ∷ steps_of c.replace-self.new.dest = steps_of-Member name (with_value rest c.replace-self.new.dest) in
    cc

pub loop-self-preserved : goal.loop-self-preserved
loop-self-preserved c =
    let i = c.in-Index.i in
    let rest = c.in-Index.rest in
    let before = c.loop-self.invariant in
    let is = c.in-Index.is in
    let turned = turned_index i rest (steps_of c.loop-self.done) in
    let taken = c.replace-self-in-Index.ensures.value in
    let lent = c.deref_mut-in-Index.ensures.value in
    let after = c.replace-self-in-Index.ensures.after in
    let behind : steps_of (Index i (with_value rest c.replace-self-in-Index.new.dest)) ≡ index i ∷ steps_of c.replace-self-in-Index.new.dest = steps_of-Index i (with_value rest c.replace-self-in-Index.new.dest) in
    cc
