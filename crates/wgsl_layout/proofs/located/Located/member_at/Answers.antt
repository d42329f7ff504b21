use Rattle.std.proofs.Common.{refl, arith}
use Rattle.wgsl_layout.proofs.Locating.{place-below, member-there, member-range}
use Rattle.wgsl_layout.proofs.located.Located.member_at.Goals as goal

pub bounds-places-i : goal.bounds-places-i
bounds-places-i c = place-below c.args.members.now c.args.places.now c.args.i c.args.self.count c.args.self.start c.args.self.len c.requires.below c.requires.there

pub overflow_add-result : goal.overflow_add-result
overflow_add-result c =
    let there =
    member-there c.args.members.now c.args.places.now c.args.i c.args.self.count c.args.self.start c.args.self.len c.index-members-i.result c.index-places-i.result c.requires.below c.requires.there c.index-members-i.is c.index-places-i.is in
    omega (arith, there.inside)

pub returns-clause-range : goal.returns-clause-range
returns-clause-range c =
    member-range c.args.members.now c.args.places.now c.args.i c.args.self.count c.args.self.start c.args.self.len c.index-members-i.result c.index-places-i.result c.requires.below c.requires.there c.index-members-i.is c.index-places-i.is
    c.requires.planned

pub returns-clause-there : goal.returns-clause-there
returns-clause-there c = record {
  there = member-there c.args.members.now c.args.places.now c.args.i c.args.self.count c.args.self.start c.args.self.len c.index-members-i.result c.index-places-i.result c.requires.below c.requires.there c.index-members-i.is c.index-places-i.is;
  len = refl;
  count = refl;
}
