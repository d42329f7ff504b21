use Rattle.wgsl_layout.proofs.Making.{AreMade}
use Rattle.wgsl_layout.proofs.make.TypePlan.+type_plans.Given as goal

abbrev pub invariant-of_members-loop-member : goal.invariant-of_members-loop-member
invariant-of_members-loop-member l = AreMade l.members l.member-index l.places.items l.so_far
