-- The first of the members that break a rule breaks the first rule of the structure.
use Rattle.std.proofs.Common.{◌≡◌, ◌+◌, ◌++◌, ℕ, List, Option, Some, None, refl}
use Rattle.std.specs.Option.{option_or}
use Rattle.wgsl_rules.specs.Types.{Fields, no_fields, field}
use Rattle.wgsl_rules.specs.Size.{extent_in, offset_after, end_after}
use Rattle.wgsl_rules.specs.Uniform.{fault_at, faults_behind, first_rule, member_rule, members_rule, least_behind}
use Rattle.wgsl_rules.specs.declared.uniform.UniformFault.{UniformFault}
use Rattle.wgsl_rules.specs.declared.uniform.UniformRule.{UniformRule}

first_in_front : (i : ℕ) (o : Option UniformRule) (faults : List UniformFault) (rest : Option UniformRule)
    → first_rule faults ≡ rest → first_rule (fault_at i o ++ faults) ≡ option_or o rest
first_in_front i None faults rest h = h
first_in_front i (Some rule) faults rest h = refl

pub first_is : (i : ℕ) (from : Option ℕ) (least : ℕ) (fs : Fields) → first_rule (faults_behind i from least fs) ≡ members_rule from least fs
first_is i from least no_fields = refl
first_is i from least (field name t s a fs) =
    let offset = offset_after from (extent_in t s a) in
    first_in_front i (member_rule (record { name = name; ty = t; size = s; align = a }) offset least)
    (faults_behind (i + 1) (end_after from (extent_in t s a)) (least_behind t offset) fs)
    (members_rule (end_after from (extent_in t s a)) (least_behind t offset) fs)
    (first_is (i + 1) (end_after from (extent_in t s a)) (least_behind t offset) fs)
