-- What is asked of a variable itself (WGSL: address spaces; var declarations; resource interface).
use Rattle.std.specs.Prelude.{Bool, true, false, Option, Some, None}
use Rattle.wgsl_rules.specs.declared.syntax.AddressSpace.{AddressSpace}
use Rattle.wgsl_rules.specs.declared.syntax.AddressSpace.TheVariants as space
use Rattle.wgsl_rules.specs.declared.syntax.AccessMode.{AccessMode}
use Rattle.wgsl_rules.specs.declared.syntax.AccessMode.TheVariants as mode
use Rattle.wgsl_interface.specs.declared.rule.ShareRule.{ShareRule}
use Rattle.wgsl_interface.specs.declared.rule.ShareRule.TheVariants as rules

-- an access mode is given to a storage variable alone, and is none that only writes
abbrev pub access_rule : AddressSpace → Option AccessMode → Option ShareRule
access_rule s None = None
access_rule space.Storage (Some mode.Read) = None
access_rule space.Storage (Some mode.ReadWrite) = None
access_rule space.Storage (Some mode.Write) = Some rules.WriteAccess
access_rule s (Some access) = Some rules.AccessSpace

-- variables that are resources
abbrev pub is_of_resources : AddressSpace → Bool
is_of_resources space.Uniform = true
is_of_resources space.Storage = true
is_of_resources space.Handle = true
is_of_resources s = false

-- a resource has a group and a binding, and no other variable has
abbrev pub group_rule : Bool → Bool → Option ShareRule
group_rule true false = Some rules.GroupMissing
group_rule false true = Some rules.GroupSpace
group_rule true true = None
group_rule false false = None

abbrev pub binding_rule : Bool → Bool → Option ShareRule
binding_rule true false = Some rules.BindingMissing
binding_rule false true = Some rules.BindingSpace
binding_rule true true = None
binding_rule false false = None
