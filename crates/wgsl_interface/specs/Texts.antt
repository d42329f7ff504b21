-- The codes, sections and texts of the rules.
use Rattle.std.specs.Prelude.{ℕ, Bool, true, false, List, codes}
use Rattle.wgsl_interface.specs.declared.rule.ShareRule.{ShareRule}
use Rattle.wgsl_interface.specs.declared.rule.ShareRule.TheVariants as rules

-- the short word of a rule
abbrev pub rule_code : ShareRule → List ℕ
rule_code rules.Shape = codes "shape"
rule_code rules.NotPlain = codes "not-plain"
rule_code rules.Abstract = codes "abstract-type"
rule_code rules.AtomicContent = codes "atomic-content"
rule_code rules.RuntimeNotLast = codes "runtime-not-last"
rule_code rules.RuntimeInStruct = codes "runtime-in-struct"
rule_code rules.RuntimeInArray = codes "runtime-in-array"
rule_code rules.BoolShared = codes "bool-shared"
rule_code rules.RuntimeSpace = codes "runtime-space"
rule_code rules.AtomicSpace = codes "atomic-space"
rule_code rules.AtomicAccess = codes "atomic-access"
rule_code rules.NotHandle = codes "not-handle"
rule_code rules.WriteAccess = codes "write-access"
rule_code rules.AccessSpace = codes "access-space"
rule_code rules.GroupMissing = codes "group-missing"
rule_code rules.BindingMissing = codes "binding-missing"
rule_code rules.GroupSpace = codes "group-space"
rule_code rules.BindingSpace = codes "binding-space"
rule_code rules.SameBinding = codes "same-binding"

-- the section of the standard that has it
abbrev pub rule_section : ShareRule → List ℕ
rule_section rules.Shape = codes "composite types"
rule_section rules.NotPlain = codes "plain types"
rule_section rules.Abstract = codes "storable types"
rule_section rules.AtomicContent = codes "atomic types"
rule_section rules.RuntimeNotLast = codes "structure types"
rule_section rules.RuntimeInStruct = codes "structure types"
rule_section rules.RuntimeInArray = codes "array types"
rule_section rules.BoolShared = codes "host-shareable types"
rule_section rules.RuntimeSpace = codes "address spaces"
rule_section rules.AtomicSpace = codes "atomic types"
rule_section rules.AtomicAccess = codes "atomic types"
rule_section rules.NotHandle = codes "address spaces"
rule_section rules.WriteAccess = codes "address spaces"
rule_section rules.AccessSpace = codes "var declarations"
rule_section rules.GroupMissing = codes "resource interface"
rule_section rules.BindingMissing = codes "resource interface"
rule_section rules.GroupSpace = codes "resource interface"
rule_section rules.BindingSpace = codes "resource interface"
rule_section rules.SameBinding = codes "resource interface"

-- the rule in words
abbrev pub rule_text : ShareRule → List ℕ
rule_text rules.Shape = codes "a vector has 2 to 4 scalars, a matrix 2 to 4 columns and rows of numbers, an array an element, a structure a member"
rule_text rules.NotPlain = codes "a pointer, a reference, a texture or a sampler is no plain type"
rule_text rules.Abstract = codes "an abstract number is not stored"
rule_text rules.AtomicContent = codes "an atomic holds an i32 or a u32"
rule_text rules.RuntimeNotLast = codes "a runtime-sized array is the last member"
rule_text rules.RuntimeInStruct = codes "a structure that ends in a runtime-sized array is no member"
rule_text rules.RuntimeInArray = codes "an element of an array neither is nor ends in a runtime-sized array"
rule_text rules.BoolShared = codes "a bool is not shared with the host"
rule_text rules.RuntimeSpace = codes "a runtime-sized array stands in a storage variable alone"
rule_text rules.AtomicSpace = codes "an atomic stands in a storage or workgroup variable alone"
rule_text rules.AtomicAccess = codes "an atomic needs access read_write"
rule_text rules.NotHandle = codes "only a texture or a sampler has no address space"
rule_text rules.WriteAccess = codes "a storage variable has no access write"
rule_text rules.AccessSpace = codes "only a storage variable is given an access mode"
rule_text rules.GroupMissing = codes "a resource needs @group"
rule_text rules.BindingMissing = codes "a resource needs @binding"
rule_text rules.GroupSpace = codes "only a resource has @group"
rule_text rules.BindingSpace = codes "only a resource has @binding"
rule_text rules.SameBinding = codes "resources of one entry point differ in @group or @binding"

-- a rule of types, wherever they stand
abbrev pub is_of_each_type : ShareRule → Bool
is_of_each_type rules.Shape = true
is_of_each_type rules.NotPlain = true
is_of_each_type rules.Abstract = true
is_of_each_type rules.AtomicContent = true
is_of_each_type rules.RuntimeNotLast = true
is_of_each_type rules.RuntimeInStruct = true
is_of_each_type rules.RuntimeInArray = true
is_of_each_type rule = false
