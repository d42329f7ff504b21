-- The types that a value holds, as the logic holds them, for the clauses on what a `&mut` lends.
use denote.RattleType.{RattleType}
use Rattle.std.specs.Prelude.{Option, option_map}
use Rattle.std.specs.Borrow.{MutBor}
use Rattle.std.specs.contracts.alloc.Global as global
use Rattle.std.specs.contracts.vec.Vec as vec
use Rattle.std.specs.contracts.impls.GlobalAllocator.TheImpl.{ghosts}
use Rattle.wgsl_rules.specs.Types.{Ty}
use Rattle.wgsl_rules.specs.Values.{type_of}
use Rattle.wgsl_values.specs.View.{value_of}
use Rattle.wgsl_values.specs.contracts.instance.Instance.{the_row}
use Rattle.wgsl_values.specs.declared.instance.Instance.{Instance}
use Rattle.wgsl_values.specs.declared.instance.Instance.TheViews.{roll-AtomicInstance}
use Rattle.wgsl_values.specs.declared.atomic.AtomicInstance.{AtomicInstance}

abbrev pub list_row : RattleType
list_row = vec.the_row the_row global.the_row ghosts

-- the atomic with w as what it holds
abbrev pub holding : AtomicInstance → Instance → AtomicInstance
holding a w = roll-AtomicInstance (record { content = record a.content { value = w } })

-- the type of the part that is lent, if one is
abbrev pub lent_type : Option (MutBor Instance) → Option Ty
lent_type = option_map (λ part. type_of (value_of part.now))
