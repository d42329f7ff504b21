-- Tables of what came first at each group and binding.
use Rattle.std.specs.Prelude.{ℕ, Option}
use Rattle.std.specs.BTreeMap.{get}
use Rattle.wgsl_interface.specs.declared.bindings.Binding.{Binding}
use Rattle.wgsl_interface.specs.declared.bindings.Firsts.{Firsts}
use Rattle.wgsl_interface.specs.contracts.bindings.BindingOrd.TheImpl.{cmp-value}

-- the number that came first there, if one came
abbrev pub number_at : Firsts → Binding → Option ℕ
number_at table binding = get cmp-value.it table.numbers binding
