-- How many bytes values take, and how many elements find room, by a record (WGSL: structure member layout; buffer binding
-- determines runtime-sized array element count).
use Rattle.std.specs.Prelude.{ℕ, ◌+◌, ◌*◌, ◌-◌, ◌/◌, ◌^◌, Option, Some, None, nat_lt, nat_le, ◌==◌, if◌then◌else◌}
use Rattle.wgsl_rules.specs.Layout.{at_least_one}
use Rattle.wgsl_nodes.specs.declared.nodes.Node.{Node}

-- in bytes, below 2 ^ 64
abbrev pub length_of_node : ℕ → Node → Option ℕ
length_of_node count r =
    if r.tail_stride == 0 then Some r.size else (if nat_lt (count * r.tail_stride + r.tail_start) (2 ^ 64) then Some (count * r.tail_stride + r.tail_start) else None)

abbrev pub count_of_node : ℕ → Node → Option ℕ
count_of_node len r =
    if r.tail_stride == 0
    then (if nat_le r.size len then Some 0 else None)
    else (if nat_le r.tail_start len then at_least_one ((len - r.tail_start) / r.tail_stride) else None)
