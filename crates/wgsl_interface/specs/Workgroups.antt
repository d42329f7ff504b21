-- The memory of a workgroup (WebGPU: limits; compute pipeline creation).
use Rattle.std.specs.Prelude.{ℕ, List, sum_by}
use Rattle.std.specs.Int.{next_multiple_of}

-- each size is rounded up to a multiple of 16
abbrev pub workgroup_memory : List ℕ → ℕ
workgroup_memory sizes = sum_by (λ size. next_multiple_of size 16) sizes
