-- The fields of structures of the host.
use Rattle.std.specs.Prelude.{ℕ, ◌+◌, ◌-◌, ◌/◌, ◌==◌, Option, Some, unwrap_or, if◌then◌else◌}

-- the bytes behind a value: what a member of this size has behind one of its type, and the padding behind the member
abbrev pub filled_behind : Option ℕ → Option ℕ → Option ℕ → ℕ
filled_behind (Some size) (Some of_type) padding = (size - of_type) + unwrap_or padding 0
filled_behind size of_type padding = 0

-- how many components of this size have room in so many bytes
abbrev pub components_in : Option ℕ → Option ℕ → ℕ
components_in (Some stride) (Some size) = if size == 0 then 0 else stride / size
components_in stride size = 0
