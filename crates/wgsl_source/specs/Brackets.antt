-- Brackets without their ends (WGSL: syntactic tokens).
use Rattle.std.specs.Prelude.{ℕ, ◌+◌, ◌-◌, ◌^◌, min, ◌==◌, nat_lt, Option, Some, None, if◌then◌else◌}
use Rattle.wgsl_source.specs.declared.cursor.Brackets.{Brackets}

-- how many of one sort have no end behind a character; what more there are than a number holds are not counted
abbrev pub open_behind : ℕ → ℕ → ℕ → ℕ → ℕ
open_behind begin end count character =
    if character == begin then min (count + 1) (2 ^ 64 - 1) else if character == end then count - 1 else count

-- those of all sorts: 123 and 125 are braces, 40 and 41 round brackets, 91 and 93 square ones
abbrev pub brackets_behind : Brackets → ℕ → Brackets
brackets_behind b character = record {
  braces = open_behind 123 125 b.braces character;
  round = open_behind 40 41 b.round character;
  square = open_behind 91 93 b.square character;
}

-- the end that is wanting, of a brace before others, and of a round bracket before a square one
abbrev pub wanting_end : Brackets → Option ℕ
wanting_end b =
    if nat_lt 0 b.braces then Some 125 else if nat_lt 0 b.round then Some 41 else if nat_lt 0 b.square then Some 93 else None
