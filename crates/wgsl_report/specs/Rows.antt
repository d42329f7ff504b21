-- The rows of a structure's table.
use Rattle.std.specs.Prelude.{ℕ, ◌+◌, ◌≡◌, ◌<◌, Some}
use Rattle.wgsl_rules.specs.declared.places.MemberLayout.{MemberLayout}
use Rattle.wgsl_report.specs.declared.rows.PaddingRow.{PaddingRow}

-- a row tells the bytes behind a member, of a structure that begins at `base`
pub record IsPaddingBehind (depth base : ℕ) (layout : MemberLayout) (row : PaddingRow) : Type 0 where
  pub depth_is : row.depth ≡ depth
  pub size_is : layout.padding ≡ Some row.size
  pub some : 0 < row.size
  pub offset_is : (offset size : ℕ) → layout.offset ≡ Some offset → layout.size ≡ Some size → row.offset ≡ (base + offset) + size
