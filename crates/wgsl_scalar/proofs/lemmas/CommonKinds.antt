-- The kind that two numbers have in common, and the common type of their types.
use Rattle.std.proofs.Common.{refl}
use Rattle.wgsl_rules.specs.Kinds as kinds
use Rattle.wgsl_scalar.specs.Laws.{CommonKindsAreCommonTypes}

pub common_types : CommonKindsAreCommonTypes
common_types kinds.abstract_int kinds.abstract_int = refl
common_types kinds.abstract_int kinds.i32 = refl
common_types kinds.abstract_int kinds.u32 = refl
common_types kinds.abstract_int kinds.i64 = refl
common_types kinds.abstract_int kinds.u64 = refl
common_types kinds.i32 kinds.abstract_int = refl
common_types kinds.i32 kinds.i32 = refl
common_types kinds.i32 kinds.u32 = refl
common_types kinds.i32 kinds.i64 = refl
common_types kinds.i32 kinds.u64 = refl
common_types kinds.u32 kinds.abstract_int = refl
common_types kinds.u32 kinds.i32 = refl
common_types kinds.u32 kinds.u32 = refl
common_types kinds.u32 kinds.i64 = refl
common_types kinds.u32 kinds.u64 = refl
common_types kinds.i64 kinds.abstract_int = refl
common_types kinds.i64 kinds.i32 = refl
common_types kinds.i64 kinds.u32 = refl
common_types kinds.i64 kinds.i64 = refl
common_types kinds.i64 kinds.u64 = refl
common_types kinds.u64 kinds.abstract_int = refl
common_types kinds.u64 kinds.i32 = refl
common_types kinds.u64 kinds.u32 = refl
common_types kinds.u64 kinds.i64 = refl
common_types kinds.u64 kinds.u64 = refl
