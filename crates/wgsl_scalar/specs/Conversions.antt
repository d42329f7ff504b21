-- The kind that two numbers have in common (WGSL: conversion rank).
use Rattle.std.specs.Prelude.{Bool, true, false, Option, Some, None, if◌then◌else◌}
use Rattle.wgsl_rules.specs.Kinds as kinds
use Rattle.wgsl_rules.specs.Kinds.{Kind}

-- numbers of the first kind convert to the second
abbrev pub converts : Kind → Kind → Bool
converts kinds.abstract_int kinds.abstract_int = true
converts kinds.abstract_int kinds.i32 = true
converts kinds.abstract_int kinds.u32 = true
converts kinds.i32 kinds.i32 = true
converts kinds.u32 kinds.u32 = true
converts kinds.i64 kinds.i64 = true
converts kinds.u64 kinds.u64 = true
converts s t = false

-- the second kind where the first converts to it, else the first where the second does
abbrev pub common_kind : Kind → Kind → Option Kind
common_kind s t = if converts s t then Some t else (if converts t s then Some s else None)
