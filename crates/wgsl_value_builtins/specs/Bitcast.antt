-- Values with the bytes of others (WGSL: bit reinterpretation builtin functions).
use Rattle.std.specs.Prelude.{Bool, true, false, ◌&&◌, ◌==◌, if◌then◌else◌, IsTrue, length, Ok, Err}
use Rattle.wgsl_rules.specs.Converted.{converted}
use Rattle.wgsl_rules.specs.Kinds as kinds
use Rattle.wgsl_rules.specs.Layout.{is_from_2_to_4, size}
use Rattle.wgsl_rules.specs.Refusals.{Outcome, and_then, builtin, conv_overflow}
use Rattle.wgsl_rules.specs.TypeParts.{inner_type}
use Rattle.wgsl_rules.specs.Types as types
use Rattle.wgsl_rules.specs.Types.{Ty}
use Rattle.wgsl_rules.specs.Values.{Val, number}
use Rattle.wgsl_scalar.specs.Operands.{ok_or}
use Rattle.wgsl_layout.specs.Buffers.{buffer, decode}
use Rattle.wgsl_value_builtins.specs.Lifts.{on_components}

abbrev pub is_word_type : Ty → Bool
is_word_type types.i32 = true
is_word_type types.u32 = true
is_word_type t = false

-- an i32, a u32, or a vector of them
abbrev pub is_bitcast_target : Ty → Bool
is_bitcast_target (types.vec n t) = is_from_2_to_4 n && is_word_type t
is_bitcast_target t = is_word_type t

abbrev pub IsBitcastTarget : Ty → Type 0
IsBitcastTarget t = IsTrue (is_bitcast_target t)

-- a number; an abstract one is taken as one of the type
abbrev pub taken_as : Ty → Val → Outcome Val
taken_as t (number kinds.abstract_int z) =
    ok_or (conv_overflow (number kinds.abstract_int z) t) (converted (number kinds.abstract_int z) t)
taken_as t (number k z) = Ok (number k z)
taken_as t v = Err builtin

-- the value of the type with the bytes of v, of which there must be as many as it has
abbrev pub with_bytes_of : Val → Ty → Outcome Val
with_bytes_of v t = if length (buffer v) == size t then ok_or builtin (decode (buffer v) t) else Err builtin

-- WGSL: bitcast
abbrev pub bitcast : Ty → Val → Outcome Val
bitcast t v = and_then (on_components (taken_as (inner_type t)) v) (λ w. with_bytes_of w t)
