-- What the parameters of functions take abstract integers as (WGSL: feasible automatic conversions; overload
-- resolution algorithm).
use Rattle.std.specs.Prelude.{◌≡◌, Bool, ◌&&◌, List, [], ◌∷◌, Option, Some, None, Result, Ok, Err, if◌then◌else◌}
use Rattle.wgsl_apply.specs.Literals.{component_of}
use Rattle.wgsl_rules.specs.Conversion.{concretized}
use Rattle.wgsl_rules.specs.Converted.{converted}
use Rattle.wgsl_rules.specs.Refusals.{Outcome, and_then, conv_overflow}
use Rattle.wgsl_rules.specs.Types as types
use Rattle.wgsl_rules.specs.Types.{Ty}
use Rattle.wgsl_rules.specs.Values.{Val, type_of}
use Rattle.wgsl_rules.specs.View.{type_view}
use Rattle.wgsl_rules.specs.declared.syntax.ShaderStage.{ShaderStage}
use Rattle.wgsl_scalar.specs.Operands.{ok_or}
use Rattle.wgsl_values.specs.View.{value_of}
use Rattle.wgsl_functions.specs.Functions.{bitcast_to, of_values}
use Rattle.wgsl_functions.specs.Standard.{is_abstract}
use Rattle.wgsl_functions.specs.declared.builtin.Builtin.{Builtin}
use Rattle.wgsl_functions.specs.declared.builtin.Builtin.TheVariants as functions
use Rattle.wgsl_functions.specs.declared.builtin.OfOne.{OfOne}
use Rattle.wgsl_functions.specs.declared.builtin.OfOne.TheVariants as ones
use Rattle.wgsl_functions.specs.declared.builtin.OfTwo.TheVariants as twos
use Rattle.wgsl_functions.specs.declared.builtin.OfThree.TheVariants as threes
use Rattle.wgsl_functions.specs.declared.parameters.Dialect.{Dialect}
use Rattle.wgsl_functions.specs.declared.parameters.Dialect.TheVariants as dialects
use Rattle.wgsl_functions.specs.declared.parameters.Parameter.{Parameter}
use Rattle.wgsl_functions.specs.declared.parameters.Parameter.TheVariants.{Any, I32OrU32, U32, FourI32, FourU32}
use Rattle.wgsl_functions.specs.declared.parameters.Unfit.{Unfit}

-- ---- the parameters of functions, where there is no overload for abstract integers

-- of a function of one value (WGSL: numeric builtin functions; data packing builtin functions; data unpacking builtin
-- functions)
abbrev pub of_one : OfOne → Parameter
of_one ones.CountLeadingZeros = I32OrU32
of_one ones.CountOneBits = I32OrU32
of_one ones.CountTrailingZeros = I32OrU32
of_one ones.FirstLeadingBit = I32OrU32
of_one ones.FirstTrailingBit = I32OrU32
of_one ones.ReverseBits = I32OrU32
of_one ones.Pack4xI8 = FourI32
of_one ones.Pack4xI8Clamp = FourI32
of_one ones.Pack4xU8 = FourU32
of_one ones.Pack4xU8Clamp = FourU32
of_one ones.Unpack4xI8 = U32
of_one ones.Unpack4xU8 = U32
of_one f = Any

-- an abstract integer, or a vector of them
abbrev pub is_of_abstract : Val → Bool
is_of_abstract v = is_abstract (component_of v 0)

-- e, newbits, offset and count. The first two are of one type: where one of them is concrete, the function converts the
-- other to that type (WGSL: insertBits)
abbrev pub of_inserted : List Val → List Parameter
of_inserted (e ∷ bits ∷ vs) =
    if is_of_abstract e && is_of_abstract bits then I32OrU32 ∷ I32OrU32 ∷ U32 ∷ U32 ∷ [] else Any ∷ Any ∷ U32 ∷ U32 ∷ []
of_inserted vs = Any ∷ Any ∷ U32 ∷ U32 ∷ []

-- those of a function that is called with the values, from the left; each after them takes its value as it is
abbrev pub parameters : Builtin → List Val → List Parameter
parameters (functions.One f) vs = of_one f ∷ []
parameters (functions.Two twos.Dot4U8Packed) vs = U32 ∷ U32 ∷ []
parameters (functions.Two twos.Dot4I8Packed) vs = U32 ∷ U32 ∷ []
parameters (functions.Three threes.ExtractBits) vs = I32OrU32 ∷ U32 ∷ U32 ∷ []
parameters functions.InsertBits vs = of_inserted vs
parameters f vs = []

-- ---- arguments

-- the type that a parameter takes abstract integers as. An i32 is nearer to them than a u32 (WGSL: conversion rank),
-- and is the concrete type of their own (WGSL: concretization)
abbrev pub type_for : Parameter → Val → Option Ty
type_for Any v = None
type_for I32OrU32 v = Some (concretized (type_of v))
type_for U32 v = Some types.u32
type_for FourI32 v = Some (types.vec 4 types.i32)
type_for FourU32 v = Some (types.vec 4 types.u32)

-- the value in the type, where there is one
abbrev pub in_type : Option Ty → Val → Outcome Val
in_type (Some t) v = ok_or (conv_overflow v t) (converted v t)
in_type None v = Ok v

-- abstract integers are converted where the parameter has a type for them, and every other value is taken as it is
abbrev pub taken_as : Parameter → Val → Outcome Val
taken_as p v = if is_of_abstract v then in_type (type_for p v) v else Ok v

-- each as its parameter takes it, or the first that is none of its type
abbrev pub each_taken : List Parameter → List Val → Outcome (List Val)
each_taken (p ∷ ps) (v ∷ vs) = and_then (taken_as p v) (λ w. and_then (each_taken ps vs) (λ ws. Ok (w ∷ ws)))
each_taken ps vs = Ok vs

-- the values of a call as the function takes them
abbrev pub arguments_in : Dialect → Builtin → List Val → Outcome (List Val)
arguments_in dialects.Wgsl f vs = each_taken (parameters f vs) vs
arguments_in dialects.Crate f vs = Ok vs

-- the value of a call as bitcast takes it
abbrev pub bitcast_argument_in : Dialect → Val → Outcome Val
bitcast_argument_in dialects.Wgsl v = taken_as I32OrU32 v
bitcast_argument_in dialects.Crate v = Ok v

-- what was made of arguments, or which is none of which type
abbrev pub IsTaken : {X A : Type 0} → (X → A) → Outcome A → Result X Unfit → Type 0
IsTaken view o (Ok x) = o ≡ Ok (view x)
IsTaken view o (Err u) = o ≡ Err (conv_overflow (value_of u.value) (type_view u.ty))

-- ---- calls

-- a function of the values, as it takes them
abbrev pub of_values_in : Dialect → Builtin → ShaderStage → List Val → Outcome Val
of_values_in d f stage vs = and_then (arguments_in d f vs) (of_values f stage)

-- the bits of the value, as bitcast takes it, as a value of the type
abbrev pub bitcast_in : Dialect → Ty → Val → Outcome Val
bitcast_in d t v = and_then (bitcast_argument_in d v) (bitcast_to t)
