-- Why a call is refused, as contracts see it: each case of the errors but want of memory.
use Rattle.std.specs.Prelude.{ℕ, List, Result, Ok, Err}
use Rattle.wgsl_rules.specs.Types.{Ty}
use Rattle.wgsl_rules.specs.Values.{Val}
use Rattle.wgsl_rules.specs.declared.syntax.UnaryOperator.{UnaryOperator}
use Rattle.wgsl_rules.specs.declared.syntax.BinaryOperator.{BinaryOperator}

pub data Refusal : Type 0 where
  not_read : Refusal
  not_write : Refusal
  not_read_write : Refusal
  ptr_handle : Refusal
  ptr_vec_comp : Refusal
  -- the type of the value, and of the reference
  write_ref_type : Ty → Ty → Refusal
  -- the type without that member, and the name
  component : Ty → List ℕ → Refusal
  not_indexable : Ty → Refusal
  -- the index, the type, and how many parts it has
  out_of_bounds : ℕ → Ty → ℕ → Refusal
  conv_overflow : Val → Ty → Refusal
  unary : UnaryOperator → Ty → Refusal
  binary : BinaryOperator → Ty → Ty → Refusal
  compwise_binary : Ty → Ty → Refusal
  add_overflow : Refusal
  sub_overflow : Refusal
  mul_overflow : Refusal
  div_by_zero : Refusal
  rem_zero_div : Refusal
  shl_overflow : ℕ → Val → Refusal
  shr_overflow : ℕ → Val → Refusal
  param_type : Ty → Ty → Refusal
  builtin : Refusal
  -- the name of the builtin
  todo : List ℕ → Refusal

-- an answer, or why there is none
abbrev pub Outcome : Type 0 → Type 0
Outcome A = Result A Refusal

-- the next outcome, where there is an answer
abbrev pub and_then : {A B : Type 0} → Outcome A → (A → Outcome B) → Outcome B
and_then (Ok x) f = f x
and_then (Err e) f = Err e
