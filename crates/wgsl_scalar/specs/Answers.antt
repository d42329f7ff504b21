-- Why a call is refused, and how a call answers a definition.
use Rattle.std.specs.Prelude.{◌≡◌, ℕ, Option, Some, None, Result, Ok, Err, MatchOption, IsSomeAnd, string_bytes}
use Rattle.wgsl_rules.specs.Refusals as refusals
use Rattle.wgsl_rules.specs.Refusals.{Refusal, Outcome}
use Rattle.wgsl_rules.specs.View.{type_view}
use Rattle.wgsl_scalar.specs.Literals.{literal_of}
use Rattle.wgsl_scalar.specs.Builtins.{builtin_text}
use Rattle.wgsl_scalar.specs.declared.builtin.BuiltinReason.{BuiltinReason}
use Rattle.wgsl_scalar.specs.declared.error.Error.{Error}
use Rattle.wgsl_scalar.specs.declared.error.Error.TheVariants as errors

-- the refusal that an error stands for: none for want of memory
abbrev pub refusal_of : Error → Option Refusal
refusal_of errors.Memory = None
refusal_of errors.NotRead = Some refusals.not_read
refusal_of errors.NotWrite = Some refusals.not_write
refusal_of errors.NotReadWrite = Some refusals.not_read_write
refusal_of errors.PtrHandle = Some refusals.ptr_handle
refusal_of errors.PtrVecComp = Some refusals.ptr_vec_comp
refusal_of (errors.WriteRefType s t) = Some (refusals.write_ref_type (type_view s) (type_view t))
refusal_of (errors.Component t name) = Some (refusals.component (type_view t) (string_bytes name))
refusal_of (errors.NotIndexable t) = Some (refusals.not_indexable (type_view t))
refusal_of (errors.OutOfBounds i t n) = Some (refusals.out_of_bounds i (type_view t) n)
refusal_of (errors.ConvOverflow a t) = Some (refusals.conv_overflow (literal_of a) (type_view t))
refusal_of (errors.Unary op t) = Some (refusals.unary op (type_view t))
refusal_of (errors.Binary op s t) = Some (refusals.binary op (type_view s) (type_view t))
refusal_of (errors.CompwiseBinary s t) = Some (refusals.compwise_binary (type_view s) (type_view t))
refusal_of errors.AddOverflow = Some refusals.add_overflow
refusal_of errors.SubOverflow = Some refusals.sub_overflow
refusal_of errors.MulOverflow = Some refusals.mul_overflow
refusal_of errors.DivByZero = Some refusals.div_by_zero
refusal_of errors.RemZeroDiv = Some refusals.rem_zero_div
refusal_of (errors.ShlOverflow r a) = Some (refusals.shl_overflow r (literal_of a))
refusal_of (errors.ShrOverflow r a) = Some (refusals.shr_overflow r (literal_of a))
refusal_of (errors.ParamType s t) = Some (refusals.param_type (type_view s) (type_view t))
refusal_of (errors.Builtin reason) = Some refusals.builtin
refusal_of (errors.Todo name) = Some (refusals.todo (builtin_text name))

-- what a builtin function refuses in its arguments, which its refusal leaves out
abbrev pub builtin_reason_of : Error → Option BuiltinReason
builtin_reason_of (errors.Builtin reason) = Some reason
builtin_reason_of e = None

-- the call gives what the definition says, or memory was wanting
abbrev pub Gives : {X A : Type 0} → (X → A) → Result X Error → Outcome A → Type 0
Gives view (Ok x) outcome = outcome ≡ Ok (view x)
Gives view (Err e) outcome = MatchOption (refusal_of e) (Unit {0}) (λ r. outcome ≡ Err r)

-- the call takes no memory, and gives what the definition says
abbrev pub Answers : {X A : Type 0} → (X → A) → Result X Error → Outcome A → Type 0
Answers view (Ok x) outcome = outcome ≡ Ok (view x)
Answers view (Err e) outcome = IsSomeAnd (refusal_of e) (λ r. outcome ≡ Err r)

-- the number of an error in the list of errors, want of memory first
abbrev pub refusal_number : Refusal → ℕ
refusal_number refusals.not_read = 2
refusal_number refusals.not_write = 3
refusal_number refusals.not_read_write = 4
refusal_number refusals.ptr_handle = 5
refusal_number refusals.ptr_vec_comp = 6
refusal_number (refusals.write_ref_type s t) = 7
refusal_number (refusals.component t name) = 8
refusal_number (refusals.not_indexable t) = 9
refusal_number (refusals.out_of_bounds i t n) = 10
refusal_number (refusals.conv_overflow v t) = 11
refusal_number (refusals.unary op t) = 12
refusal_number (refusals.binary op s t) = 13
refusal_number (refusals.compwise_binary s t) = 14
refusal_number refusals.add_overflow = 15
refusal_number refusals.sub_overflow = 16
refusal_number refusals.mul_overflow = 17
refusal_number refusals.div_by_zero = 18
refusal_number refusals.rem_zero_div = 19
refusal_number (refusals.shl_overflow r v) = 20
refusal_number (refusals.shr_overflow r v) = 21
refusal_number (refusals.param_type s t) = 22
refusal_number refusals.builtin = 23
refusal_number (refusals.todo name) = 24

abbrev pub error_number : Option Refusal → ℕ
error_number None = 1
error_number (Some r) = refusal_number r
