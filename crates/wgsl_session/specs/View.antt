-- What calls, and what they answer, stand for in the model.
use Rattle.std.specs.Prelude.{List, Option, Some, None, Result, Ok, Err, option_map, string_bytes}
use Rattle.wgsl_rules.specs.Values.{Val}
use Rattle.wgsl_scalar.specs.Answers.{refusal_of, builtin_reason_of}
use Rattle.wgsl_scalar.specs.declared.builtin.BuiltinReason.{BuiltinReason}
use Rattle.wgsl_store.specs.Memory.{IsContent}
use Rattle.wgsl_values.specs.View.{value_of}
use Rattle.wgsl_session.specs.Calls as model
use Rattle.wgsl_session.specs.declared.call.Call.{Call}
use Rattle.wgsl_session.specs.declared.call.Call.TheVariants as calls
use Rattle.wgsl_session.specs.declared.call.Reply.{Reply}
use Rattle.wgsl_session.specs.declared.call.Reply.TheVariants as replies
use Rattle.wgsl_session.specs.declared.call.Fault.{Fault}
use Rattle.wgsl_session.specs.declared.call.Fault.TheVariants as faults

abbrev pub call_of : Call → model.Call
call_of (calls.New v space access) = model.new (value_of v) space access
call_of (calls.NewOf h space access) = model.new_of h space access
call_of (calls.Member h name) = model.member h (string_bytes name)
call_of (calls.Index h i) = model.index h i
call_of (calls.Read h) = model.read_of h
call_of (calls.Write h v) = model.write h (value_of v)
call_of (calls.Replace h v) = model.replace h (value_of v)
call_of (calls.Copy from to) = model.copy from to
call_of (calls.Load h) = model.load_of h

abbrev pub reply_of : Reply → model.Answer
reply_of (replies.Handle n) = model.handle n
reply_of (replies.Value v) = model.value (value_of v)
reply_of replies.Done = model.done

-- want of memory is no answer
abbrev pub fault_of : Fault → Option model.Answer
fault_of faults.NoHandle = Some model.no_handle
fault_of (faults.Of e) = option_map model.refused (refusal_of e)

abbrev pub answer_of : Result Reply Fault → Option model.Answer
answer_of (Ok reply) = Some (reply_of reply)
answer_of (Err fault) = fault_of fault

-- what a builtin function refuses in its arguments, which its refusal leaves out
abbrev pub reason_of : Fault → Option BuiltinReason
reason_of faults.NoHandle = None
reason_of (faults.Of e) = builtin_reason_of e

-- a value that is answered may be put into a cell: it may be stored, and what it refers to is kept
abbrev pub IsContentReply : List Val → Reply → Type 0
IsContentReply cells (replies.Value v) = IsContent cells (value_of v)
IsContentReply cells reply = Unit {0}
