-- The line that a script's line is answered.
use Rattle.std.specs.Prelude.{ℕ, List, [], ◌∷◌, ◌++◌, Option, Some, None, Result, Ok, Err, codes, option_map}
use Rattle.std.specs.Fmt.{decimal}
use Rattle.wgsl_script.specs.Hexadecimal.{hexadecimal}
use Rattle.wgsl_values.specs.Texts.{text_of_value}
use Rattle.wgsl_values.specs.View.{value_of}
use Rattle.wgsl_scalar.specs.declared.error.Error.{Error}
use Rattle.wgsl_scalar.specs.declared.error.Error.TheVariants as errors
use Rattle.wgsl_session.specs.declared.call.Reply.{Reply}
use Rattle.wgsl_session.specs.declared.call.Reply.TheVariants as replies
use Rattle.wgsl_session.specs.declared.call.Fault.TheVariants as faults
use Rattle.wgsl_script.specs.declared.answer.Answer.{Answer}
use Rattle.wgsl_script.specs.declared.answer.Answer.TheVariants as answers
use Rattle.wgsl_script.specs.declared.stop.Stop.{Stop}
use Rattle.wgsl_script.specs.declared.stop.Stop.TheVariants as stops

-- what an accepted call is answered
abbrev pub reply_text : Reply → List ℕ
reply_text (replies.Handle n) = codes "&" ++ decimal n
reply_text (replies.Value v) = text_of_value (value_of v)
reply_text replies.Done = codes "done"

abbrev pub answer_text : Answer → List ℕ
answer_text (answers.Of reply) = reply_text reply
answer_text (answers.Bytes bytes) = hexadecimal bytes.items
answer_text (answers.Lent bytes) = hexadecimal bytes.now

-- the name of an error's case
abbrev pub case_name : Error → List ℕ
case_name errors.Memory = codes "Memory"
case_name errors.NotRead = codes "NotRead"
case_name errors.NotWrite = codes "NotWrite"
case_name errors.NotReadWrite = codes "NotReadWrite"
case_name errors.PtrHandle = codes "PtrHandle"
case_name errors.PtrVecComp = codes "PtrVecComp"
case_name (errors.WriteRefType x y) = codes "WriteRefType"
case_name (errors.Component x y) = codes "Component"
case_name (errors.NotIndexable x) = codes "NotIndexable"
case_name (errors.OutOfBounds x y z) = codes "OutOfBounds"
case_name (errors.ConvOverflow x y) = codes "ConvOverflow"
case_name (errors.Unary x y) = codes "Unary"
case_name (errors.Binary x y z) = codes "Binary"
case_name (errors.CompwiseBinary x y) = codes "CompwiseBinary"
case_name errors.AddOverflow = codes "AddOverflow"
case_name errors.SubOverflow = codes "SubOverflow"
case_name errors.MulOverflow = codes "MulOverflow"
case_name errors.DivByZero = codes "DivByZero"
case_name errors.RemZeroDiv = codes "RemZeroDiv"
case_name (errors.ShlOverflow x y) = codes "ShlOverflow"
case_name (errors.ShrOverflow x y) = codes "ShrOverflow"
case_name (errors.ParamType x y) = codes "ParamType"
case_name (errors.Builtin x) = codes "Builtin"
case_name (errors.Todo x) = codes "Todo"

-- the name of a refusal; none where the run ends
abbrev pub refusal_name : Stop → Option (List ℕ)
refusal_name stops.BadLine = Some (codes "BadLine")
refusal_name stops.NoValue = Some (codes "NoValue")
refusal_name (stops.Refused faults.NoHandle) = Some (codes "NoHandle")
refusal_name (stops.Refused (faults.Of e)) = Some (case_name e)
refusal_name stops.Memory = None

-- the whole line with its end; none where the run ends
abbrev pub line_of : Result Answer Stop → Option (List ℕ)
line_of (Ok answer) = Some (answer_text answer ++ 10 ∷ [])
line_of (Err stop) = option_map (λ name. (codes "refused " ++ name) ++ 10 ∷ []) (refusal_name stop)
