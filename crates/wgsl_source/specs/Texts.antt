-- The texts of what is wrong in a source.
use Rattle.std.specs.Prelude.{ℕ, List, ◌++◌, codes, encode_utf8}
use Rattle.wgsl_source.specs.declared.fault.Expected.{Expected}
use Rattle.wgsl_source.specs.declared.fault.Expected.TheVariants as asked
use Rattle.wgsl_source.specs.declared.fault.Reason.{Reason}
use Rattle.wgsl_source.specs.declared.fault.Reason.TheVariants as reasons

-- of what a place asks for
abbrev pub expected_text : Expected → List ℕ
expected_text asked.Declaration = codes "a declaration"
expected_text asked.Name = codes "a name"
expected_text asked.Expression = codes "a type or a value"
expected_text asked.AddressSpace = codes "an address space"
expected_text asked.AccessMode = codes "an access mode"
expected_text (asked.Symbol c) = codes "`" ++ (encode_utf8 c ++ codes "`")
expected_text asked.TemplateEnd = codes "`>`"
expected_text asked.End = codes "the end"

-- of why a source is not read as it stands
abbrev pub reason_text : Reason → List ℕ
reason_text (reasons.Expected e) = codes "expected " ++ expected_text e
reason_text reasons.OpenComment = codes "this comment has no end"
reason_text reasons.Preprocessor = codes "WGSL has no preprocessor, and this line is passed over"
reason_text reasons.Placeholder = codes "this is no WGSL: a preprocessor has to put a text here"
reason_text reasons.Import = codes "imports are not followed"
reason_text reasons.TooDeep = codes "too many brackets inside each other"
reason_text reasons.DuplicateName = codes "this name is there already"
reason_text reasons.SecondStage = codes "this function is of another stage already"
reason_text reasons.ContainsItself = codes "this needs itself"
reason_text reasons.Mixed = codes "this operator and the one before it need brackets"
reason_text reasons.Double = codes "two of these beside each other are no operators here"
reason_text reasons.Keyword = codes "this is a keyword"
reason_text reasons.Reserved = codes "this word is reserved"
reason_text reasons.NoIdentifier = codes "this is no identifier"
