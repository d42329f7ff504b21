-- The texts that are printed, as bytes.
use Rattle.std.specs.Prelude.{ℕ, ◌^◌, ◌-◌, ◌==◌, suc, zero, List, [], ◌++◌, Option, Some, None, codes, decimal, if◌then◌else◌}
use Rattle.std.specs.Fmt.{styled_decimal, format_spec}
use Rattle.wgsl_rules.specs.declared.uniform.UniformRule.{UniformRule}
use Rattle.wgsl_rules.specs.declared.uniform.UniformRule.TheVariants.{NotShared, RuntimeSized, NotKnown, Stride, Align, Offset, Distance}
use Rattle.wgsl_report.specs.declared.structures.RuntimePart.{RuntimePart}

-- ---- tables

-- a number at the right of its column, `  {n:>6}`
abbrev pub column_text : Option ℕ → List ℕ
column_text (Some n) = codes "  " ++ styled_decimal (format_spec 32 3 0 6 (2 ^ 64 - 1)) n
column_text None = codes "        "

-- two spaces more for each structure that a member is inside of
abbrev pub indent_text : ℕ → List ℕ
indent_text zero = codes "  "
indent_text (suc n) = indent_text n ++ codes "  "

abbrev pub stride_text : Option ℕ → List ℕ
stride_text (Some n) = codes ", stride " ++ (decimal n ++ codes "\n")
stride_text None = codes "\n"

-- with n elements in the runtime-sized array
abbrev pub runtime_text : RuntimePart → List ℕ
runtime_text part = if part.start == 0 then codes "size " ++ (decimal part.stride ++ codes " * n") else codes "size " ++ (decimal part.start ++ (codes " + " ++ (decimal part.stride ++ codes " * n")))

abbrev pub size_text : Option ℕ → Option RuntimePart → List ℕ
size_text (Some size) runtime = codes "size " ++ decimal size
size_text None (Some part) = runtime_text part
size_text None None = codes "no size"

-- it is told where the size is not known
abbrev pub least_text : Option RuntimePart → Option ℕ → List ℕ
least_text (Some part) (Some least) = codes ", least binding " ++ decimal least
least_text runtime least = []

abbrev pub align_text : Option ℕ → List ℕ
align_text (Some align) = codes ", align " ++ (decimal align ++ codes "\n")
align_text None = codes ", no alignment\n"

-- a rule of the uniform address space that is broken
abbrev pub rule_text : UniformRule → List ℕ
rule_text NotShared = codes "no type that a uniform variable has"
rule_text RuntimeSized = codes "a runtime-sized array"
rule_text NotKnown = codes "a place that is not known"
rule_text (Stride n) = codes "a stride of " ++ (decimal n ++ codes " bytes, which is no multiple of 16")
rule_text (Align n) = codes "an alignment of " ++ (decimal n ++ codes ", which is no multiple of what the type requires")
rule_text (Offset n) = codes "the offset " ++ (decimal n ++ codes ", which is no multiple of what the type requires")
rule_text (Distance n) = codes "the offset " ++ (decimal n ++ codes ", too near behind a structure")

-- ---- for programs

-- one more number of an object
abbrev pub entry_text : List ℕ → Option ℕ → List ℕ
entry_text key (Some n) = codes ", \"" ++ (key ++ (codes "\": " ++ decimal n))
entry_text key None = codes ", \"" ++ (key ++ codes "\": null")

abbrev pub runtime_entry : Option RuntimePart → List ℕ
runtime_entry (Some part) = codes ", \"runtime\": {\"offset\": " ++ (decimal part.start ++ (codes ", \"stride\": " ++ (decimal part.stride ++ codes "}")))
runtime_entry None = []

-- the field of the bytes behind field i, which is named by this and its number
abbrev pub c_padding : List ℕ → ℕ → ℕ → List ℕ
c_padding name i n = if n == 0 then [] else codes "    uint8_t " ++ (name ++ (decimal i ++ (codes "[" ++ (decimal n ++ codes "];\n"))))

abbrev pub rust_padding : List ℕ → ℕ → ℕ → List ℕ
rust_padding name i n = if n == 0 then [] else codes "    pub " ++ (name ++ (decimal i ++ (codes ": [u8; " ++ (decimal n ++ codes "],\n"))))
