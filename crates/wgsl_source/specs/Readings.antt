-- What a reading shows of a source.
use Rattle.std.specs.Prelude.{ℕ, nat_le, ◌==◌, ◌&&◌, Option, None, Some, List, [], length, position, slice_get, slice_range, unwrap_or, if◌then◌else◌}
use Rattle.std.specs.Str.{bytes_eq}
use Rattle.wgsl_source.specs.Cuts.{cut_of}
use Rattle.wgsl_source.specs.declared.declaration.Kind.{Kind}
use Rattle.wgsl_source.specs.declared.declaration.Kind.TheVariants as kinds
use Rattle.wgsl_source.specs.declared.declaration.Member.{Member}
use Rattle.wgsl_source.specs.declared.declaration.Variable.{Variable}
use Rattle.wgsl_source.specs.declared.entry.DeclaredEntry.{DeclaredEntry}
use Rattle.wgsl_source.specs.declared.expression.Span.{Span}
use Rattle.wgsl_source.specs.declared.expression.Step.{Step}
use Rattle.wgsl_source.specs.declared.fault.Fault.{Fault}
use Rattle.wgsl_source.specs.declared.fault.Reason.{Reason}
use Rattle.wgsl_source.specs.declared.module.Declared.{Declared}
use Rattle.wgsl_source.specs.declared.module.Declared.TheVariants as declareds
use Rattle.wgsl_source.specs.declared.module.DeclaredVariable.{DeclaredVariable}
use Rattle.wgsl_source.specs.declared.module.Extent.{Extent}
use Rattle.wgsl_source.specs.declared.module.Field.{Field}
use Rattle.wgsl_source.specs.declared.piece.Piece.{Piece}
use Rattle.wgsl_source.specs.declared.token.Token.{Token}

-- a source as it is shown: its text, the bytes of its tokens, what its declarations declare, which of them are entry
-- points, the numbers of its overrides, the steps of each declaration and the tokens that name them, those of these
-- tokens by which declarations are found, the members of its structures, all steps, the conditions of its assertions,
-- the pieces that it is made of, an order of the declarations, where operators begin that the grammar refuses, and what
-- is wrong
pub record Outline : Type 0 where
  pub text : List ℕ
  pub tokens : List Extent
  pub declared : List Declared
  pub entries : List (Option DeclaredEntry)
  pub ids : List (Option Span)
  pub spans : List Span
  pub names : List ℕ
  pub found_by : List ℕ
  pub fields : List Field
  pub steps : List Step
  pub asserts : List Span
  pub pieces : List Piece
  pub order : List ℕ
  pub refused : List ℕ
  pub faults : List Fault

-- the bytes of a token
abbrev pub extent_in : Token → Extent
extent_in token = record { start = token.start; end = token.end }

-- a variable of a module
abbrev pub variable_in : Variable → DeclaredVariable
variable_in v =
    record { ty = v.ty; space = v.space; access = v.access; is_immediate = v.is_immediate; group = v.group; binding = v.binding }

-- what is declared
abbrev pub declared_in : Kind → Declared
declared_in (kinds.Struct first end) = declareds.Struct first end
declared_in (kinds.Alias ty) = declareds.Alias ty
declared_in (kinds.Constant ty value) = declareds.Const ty value
declared_in (kinds.Override ty value id) = declareds.Override ty value
declared_in (kinds.Variable variable) = declareds.Variable (variable_in variable)
declared_in (kinds.Function entry) = declareds.Function

-- the entry point that is declared, if one is
abbrev pub entry_in : Kind → Option DeclaredEntry
entry_in (kinds.Function entry) = entry
entry_in kind = None

-- the number that a host gives an override, where it is given
abbrev pub id_in : Kind → Option Span
id_in (kinds.Override ty value id) = id
id_in kind = None

-- a member of a structure
abbrev pub field_in : Member → Field
field_in m = record { name = m.name; ty = m.ty; size = m.size; align = m.align }

-- those tokens, where any name is known
abbrev pub found_by_if : ℕ → List ℕ → List ℕ
found_by_if known names = if known == 0 then [] else names

-- the bytes of the token of this number; behind the last one there are none
abbrev pub extent_of : List ℕ → List Extent → ℕ → Extent
extent_of text tokens at = unwrap_or (slice_get tokens at) (record { start = length text; end = length text })

-- the text of the token of this number
abbrev pub word_of : List ℕ → List Extent → ℕ → List ℕ
word_of text tokens at = cut_of text (extent_of text tokens at).start (extent_of text tokens at).end

-- a fault at the token of this number
abbrev pub fault_at : List ℕ → List Extent → ℕ → Reason → Fault
fault_at text tokens at reason =
    record { start = (extent_of text tokens at).start; end = (extent_of text tokens at).end; reason = reason }

-- the first of these tokens with this text
abbrev pub first_of : List ℕ → List Extent → List ℕ → List ℕ → Option ℕ
first_of text tokens names name = position (λ token. bytes_eq (word_of text tokens token) name) names

-- ---- of a reading

abbrev pub extent_at : Outline → ℕ → Extent
extent_at o at = extent_of o.text o.tokens at

abbrev pub word_at : Outline → ℕ → List ℕ
word_at o at = word_of o.text o.tokens at

-- the steps of a span, where it is one
abbrev pub steps_in : Outline → Span → List Step
steps_in o span =
    if nat_le span.start span.end && nat_le span.end (length o.steps) then slice_range o.steps span.start span.end else []

-- the steps of a declaration, where there is one
abbrev pub steps_of_span : Outline → Option Span → List Step
steps_of_span o None = []
steps_of_span o (Some span) = steps_in o span

abbrev pub steps_at : Outline → ℕ → List Step
steps_at o number = steps_of_span o (slice_get o.spans number)

-- the first declaration that is named so
abbrev pub first_named : Outline → List ℕ → Option ℕ
first_named o name = first_of o.text o.tokens o.found_by name
