-- A call as it is written: its name, the arguments of its template, and the types of its arguments
-- (WGSL: function call expressions; template parameters).
use Rattle.std.specs.Prelude.{ℕ, List, ◌++◌, map, Option, Some, None, option_map, [], codes, string_bytes}
use Rattle.std.specs.Global.{Vec}
use Rattle.std.specs.List.{join_by}
use Rattle.wgsl_rules.specs.Text.{type_text, enumerant_text}
use Rattle.wgsl_rules.specs.Types.{Ty}
use Rattle.wgsl_rules.specs.Values.{Val}
use Rattle.wgsl_rules.specs.View.{type_view}
use Rattle.wgsl_rules.specs.declared.syntax.Enumerant.{Enumerant}
use Rattle.wgsl_values.specs.Texts.{text_of_value}
use Rattle.wgsl_values.specs.View.{value_of}
use Rattle.wgsl_values.specs.declared.call.CallSignature.{CallSignature}
use Rattle.wgsl_values.specs.declared.call.TpltParam.{TpltParam}
use Rattle.wgsl_values.specs.declared.call.TpltParam.TheVariants as params

-- an argument of a template: a type, a value, or a word of the language
pub data Param : Type 0 where
  of_type : Ty → Param
  of_value : Val → Param
  of_enumerant : Enumerant → Param

pub record Signature : Type 0 where
  pub name : List ℕ
  pub template : Option (List Param)
  pub args : List Ty

-- ---- what the types of the program stand for

abbrev pub param_view : TpltParam → Param
param_view (params.OfType t) = of_type (type_view t)
param_view (params.Instance v) = of_value (value_of v)
param_view (params.Enumerant e) = of_enumerant e

abbrev pub template_view : Option (Vec TpltParam) → Option (List Param)
template_view = option_map (λ ps. map param_view ps.items)

abbrev pub signature_view : CallSignature → Signature
signature_view s = record { name = string_bytes s.name; template = template_view s.tplt; args = map type_view s.args.items }

-- ---- texts

abbrev pub param_text : Param → List ℕ
param_text (of_type t) = type_text t
param_text (of_value v) = text_of_value v
param_text (of_enumerant e) = enumerant_text e

-- in angle brackets; a call without a template has none
abbrev pub template_text : Option (List Param) → List ℕ
template_text None = []
template_text (Some ps) = codes "<" ++ (join_by param_text (codes ", ") ps ++ codes ">")

abbrev pub signature_text : Signature → List ℕ
signature_text s = s.name ++ (template_text s.template ++ (codes "(" ++ (join_by type_text (codes ", ") s.args ++ codes ")")))
