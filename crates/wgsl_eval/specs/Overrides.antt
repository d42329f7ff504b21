-- Values that a host gives overrides (WGSL: override declarations; WebGPU: pipeline-overridable constants).
use Rattle.std.specs.Prelude.{ℕ, Bool, true, false, Option, List, slice_get, unwrap_or}
use Rattle.std.specs.List.{position}
use Rattle.std.specs.Option.{option_and_then, option_map}
use Rattle.std.specs.Str.{bytes_eq}
use Rattle.wgsl_scalar.specs.declared.literal.LiteralInstance.{LiteralInstance}
use Rattle.wgsl_source.specs.Readings.{Outline, first_named}
use Rattle.wgsl_source.specs.declared.module.Declared.{Declared}
use Rattle.wgsl_source.specs.declared.module.Declared.TheVariants as declareds
use Rattle.wgsl_eval.specs.declared.given.Given.{Given}

-- the value that is given for a name: of two the first
abbrev pub given_for : List Given → List ℕ → Option LiteralInstance
given_for given name =
    option_map (λ (g : Given). g.value) (option_and_then (slice_get given) (position (λ (g : Given). bytes_eq g.name.now name) given))

abbrev pub is_overridable : Declared → Bool
is_overridable (declareds.Override ty value) = true
is_overridable d = false

-- whether an override has the name
abbrev pub is_override : Outline → List ℕ → Bool
is_override o name = unwrap_or (option_map is_overridable (option_and_then (slice_get o.declared) (first_named o name))) false
