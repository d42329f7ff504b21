-- What is handed out is of a value.
use Rattle.std.proofs.Common.{◌≡◌, ℕ, List, Some, inr}
use Rattle.wgsl_rules.specs.Text.{type_text}
use Rattle.wgsl_rules.specs.Values.{type_of}
use Rattle.wgsl_layout.specs.Buffers.{buffer_of}
use Rattle.wgsl_values.specs.Texts.{text_of_value}
use Rattle.wgsl_values.specs.View.{value_of}
use Rattle.wgsl_values.specs.declared.instance.Instance.{Instance}
use Rattle.wgsl_c.specs.Expressions.{IsWorth, IsTypeText, IsValueText, AreBytes}

module _ (source text : List ℕ) (stage flags : ℕ) where
  pub typed : (v : Instance) (given : List ℕ) → IsWorth source text stage flags v → given ≡ type_text (type_of (value_of v)) → IsTypeText source text stage flags given
  typed v given worth is = inr (v, worth, is)

  pub spelled : (v : Instance) (given : List ℕ) → IsWorth source text stage flags v → given ≡ text_of_value (value_of v) → IsValueText source text stage flags given
  spelled v given worth is = inr (v, worth, is)

  pub laid : (v : Instance) (given : List ℕ) → IsWorth source text stage flags v → Some given ≡ buffer_of (value_of v) → AreBytes source text stage flags given
  laid v given worth is = inr (v, worth, is)
