-- A function of more or fewer values than it takes.
use Rattle.std.proofs.Common.{◌≡◌, ◌≢◌, List, [], ◌∷◌, map, length, Err, refl}
use Rattle.wgsl_rules.specs.Refusals.{builtin}
use Rattle.wgsl_rules.specs.declared.syntax.ShaderStage.{ShaderStage}
use Rattle.wgsl_values.specs.View.{value_of}
use Rattle.wgsl_values.specs.declared.instance.Instance.{Instance}
use Rattle.wgsl_functions.specs.Functions.{of_values}
use Rattle.wgsl_functions.specs.declared.builtin.Builtin.{Builtin}
use Rattle.wgsl_functions.specs.declared.builtin.Builtin.TheVariants as functions
use Rattle.wgsl_functions.specs.declared.builtin.OfOne.{OfOne}
use Rattle.wgsl_functions.specs.declared.builtin.OfTwo.{OfTwo}
use Rattle.wgsl_functions.specs.declared.builtin.OfThree.{OfThree}

pub no-one : (f : OfOne) (stage : ShaderStage) (vs : List Instance) → length vs ≢ 1 → of_values (functions.One f) stage (map value_of vs) ≡ Err builtin
no-one f stage [] h = refl
no-one f stage (v ∷ []) h = absurd (h refl)
no-one f stage (v ∷ (w ∷ vs)) h = refl

pub no-two : (f : OfTwo) (stage : ShaderStage) (vs : List Instance) → length vs ≢ 2 → of_values (functions.Two f) stage (map value_of vs) ≡ Err builtin
no-two f stage [] h = refl
no-two f stage (v ∷ []) h = refl
no-two f stage (v ∷ (w ∷ [])) h = absurd (h refl)
no-two f stage (v ∷ (w ∷ (x ∷ vs))) h = refl

pub no-three : (f : OfThree) (stage : ShaderStage) (vs : List Instance) → length vs ≢ 3 → of_values (functions.Three f) stage (map value_of vs) ≡ Err builtin
no-three f stage [] h = refl
no-three f stage (v ∷ []) h = refl
no-three f stage (v ∷ (w ∷ [])) h = refl
no-three f stage (v ∷ (w ∷ (x ∷ []))) h = absurd (h refl)
no-three f stage (v ∷ (w ∷ (x ∷ (y ∷ vs)))) h = refl

pub no-four : (stage : ShaderStage) (vs : List Instance) → length vs ≢ 4 → of_values functions.InsertBits stage (map value_of vs) ≡ Err builtin
no-four stage [] h = refl
no-four stage (v ∷ []) h = refl
no-four stage (v ∷ (w ∷ [])) h = refl
no-four stage (v ∷ (w ∷ (x ∷ []))) h = refl
no-four stage (v ∷ (w ∷ (x ∷ (y ∷ [])))) h = absurd (h refl)
no-four stage (v ∷ (w ∷ (x ∷ (y ∷ (z ∷ vs))))) h = refl

-- those of floats and of memory take no values at all
pub no-other : (f : Builtin) (stage : ShaderStage) (vs : List Instance) → ((g : OfOne) → f ≢ functions.One g) → ((g : OfTwo) → f ≢ functions.Two g) → ((g : OfThree) → f ≢ functions.Three g) → f ≢ functions.InsertBits
    → of_values f stage (map value_of vs) ≡ Err builtin
no-other (functions.One g) stage vs one two three four = absurd (one g refl)
no-other (functions.Two g) stage vs one two three four = absurd (two g refl)
no-other (functions.Three g) stage vs one two three four = absurd (three g refl)
no-other functions.InsertBits stage vs one two three four = absurd (four refl)
no-other functions.Float stage vs one two three four = refl
no-other functions.NotConstant stage vs one two three four = refl
