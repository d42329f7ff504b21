use Rattle.std.proofs.Common.{refl, ◌≡◌, ◌∙◌, ℕ, [], ◌∷◌, Option}
use Rattle.wgsl_rules.specs.Paths.{parts}
use Rattle.wgsl_rules.specs.Types as types
use Rattle.wgsl_rules.specs.Types.{Ty}
use Rattle.wgsl_rules.specs.Values.{Val, type_of, IsWellFormed}
use Rattle.wgsl_values.specs.Parts.{component_at}
use Rattle.wgsl_values.specs.View.{mat_view, value_of}
use Rattle.wgsl_values.specs.Written.{IsAsSound, with_inner_part}
use Rattle.wgsl_values.proofs.Lent.{component-at, component-kept, component-part, lent-has, lent_value, none-written, written-is}
use Rattle.wgsl_values.proofs.Written.{column-kept, component-written, components-kept, component_at-is, component_at-none}
use Rattle.wgsl_values.proofs.lemmas.Replaced.{part-sound}
use Rattle.wgsl_values.proofs.matrix.MatInstance.get_mut.Goals as goal

pub returns-in_err-components : goal.returns-in_err-components
returns-in_err-components c =
    rw c.from_residual-in_err-components.ensures (
      (
        refl,
        (λ w. none-written (with_inner_part c.args.col c.args.row) (value_of w) _ _),
        column-kept c.args.self.now c.args.col c.in_ok-column.column.now c.in_ok-column.ensures.value,
      ),
      record {
        writes_back = tt;
        value = component_at-none c.args.self.now c.args.col c.args.row c.in_ok-column.column.now c.in_ok-column.ensures.value c.in_err-components.ensures.value;
        sound = tt;
        ty = tt;
      },
    )

pub returns : goal.returns
returns c =
    let whole : Val = mat_view c.args.self.now in
    let place : Option Val = component_at c.args.col c.args.row (parts whole) in
    let there : lent_value c.nth_mut-2.result ≡ place =
    c.nth_mut-2.ensures.value
    ∙ component_at-is c.args.self.now c.args.col c.args.row c.in_ok-column.column.now c.in_ok-components.components.now c.in_ok-column.ensures.value c.in_ok-components.ensures.value in (
      (
        refl,
        (λ w. written-is (with_inner_part c.args.col c.args.row) c.nth_mut-2.result place (value_of w) whole _
            (component-written c.args.self.now c.args.col c.args.row c.in_ok-column.column.now c.in_ok-components.components.now w c.in_ok-column.ensures.value c.in_ok-components.ensures.value)
            there
            (component-kept c.args.col c.args.row (value_of w) whole)),
        components-kept c.args.self.now c.args.col c.in_ok-column.column.now c.in_ok-components.components.now c.in_ok-column.ensures.value c.in_ok-components.ensures.value,
      ),
      record {
        writes_back = tt;
        value = there;
        sound = lent-has (λ x. IsAsSound x whole) c.nth_mut-2.result place there (λ x e. part-sound (c.args.col ∷ c.args.row ∷ []) whole x (component-at c.args.col c.args.row whole x e));
        ty = lent-has (λ x. (columns rows : ℕ) (t : Ty) → IsWellFormed whole → type_of whole ≡ types.mat columns rows t → type_of x ≡ t) c.nth_mut-2.result place there (component-part c.args.self.now c.args.col c.args.row);
      },
    )
