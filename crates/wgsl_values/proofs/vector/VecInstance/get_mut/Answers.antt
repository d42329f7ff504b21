use Rattle.std.proofs.Common.{rules, refl, ◌≡◌, ℕ, [], ◌∷◌}
use Rattle.wgsl_rules.specs.Paths.{parts}
use Rattle.wgsl_rules.specs.Types as types
use Rattle.wgsl_rules.specs.Types.{Ty}
use Rattle.wgsl_rules.specs.Values.{Val, item, type_of, IsWellFormed}
use Rattle.wgsl_values.specs.View.{vec_view, value_of}
use Rattle.wgsl_values.specs.Written.{IsAsSound, with_part}
use Rattle.wgsl_values.specs.declared.instance.Instance.{the_lemmas}
use Rattle.wgsl_values.proofs.Lent.{vector-part, item-at, item-kept, lent-has, lent_value, written-is}
use Rattle.wgsl_values.proofs.Written.{vec_view-with}
use Rattle.wgsl_values.proofs.lemmas.Replaced.{part-sound}
use Rattle.wgsl_values.proofs.lemmas.Views.{vec_view-is}
use Rattle.wgsl_values.proofs.vector.VecInstance.get_mut.Goals as goal

pub returns : goal.returns
returns c =
    let whole : Val = vec_view c.args.self.now in
    let there : lent_value c.nth_mut.result ≡ item c.args.i (parts whole) = rw (vec_view-is c.args.self.now) c.nth_mut.ensures.value in (
      (
        refl,
        (λ w. written-is (with_part c.args.i) c.nth_mut.result (item c.args.i (parts whole)) (value_of w) whole _ (vec_view-with c.args.self.now c.args.i w) there (item-kept c.args.i (value_of w) whole)),
        search (rules, the_lemmas),
      ),
      record {
        writes_back = tt;
        value = there;
        sound = lent-has (λ x. IsAsSound x whole) c.nth_mut.result _ there (λ x e. part-sound (c.args.i ∷ []) whole x (item-at c.args.i whole x e));
        ty = lent-has (λ x. (n : ℕ) (t : Ty) → IsWellFormed whole → type_of whole ≡ types.vec n t → type_of x ≡ t) c.nth_mut.result _ there (vector-part c.args.self.now c.args.i);
      },
    )
