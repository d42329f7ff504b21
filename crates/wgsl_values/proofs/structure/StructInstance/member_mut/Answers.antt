use Rattle.std.proofs.Common.{rules, refl, ◌≡◌, ◌∙◌, ℕ, [], ◌∷◌, Option, option_map}
use Rattle.wgsl_rules.specs.Paths.{member_named}
use Rattle.wgsl_rules.specs.Values.{Val}
use Rattle.wgsl_values.specs.View.{struct_view, value_of}
use Rattle.wgsl_values.specs.Written.{IsAsSound, with_member}
use Rattle.wgsl_values.specs.declared.instance.Instance.{the_lemmas}
use Rattle.wgsl_values.proofs.Lent.{lent-has, lent_value, member-at, member-kept, written-is}
use Rattle.wgsl_values.proofs.Written.{named-value, struct_view-with}
use Rattle.wgsl_values.proofs.lemmas.Replaced.{part-sound}
use Rattle.wgsl_values.proofs.structure.StructInstance.member_mut.Goals as goal

pub returns : goal.returns
returns c =
    let whole : Val = struct_view c.args.self.now in
    let member : Option Val = option_map (λ (p : ℕ × Val). p.1) (member_named c.args.name.now whole) in
    let there : lent_value c.nth_mut.result ≡ member = c.nth_mut.ensures.value ∙ named-value c.args.self.now c.in_ok-i.i c.args.name.now c.in_ok-i.ensures in (
      (
        refl,
        (λ w. written-is (with_member c.args.name.now) c.nth_mut.result member (value_of w) whole _ (struct_view-with c.args.self.now c.in_ok-i.i w c.args.name.now c.in_ok-i.ensures) there (member-kept c.args.name.now (value_of w) whole)),
        search (rules, the_lemmas),
      ),
      (
        there,
        lent-has (λ x. IsAsSound x whole) c.nth_mut.result member there (λ x e. let k = member-at c.args.name.now whole x e in part-sound (k.0 ∷ []) whole x k.1),
      ),
    )
