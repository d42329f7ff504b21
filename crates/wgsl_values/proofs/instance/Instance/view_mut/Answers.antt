use Rattle.std.proofs.Common.{refl, ◌≡◌, ◌∙◌, ap, Ok}
use Rattle.wgsl_rules.specs.Paths.{put_viewed, viewed}
use Rattle.wgsl_rules.specs.Values.{Val, type_of}
use Rattle.wgsl_values.specs.View.{value_of, steps_of}
use Rattle.wgsl_values.proofs.Lent.{keeps-whole, view-kept, view-sound}
use Rattle.wgsl_values.proofs.lemmas.PutTwice.{put-twice, result_ok-is}
use Rattle.wgsl_values.proofs.instance.Instance.view_mut.Goals as goal

pub returns : goal.returns
returns c =
    let steps = steps_of c.args.view.now in
    let old : Val = value_of c.args.self.now in
    let part : Val = value_of c.in-Some.part in
    let led : viewed steps old ≡ Ok part = result_ok-is _ _ c.in-Some.ensures.part in
    let put_back : (w : Val) → put_viewed steps w (value_of c.put.new.self) ≡ put_viewed steps w old = λ w. ap (put_viewed steps w) c.put.ensures.put ∙ put-twice steps w _ old in (
      (refl, (λ w. refl), tt),
      record {
        unchanged_at_err = tt;
        value = led;
        same_reference = refl;
        same_view = refl;
        rest = put_back;
        kept = keeps-whole (λ w. put_viewed steps w (value_of c.put.new.self)) (type_of part) old (λ w s t. rw (put_back w) (view-kept steps w old part led s t));
        sound = view-sound steps old part led;
      },
    )
