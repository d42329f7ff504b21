-- What is put at a path overwrites the range of the part.
use Rattle.std.proofs.Common.{◌≡◌, ℕ, ℤ, List, ◌++◌, Option, Some, is_some, true, refl, sym, ap, ◌∙◌, arith}
use Rattle.wgsl_rules.specs.Values.{Val, type_of, IsStorable}
use Rattle.wgsl_rules.specs.Paths.{value_at, put_tree, FitsPlace}
use Rattle.wgsl_rules.specs.Layout.{Layout, length_in, layout, layout_of, runtime_count}
use Rattle.wgsl_layout.specs.Buffers.{number_of, number_at, bytes_with, buffer}
use Rattle.wgsl_layout.specs.Ranges.{overwritten}
use Rattle.wgsl_layout.specs.Laws.{APutOverwritesItsRange}
use Rattle.wgsl_layout.proofs.lemmas.Tidy.{tidy}
use Rattle.wgsl_layout.proofs.lemmas.Ranges.{range-is, length-bytes}
use Rattle.wgsl_layout.proofs.lemmas.Puts.{put-overwrites}
use Rattle.wgsl_rules.proofs.lemmas.Paths.{put-held, put-apart}
use Rattle.wgsl_layout.proofs.lemmas.Follows.{follows, path-leads}
use Rattle.wgsl_layout.proofs.lemmas.Places.{put-count, fits-count}
use Rattle.wgsl_layout.proofs.lemmas.Compose.{numbers-below}
use Rattle.wgsl_values.proofs.lemmas.Replaced.{part-storable, put-type}

pub put-layout : (p : List ℕ) (v w x : Val) → IsStorable w → IsStorable x → value_at p v ≡ Some x → FitsPlace w x → layout_of (put_tree p w v) ≡ layout_of v
put-layout p v w x s t e h = ap (λ (n : ℕ). layout n (type_of (put_tree p w v))) (put-count p w v x s t e h) ∙ ap (layout (runtime_count v)) (put-type p w v x e h.0)

pub put-overwritten : APutOverwritesItsRange
put-overwritten v w x p s h t e fits =
    let n = runtime_count v in
    let l = layout_of v in
    let put = put_tree p w v in
    let is = tidy (type_of v) n h in
    let leads = path-leads p l v x (refl, h) (follows v s h) e in
    let r = leads.range_of in
    let sx = part-storable p v x s e in
    let there : is_some (value_at p v) ≡ true = ap (λ (o : Option Val). is_some o) e in
    let whole = put-layout p v w x t sx e fits in
    let own : r.layout ≡ layout_of w = leads.own.0 ∙ sym (ap (λ (k : ℕ). layout k (type_of w)) (fits-count w x t sx fits) ∙ ap (layout (runtime_count x)) fits.0) in
    let at_path = range-is (number_at v) p l r is.0 leads.there in
    let whole_length = length-bytes (number_at v) l in
    let own_length = length-bytes (number_at w) (layout_of w) in
    let same_length = ap length_in own in
    let bytes = put-overwrites (number_at v) (number_at put) p l r is.0 leads.there (λ q a. sym (ap number_of (put-apart p q w v a))) in
    let part : bytes_with (λ q. number_at put (p ++ q)) r.layout ≡ buffer w =
    ap (λ (f : List ℕ → ℤ). bytes_with f r.layout) (numbers-below p put w (put-held p w v there)) ∙ ap (λ (k : Layout). bytes_with (number_at w) k) own in
    record {
      range_of = r;
      there = leads.there;
      its_length = same_length ∙ sym own_length;
      inside = omega (arith, at_path.inside, own_length, whole_length, same_length);
      its_bytes = ap (λ (k : Layout). bytes_with (number_at put) k) whole ∙ bytes ∙ ap (λ (c : List ℕ). overwritten (buffer v) r.start c) part;
    }
