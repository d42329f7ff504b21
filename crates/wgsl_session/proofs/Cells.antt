-- A cell of bytes finds what the value that it stands for holds, and after a put it stands for that value after it.
use Rattle.std.proofs.Common.{◌≡◌, ℕ, ◌+◌, List, length, Option, Some, None, option_and_then, Ok, Err, Bool, true, false, if◌then◌else◌, refl, sym, ap, ◌∙◌, arith}
use Rattle.wgsl_rules.specs.Same.{same}
use Rattle.wgsl_rules.specs.Equal.{same-Decides}
use Rattle.wgsl_rules.specs.Types.{Ty}
use Rattle.wgsl_rules.specs.Values.{Step, Reference, Val, type_of, IsStorable}
use Rattle.wgsl_rules.specs.Refusals.{not_read, Outcome, and_then}
use Rattle.wgsl_rules.specs.Paths.{viewed, put_tree, put_viewed, fits, FitsPlace, or_refused}
use Rattle.wgsl_rules.proofs.lemmas.Paths.{fits-Decides}
use Rattle.wgsl_rules.specs.Layout.{has_layout, amount, layout, layout_of, runtime_count, layout_len, type_in}
use Rattle.wgsl_layout.specs.Buffers.{buffer, decode}
use Rattle.wgsl_layout.specs.Ranges.{Range, range_in, view_range, bytes_in, overwritten}
use Rattle.wgsl_layout.proofs.lemmas.Follows.{follows}
use Rattle.wgsl_layout.proofs.lemmas.Counts.{counted-in}
use Rattle.wgsl_layout.proofs.lemmas.Positive.{tail-stride}
use Rattle.wgsl_layout.proofs.lemmas.Compose.{laid-decodes, compose}
use Rattle.wgsl_layout.proofs.lemmas.Roundtrip.{length-buffer, lays-itself}
use Rattle.wgsl_layout.proofs.lemmas.Overwritten.{put-overwritten}
use Rattle.wgsl_layout.proofs.lemmas.ViewPaths.{path-in-is, layout-type}
use Rattle.wgsl_session.specs.Flat.{bytes, tree, cell_of, layout_in, decoded_at, of_type, found_in, put_in}
use Rattle.wgsl_values.proofs.lemmas.ViewedPaths.{has-path, HasPath}
use Rattle.wgsl_values.proofs.lemmas.Replaced.{part-storable, put-type}

same-own : (t u : Ty) → t ≡ u → same t u ≡ true
same-own t u e = (same-Decides t u).1 e

-- ---- what references hold

layout-in-own : (x : Val) → IsStorable x → has_layout (type_of x) ≡ true → layout_in (type_of x) (buffer x) ≡ layout_of x
layout-in-own x s h =
    let z : layout_len (runtime_count x) (type_of x) + 0 ≡ layout_len (runtime_count x) (type_of x) = omega arith in
    let c = counted-in x 0 (length (buffer x)) s h (length-buffer x h ∙ sym z) (tail-stride (type_of x) h) in
    ap (λ (o : Option ℕ). layout (amount o) (type_of x)) c

-- in a cell of bytes
pub bytes-find : (x y : Val) (r : Reference) → IsStorable x → has_layout (type_of x) ≡ true → viewed r.view x ≡ Ok y → type_of y ≡ r.ty → found_in (bytes (type_of x) (buffer x)) r ≡ Ok y
bytes-find x y r s h e t =
    let p = has-path r.view x y e in
    let c = compose x y p.path s h p.stands in
    let q = c.1.range_of in
    let l = layout-in-own x s h in
    let path_is = path-in-is r.view (layout_of x) x p.path (refl, h) (follows x s h) p.there in
    let view_is : view_range r.view (layout_in (type_of x) (buffer x)) ≡ Some q =
    ap (view_range r.view) l ∙ ap (λ (o : Option (List ℕ)). option_and_then (λ p. range_in p (layout_of x)) o) path_is ∙ c.1.there in
    let ty_is : type_in q.layout ≡ r.ty = ap type_in c.1.its_layout ∙ layout-type (type_of y) (runtime_count y) ∙ t in
    let sy = part-storable p.path x y s p.stands in
    let reads : decode (bytes_in (buffer x) q) r.ty ≡ Some y = ap (λ (b : List ℕ). decode b r.ty) c.1.its_bytes ∙ ap (decode (buffer y)) (sym t) ∙ laid-decodes (buffer y) (type_of y) y (lays-itself y sy c.0) in
    ap (λ (o : Option Range). or_refused (option_and_then (decoded_at r.ty (buffer x)) o) not_read) view_is
    ∙ ap (λ (b : Bool). or_refused (if b then decode (bytes_in (buffer x) q) r.ty else None) not_read) (same-own (type_in q.layout) r.ty ty_is)
    ∙ ap (λ (o : Option Val). or_refused o not_read) reads

pub cell-finds : (x y : Val) (r : Reference) → IsStorable x → viewed r.view x ≡ Ok y → type_of y ≡ r.ty → found_in (cell_of x) r ≡ Ok y
cell-finds x y r s e t = by (has_layout (type_of x)) refl
  where
    by : (b : Bool) → has_layout (type_of x) ≡ b → found_in (if b then bytes (type_of x) (buffer x) else tree x) r ≡ Ok y
    by true h = bytes-find x y r s h e t
    by false h = ap (λ (o : Outcome Val). and_then o (of_type r.ty)) e ∙ ap (λ (b : Bool). if b then Ok y else Err not_read) (same-own (type_of y) r.ty t)

-- ---- a put

pub cell-put : (x w y : Val) (steps : List Step) → IsStorable x → IsStorable w → viewed steps x ≡ Ok y → fits w y ≡ true → put_in steps w (cell_of x) ≡ cell_of (put_viewed steps w x)
cell-put x w y steps s t e f =
    let p = has-path steps x y e in
    let fit : FitsPlace w y = (fits-Decides w y).0 f in
    let put_is : put_viewed steps w x ≡ put_tree p.path w x = ap (λ (o : Outcome (List ℕ)). elim o [ Ok q ↦ put_tree q w x | Err r ↦ x ]) p.there in
    let ty_is = put-type p.path w x y p.stands fit.0 in
    by p fit put_is ty_is (has_layout (type_of x)) refl
  where
    at : (p : HasPath steps x y) → FitsPlace w y → has_layout (type_of x) ≡ true → put_in steps w (bytes (type_of x) (buffer x)) ≡ bytes (type_of x) (buffer (put_tree p.path w x))
    at p fit h =
        let c = compose x y p.path s h p.stands in
        let q = c.1.range_of in
        let path_is = path-in-is steps (layout_of x) x p.path (refl, h) (follows x s h) p.there in
        let view_is : view_range steps (layout_in (type_of x) (buffer x)) ≡ Some q =
        ap (view_range steps) (layout-in-own x s h) ∙ ap (λ (o : Option (List ℕ)). option_and_then (λ p. range_in p (layout_of x)) o) path_is ∙ c.1.there in
        let over = put-overwritten x w y p.path s h t p.stands fit in
        let one : Some q ≡ Some over.range_of = sym c.1.there ∙ over.there in
        let same_range : q ≡ over.range_of = cc in
        ap (λ (o : Option Range). elim o [ None ↦ bytes (type_of x) (buffer x) | Some r ↦ bytes (type_of x) (overwritten (buffer x) r.start (buffer w)) ]) (view_is ∙ ap Some same_range)
        ∙ ap (bytes (type_of x)) (sym over.its_bytes)

    by : (p : HasPath steps x y) → FitsPlace w y → put_viewed steps w x ≡ put_tree p.path w x → type_of (put_tree p.path w x) ≡ type_of x → (b : Bool) → has_layout (type_of x) ≡ b
        → put_in steps w (if b then bytes (type_of x) (buffer x) else tree x) ≡ cell_of (put_viewed steps w x)
    by p fit put_is ty_is true h =
        at p fit h ∙ ap (λ (u : Ty). bytes u (buffer (put_tree p.path w x))) (sym ty_is)
        ∙ sym (ap cell_of put_is ∙ ap (λ (b : Bool). if b then bytes (type_of (put_tree p.path w x)) (buffer (put_tree p.path w x)) else tree (put_tree p.path w x)) (ap has_layout ty_is ∙ h))
    by p fit put_is ty_is false h =
        sym (ap (λ (b : Bool). if b then bytes (type_of (put_viewed steps w x)) (buffer (put_viewed steps w x)) else tree (put_viewed steps w x)) (ap (λ (v : Val). has_layout (type_of v)) put_is ∙ ap has_layout ty_is ∙ h))
