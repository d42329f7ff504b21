-- Parts of cells of bytes that are copied: the bytes of one part, in the place of another that is laid out alike.
use Rattle.std.proofs.Common.{Global, Vec, ◌≡◌, ℕ, ◌+◌, ◌≤◌, List, [], ◌++◌, length, take, drop, Option, Some, option_and_then, Ok, Err, true, refl, sym, ap, ◌∙◌, subst, arith, length-drop}
use Rattle.std.proofs.lemmas.List.{length-take-le, drop-drop}
use Rattle.std.specs.Prelude.{◌↔◌, IsOkAnd}
use Rattle.wgsl_rules.specs.Layout.{has_layout, layout_of, length_in, type_in}
use Rattle.wgsl_rules.specs.Paths.{fits, put_tree, put_viewed, viewed, FitsPlace}
use Rattle.wgsl_rules.specs.Refusals.{Outcome}
use Rattle.wgsl_rules.specs.Values.{Step, Val, type_of, IsStorable}
use Rattle.wgsl_rules.proofs.lemmas.Paths.{fits-Decides}
use Rattle.wgsl_values.proofs.lemmas.Replaced.{a_part_replaced, part-storable, put-type}
use Rattle.wgsl_values.proofs.lemmas.ViewedPaths.{has-path, HasPath}
use Rattle.wgsl_layout.specs.Buffers.{buffer, decoded}
use Rattle.wgsl_layout.specs.Copies.{IsCopied}
use Rattle.wgsl_layout.specs.FlatCells.{Holds, IsPartAt, flat_value}
use Rattle.wgsl_layout.specs.Located.{IsLocated, part_range, shape_plan, shape_ty}
use Rattle.wgsl_layout.specs.Ranges.{Range, bytes_in, overwritten, range_in, view_range}
use Rattle.wgsl_layout.specs.declared.flat.FlatCell.TheInside.{Inside}
use Rattle.wgsl_layout.specs.declared.in_place.InPlace.TheVariants as in_place
use Rattle.wgsl_layout.specs.declared.located.Located.{Located}
use Rattle.wgsl_layout.proofs.FlatPuts.{at-part, held-value, holds-own, laid-at, place-told}
use Rattle.wgsl_layout.proofs.HeldBytes.{part-bytes}
use Rattle.wgsl_layout.proofs.LayoutParts.{alike-by-length}
use Rattle.wgsl_layout.proofs.lemmas.Flat.{IsLaid, IsPut, there-laid}
use Rattle.wgsl_layout.proofs.lemmas.Follows.{follows}
use Rattle.wgsl_layout.proofs.lemmas.Overwritten.{put-overwritten}
use Rattle.wgsl_layout.proofs.lemmas.Places.{put-count}
use Rattle.wgsl_layout.proofs.lemmas.ViewPaths.{layout-type, path-in-is}

-- ---- bytes that are written over others

-- those of another list
pub copied-over : (b ys part : List ℕ) (o k : ℕ) → k ≡ length part → ys ≡ part → take o b ++ (ys ++ drop k (drop o b)) ≡ overwritten b o part
copied-over b ys part o k e is =
    let at : o + k ≡ o + length part = ap (λ (n : ℕ). o + n) e in
    ap (λ (c : List ℕ). take o b ++ (c ++ drop k (drop o b))) is ∙ ap (λ (c : List ℕ). take o b ++ (part ++ c)) (drop-drop k o b ∙ ap (λ (n : ℕ). drop n b) at)

-- those of a range of the same list
pub moved-over : (b : List ℕ) (o from n : ℕ) (r : Range) → n ≡ length_in r.layout → from ≡ r.start → from + n ≤ length b → take o b ++ (take n (drop from b) ++ drop (o + n) b) ≡ overwritten b o (bytes_in b r)
moved-over b o from n r e f le =
    let part : take n (drop from b) ≡ bytes_in b r = ap (λ (k : ℕ). take k (drop from b)) e ∙ ap (λ (k : ℕ). take (length_in r.layout) (drop k b)) f in
    let rest = length-drop from b in
    let few : length (take n (drop from b)) ≡ n = length-take-le n (drop from b) (omega (arith, le)) in
    let at : o + n ≡ o + length (bytes_in b r) = ap (λ (k : ℕ). o + k) (sym few ∙ ap length part) in
    ap (λ (c : List ℕ). take o b ++ (c ++ drop (o + n) b)) part ∙ ap (λ (k : ℕ). take o b ++ (bytes_in b r ++ drop k b)) at

-- a range has as many bytes as its layout
pub range-long : (b : List ℕ) (r : Range) → r.start + length_in r.layout ≤ length b → length (bytes_in b r) ≡ length_in r.layout
range-long b r le = let rest = length-drop r.start b in length-take-le (length_in r.layout) (drop r.start b) (omega (arith, le))

-- ---- parts that are laid out alike

-- those of one type that take as many bytes
pub alike-parts : (s t : Located) → IsLocated s → IsLocated t → shape_ty s.shape ≡ shape_ty t.shape → length_in (part_range s).layout ≡ length_in (part_range t).layout
    → (part_range s).layout ≡ (part_range t).layout
alike-parts s t hs ht typed long =
    let w = decoded [] s.start (part_range s).layout in
    let own : IsLaid s.count (shape_ty s.shape) w = there-laid s.count (shape_ty s.shape) (shape_plan s.shape) s.start s.len [] hs in
    sym own.alike ∙ alike-by-length w t.count (shape_ty t.shape) (shape_plan t.shape) t.start t.len ht own.storable (own.typed ∙ typed) (ap length_in own.alike ∙ long)

pub alike-type : (s t : Located) → (part_range s).layout ≡ (part_range t).layout → shape_ty s.shape ≡ shape_ty t.shape
alike-type s t e = sym (layout-type (shape_ty s.shape) s.count) ∙ ap type_in e ∙ layout-type (shape_ty t.shape) t.count

-- ---- a copy in place

-- a value of a type that has a layout, which may be stored
pub record HasBytes (v : Val) : Type 0 where
  pub storable : IsStorable v
  pub laid : has_layout (type_of v) ≡ true

pub has-bytes : (c : Inside) (v : Val) → Holds c v → HasBytes v
has-bytes c v h = record { storable = h.storable; laid = ap has_layout h.typed ∙ h.laid }

-- what bytes lay out where a part is located
abbrev part_of : Val → Located → Val
part_of v l = decoded (buffer v) l.start (part_range l).layout

led : (v : Val) (steps : List Step) (l : Located) → HasBytes v → IsPartAt v steps l → viewed steps v ≡ Ok (part_of v l)
led v steps l h p = at-part v steps (part_range l) h.storable h.laid p.found

-- the one fits the place of the other where it is laid out alike
alike-told : (u v : Val) (to : List Step) (s t : Located) → HasBytes v → IsLocated s → IsPartAt v to t → ((part_range s).layout ≡ (part_range t).layout) ↔ IsOkAnd (viewed to v) (λ x. fits (part_of u s) x ≡ true)
alike-told u v to s t h there p =
    let own = laid-at u s there in
    let told = place-told v (part_of u s) to t h.storable h.laid own.storable p.there p.found in
    (λ e. told.1 (own.alike ∙ e), λ f. sym own.alike ∙ told.0 f)

pub not-copied : (u v after : Val) (from to : List Step) (s t : Located) → HasBytes u → HasBytes v → IsPartAt u from s → IsPartAt v to t → ((part_range s).layout ≡ (part_range t).layout → ⊥) → after ≡ v
    → IsOkAnd (viewed from u) (IsCopied in_place.Misfit true v after to)
not-copied u v after from to s t hu hv ps pt differ same =
    let told = alike-told u v to s t hv ps.there pt in
    subst (λ (o : Outcome Val). IsOkAnd o (IsCopied in_place.Misfit true v after to)) (sym (led u from s hu ps)) (refl, λ f. differ (told.1 f), same)

-- the buffer of what fits the place that a view leads to, written over the bytes there
pub copied-in-place : (v w x : Val) (steps : List Step) (r : Range) → IsStorable v → has_layout (type_of v) ≡ true → IsStorable w → viewed steps v ≡ Ok x → fits w x ≡ true → view_range steps (layout_of v) ≡ Some r
    → IsPut v (put_viewed steps w v) (overwritten (buffer v) r.start (buffer w))
copied-in-place v w x steps r s h t e f there =
    let q = has-path steps v x e in
    let put_is : put_viewed steps w v ≡ put_tree q.path w v = ap (λ (o : Outcome (List ℕ)). elim o [ Ok q ↦ put_tree q w v | Err r ↦ v ]) q.there in
    subst (λ (n : Val). IsPut v n (overwritten (buffer v) r.start (buffer w))) (sym put_is) (at q ((fits-Decides w x).0 f))
  where
    at : (q : HasPath steps v x) → FitsPlace w x → IsPut v (put_tree q.path w v) (overwritten (buffer v) r.start (buffer w))
    at q fit =
        let path_is = path-in-is steps (layout_of v) v q.path (refl, h) (follows v s h) q.there in
        let ranged : range_in q.path (layout_of v) ≡ Some r = ap (λ (o : Option (List ℕ)). option_and_then (λ p. range_in p (layout_of v)) o) (sym path_is) ∙ there in
        let over = put-overwritten v w x q.path s h t q.stands fit in
        let one : Some r ≡ Some over.range_of = sym ranged ∙ over.there in
        let same : r ≡ over.range_of = cc in
        record {
          storable = (a_part_replaced q.path v w x s q.stands t fit.0).storable;
          typed = put-type q.path w v x q.stands fit.0;
          counted = put-count q.path w v x t (part-storable q.path v x s q.stands) q.stands fit;
          its_bytes = ap (λ (k : Range). overwritten (buffer v) k.start (buffer w)) same ∙ sym over.its_bytes;
        }

-- a cell whose bytes are copied: it holds the value with the part put in the place of the other
pub record IsCopiedCell (after : Inside) (u v : Val) (from to : List Step) : Type 0 where
  pub holds : Holds after (flat_value after)
  pub copied : IsOkAnd (viewed from u) (IsCopied in_place.Done true v (flat_value after) to)

pub copied-cell : (c : Inside) (bytes : Vec ℕ Global) (u v : Val) (from to : List Step) (s t : Located) → Holds c v → HasBytes u → IsPartAt u from s → IsPartAt v to t → (part_range s).layout ≡ (part_range t).layout
    → bytes.items ≡ overwritten (buffer v) t.start (bytes_in (buffer u) (part_range s)) → IsCopiedCell (record { owner = c.owner; count = c.count; bytes = bytes }) u v from to
copied-cell c bytes u v from to s t h hu ps pt alike is =
    let hv = has-bytes c v h in
    let w = part_of u s in
    let there = led u from s hu ps in
    let own = laid-at u s ps.there in
    let fit = (alike-told u v to s t hv ps.there pt).0 alike in
    let its_bytes = part-bytes u w from (part_range s) hu.storable hu.laid there ps.found in
    let at_place = led v to t hv pt in
    let fit_there = subst (λ (o : Outcome Val). IsOkAnd o (λ x. fits w x ≡ true)) at_place fit in
    let put = copied-in-place v w (part_of v t) to (part_range t) hv.storable hv.laid own.storable at_place fit_there pt.found in
    let after : Inside = record { owner = c.owner; count = c.count; bytes = bytes } in
    let holds : Holds after (put_viewed to w v) = record {
      typed = put.typed ∙ h.typed;
      laid = h.laid;
      counted = h.counted ∙ sym put.counted;
      storable = put.storable;
      bytes = is ∙ ap (overwritten (buffer v) t.start) its_bytes ∙ put.its_bytes;
    } in
    record {
      holds = holds-own after (put_viewed to w v) holds;
      copied = subst (λ (o : Outcome Val). IsOkAnd o (IsCopied in_place.Done true v (flat_value after) to)) (sym there) (refl, fit, held-value after (put_viewed to w v) holds);
    }
