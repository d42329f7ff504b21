-- What the calls on a table tell of the places of its type.
use Rattle.std.proofs.Common.{◌≡◌, ℕ, ◌+◌, ◌<◌, ◌^◌, List, length, Option, Some, None, Ok, Err, option_map, IsSomeAnd, true, IsTrue, refl, sym, ap, ◌∙◌, subst, arith}
use Rattle.wgsl_rules.specs.Types.{Ty}
use Rattle.wgsl_rules.specs.Values.{Step}
use Rattle.wgsl_rules.specs.Layout.{count_in, has_layout, layout, type_in}
use Rattle.wgsl_nodes.specs.Canonical.{table}
use Rattle.wgsl_nodes.specs.HostTypes.{has_nodes}
use Rattle.wgsl_nodes.specs.Nodes.{IsNodeOf}
use Rattle.wgsl_nodes.specs.Places.{IsPartAt, IsPlaceOf, part_with}
use Rattle.wgsl_nodes.specs.declared.nodes.Node.{Node}
use Rattle.wgsl_nodes.specs.declared.places.Place.{«Place» as NodePlace}
use Rattle.wgsl_layout.specs.Plan.{plan_of}
use Rattle.wgsl_layout.specs.Layouts.{Answer, answer_then, or_refused, part_in}
use Rattle.wgsl_layout.specs.Ranges.{Range, further, part_at, parts_in, view_range}
use Rattle.wgsl_layout.specs.declared.layout.LayoutRefusal.TheVariants.{TooFewBytes, NoPart}
use Rattle.wgsl_layout.proofs.Reading.{counted-there}
use Rattle.wgsl_layout.proofs.lemmas.ViewPaths.{layout-type}
use Rattle.wgsl_places.specs.Places.{ArePlaces, IsPlace, IsPlaceAnswer, whole_of}
use Rattle.wgsl_places.specs.declared.place.Place.{Place}
use Rattle.wgsl_places.proofs.Host.{host}
use Rattle.wgsl_places.proofs.Parts.{place-part, place_with}

-- of a part
pub part-told : (nodes : List Node) (own t : Ty) (r : Range) (p : NodePlace) (n i : ℕ) (res : Option NodePlace) → own ≡ t → nodes ≡ table own → length (table own) < 2 ^ 32
    → ((u : Ty) → length nodes < 2 ^ 32 → IsNodeOf nodes p.node u → IsPartAt nodes p.offset (part_with n i u) res)
    → IsPlace t r (place_with n p) → ArePlaces t (option_map (further r.start) (part_at i (parts_in r.layout))) (option_map (place_with n) res)
part-told nodes own t r p n i res e is few told place =
    let same : nodes ≡ table t = is ∙ ap table e in
    let below : length nodes < 2 ^ 32 = subst (λ (ns : List Node). length ns < 2 ^ 32) (sym is) few in
    let node = subst (λ (ns : List Node). IsNodeOf ns p.node (type_in r.layout)) (sym same) place.at.node in
    place-part t r (place_with n p) i res place (subst (λ (ns : List Node). IsPartAt ns p.offset (part_with n i (type_in r.layout)) res) same (told (type_in r.layout) below node))

-- of the whole
pub whole-counted : (nodes : List Node) (own t : Ty) (len : ℕ) (o : Option ℕ) → own ≡ t → nodes ≡ table own → has_layout own ≡ true → IsNodeOf (table own) 0 own
    → ((u : Ty) → IsTrue (has_nodes u) → IsNodeOf nodes 0 u → o ≡ count_in len u) → o ≡ count_in len t
whole-counted nodes own t len o e is laid root told =
    told own (host own laid) (subst (λ (ns : List Node). IsNodeOf ns 0 own) (sym is) root) ∙ ap (count_in len) e

pub whole-told : (nodes : List Node) (own t : Ty) (len n : ℕ) (a : NodePlace) → own ≡ t → nodes ≡ table own → has_layout own ≡ true → IsNodeOf (table own) 0 own → len < 2 ^ 64
    → ((u : Ty) → IsTrue (has_nodes u) → IsNodeOf nodes 0 u → Some n ≡ count_in len u) → ((u : Ty) → IsNodeOf nodes 0 u → IsPlaceOf nodes 0 u a)
    → ArePlaces t (option_map (whole_of t) (count_in len t)) (Some (place_with n a))
whole-told nodes own t len n a e is laid root few counted placed =
    subst (λ (u : Ty). ArePlaces u (option_map (whole_of u) (count_in len u)) (Some (place_with n a))) e
    (subst (λ (o : Option ℕ). ArePlaces own (option_map (whole_of own) o) (Some (place_with n a))) count there)
  where
    here : IsNodeOf nodes 0 own
    here = subst (λ (ns : List Node). IsNodeOf ns 0 own) (sym is) root

    count : Some n ≡ count_in len own
    count = counted own (host own laid) here

    there : IsPlace own (whole_of own n) (place_with n a)
    there =
        let inside = (counted-there own (plan_of own) len n laid refl (sym count)).inside in
        let type_is = layout-type own n in
        record {
          at = subst (λ (u : Ty). IsPlaceOf (table own) 0 u a) (sym type_is) (subst (λ (ns : List Node). IsPlaceOf ns 0 own a) is (placed own here));
          layout_is = ap (layout n) (sym type_is);
          laid = subst (λ (u : Ty). has_layout u ≡ true) (sym type_is) laid;
          below = omega arith;
        }

pub whole-none : (t : Ty) (len : ℕ) → None ≡ count_in len t → ArePlaces t (option_map (whole_of t) (count_in len t)) None
whole-none t len e = subst (λ (o : Option ℕ). ArePlaces t (option_map (whole_of t) o) None) e refl

-- ---- by a view

abbrev pub answer_of : Option Place → Answer Place
answer_of None = Err NoPart
answer_of (Some p) = Ok p

same-range : (r : Range) → further 0 r ≡ r
same-range r = let e : 0 + r.start ≡ r.start = omega arith in ap (λ (k : ℕ). record { start = k; layout = r.layout }) e

pub place-told : (t u : Ty) (len : ℕ) (steps : List Step) (whole : Place) (result : Option Place) → t ≡ u → ArePlaces t (option_map (whole_of t) (count_in len t)) (Some whole)
    → ((r : Range) → IsPlace t r whole → type_in r.layout ≡ u → ArePlaces t (option_map (further r.start) (view_range steps r.layout)) result) → IsPlaceAnswer t (part_in len steps t) (answer_of result)
place-told t u len steps whole result e placed on = by (count_in len t) placed
  where
    none : (o : Option Place) → o ≡ None → IsPlaceAnswer t (Err NoPart) (answer_of o)
    none None h = refl
    none (Some p) h = absurd (cc (h))

    found : (x : Range) (o : Option Place) → IsSomeAnd o (IsPlace t (further 0 x)) → IsPlaceAnswer t (Ok x) (answer_of o)
    found x None h = absurd h
    found x (Some p) h = subst (λ (r : Range). IsPlace t r p) (same-range x) h

    at : (o : Option Range) → ArePlaces t (option_map (further 0) o) result → IsPlaceAnswer t (or_refused o NoPart) (answer_of result)
    at None h = none result h
    at (Some x) h = found x result h

    by : (o : Option ℕ) → ArePlaces t (option_map (whole_of t) o) (Some whole) → IsPlaceAnswer t (answer_then (or_refused o TooFewBytes) (λ n. or_refused (view_range steps (layout n t)) NoPart)) (answer_of result)
    by None h = absurd (cc (h))
    by (Some n) h = at (view_range steps (layout n t)) (on (whole_of t n) h (layout-type t n ∙ e))
