-- What the plans of the code stand for, a case each, and place by place.
use Rattle.std.proofs.Common.{◌≡◌, ℕ, zero, suc, ◌+◌, ◌<◌, List, [], ◌∷◌, length, get_or, drop, Option, refl, sym, ap, ◌∙◌, rules, add-one, drop-cons, arith, Box, Vec, Global}
use Rattle.std.proofs.Common.{string_bytes}
use Rattle.wgsl_rules.specs.Types.{struct}
use Rattle.wgsl_rules.specs.View.{members_view, struct_view}
use Rattle.wgsl_rules.specs.declared.ty.StructType.{StructType, out-StructType}
use Rattle.wgsl_rules.proofs.lemmas.Views.{struct_view-is}
use Rattle.wgsl_layout.specs.Plan.{scalar, components, row, members, Places, place, Placed, fixed_size, plan_of, plan_view, place_view, places_view}
use Rattle.wgsl_layout.specs.Extents.{last_tail, row_tail}
use Rattle.wgsl_layout.specs.declared.extent.Tail.{Tail as CodeTail}
use Rattle.wgsl_layout.specs.declared.plan.Plan as code
use Rattle.wgsl_layout.specs.declared.plan.Plan.{«Plan» as CodePlan, the_lemmas}
use Rattle.wgsl_layout.specs.declared.plan.Place.{«Place» as CodePlace, the_lemmas as place_lemmas}

pub view-scalar : plan_view code.Scalar ≡ scalar
view-scalar = search (rules, the_lemmas)

pub view-components : (far : ℕ) → plan_view (code.Components far) ≡ components far
view-components far = search (rules, the_lemmas)

pub view-row : (far : ℕ) (p : Box CodePlan Global) → plan_view (code.Row far p) ≡ row far (plan_view p.value)
view-row far p = search (rules, the_lemmas)

pub view-members : (len : ℕ) (ps : Vec CodePlace Global) → plan_view (code.Members len ps) ≡ members len (places_view ps.items)
view-members len ps = search (rules, the_lemmas)

pub place-is : (p : CodePlace) → place_view p ≡ record { offset = p.offset; plan = plan_view p.plan }
place-is p = search (rules, place_lemmas)

abbrev pub with_place : Placed → Places → Places
with_place p ps = place p.offset p.plan ps

-- the places of a slice from one on
pub places-from : (ps : List CodePlace) (i : ℕ) (p : CodePlace) → i < length ps → p ≡ get_or ps i p → places_view (drop i ps) ≡ place p.offset (plan_view p.plan) (places_view (drop (i + 1) ps))
places-from ps i p h e =
    let at : places_view (drop i ps) ≡ with_place (place_view (get_or ps i p)) (places_view (drop (i + 1) ps)) = rw (drop-cons ps i p, add-one) refl in
    at ∙ ap (λ (x : CodePlace). with_place (place_view x) (places_view (drop (i + 1) ps))) (sym e) ∙ ap (λ (x : Placed). with_place x (places_view (drop (i + 1) ps))) (place-is p)

-- the size that the plan of a structure has
pub struct-size : (s : StructType) (n : ℕ) (ps : Places) → members n ps ≡ plan_of (struct_view s) → n ≡ fixed_size (struct_view s)
struct-size s n ps e =
    let own = struct (string_bytes (out-StructType s).name) (members_view (out-StructType s).members.items) in
    let same = e ∙ ap plan_of (struct_view-is s) in
    let is : n ≡ fixed_size own = cc in
    is ∙ ap fixed_size (sym (struct_view-is s))

-- the array that the last of the places may be
pub last-place : (xs : List CodePlace) (i : ℕ) (x : CodePlace) (found : Option CodeTail) → i + 1 ≡ length xs → x ≡ get_or xs i x → last_tail found (places_view xs) ≡ row_tail x.offset (plan_view x.plan)
last-place [] i x found h e = absurd (omega arith)
last-place (y ∷ []) zero x found h e =
    ap (λ (p : Placed). row_tail p.offset p.plan) (place-is y) ∙ ap (λ (p : CodePlace). row_tail p.offset (plan_view p.plan)) (sym e)
last-place (y ∷ []) (suc i) x found h e = absurd (omega arith)
last-place (y ∷ (z ∷ xs)) zero x found h e = absurd (omega arith)
last-place (y ∷ (z ∷ xs)) (suc i) x found h e = last-place (z ∷ xs) i x (row_tail (place_view y).offset (place_view y).plan) (omega arith) e
