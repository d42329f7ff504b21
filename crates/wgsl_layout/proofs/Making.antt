-- One step of the walk that makes the plan of a type.
use Rattle.std.specs.Option.{unwrap_or}
use Rattle.std.specs.Prelude.{◌&&◌, ◌||◌}
use Rattle.std.proofs.Common.{◌≡◌, ℕ, ◌+◌, ◌<◌, ◌≤◌, List, [], ◌∷◌, ◌++◌, length, get_or, drop, Option, Some, None, Bool, true, false, is_some, Vec, Global, refl, sym, ap, subst, ◌∙◌, arith}
use Rattle.std.proofs.Math.ListN.{drop_of_length-le}
use Rattle.wgsl_rules.specs.Types.{Ty, struct, Fields, no_fields}
use Rattle.wgsl_rules.specs.Size.{Extent, extent_of, extents, with_both, round_up, struct_size, struct_align, offset_after, end_after, end_of_members, align_after, greatest_align}
use Rattle.wgsl_rules.specs.Layout.{amount, has_fixed_layout, is_fixed_member, is_runtime_member, have_fixed_layouts, end_in_runtime_array}
use Rattle.wgsl_rules.specs.Measures.{AreMeasuresOf, AreMeasuresOfMember}
use Rattle.wgsl_rules.specs.Values.{Val, Vals, array_of, type_of, first_type, IsStorable}
use Rattle.wgsl_rules.specs.View.{Field, type_view, member_view, members_view}
use Rattle.wgsl_rules.specs.declared.measures.Measures.{Measures}
use Rattle.wgsl_rules.specs.declared.measures.MemberMeasures.{MemberMeasures}
use Rattle.wgsl_rules.specs.declared.ty.StructMemberType.{StructMemberType}
use Rattle.wgsl_rules.proofs.lemmas.Members.{next, ends, fields-from}
use Rattle.wgsl_rules.proofs.lemmas.Views.{member_view-is}
use Rattle.wgsl_values.specs.View.{value_of, vals_view}
use Rattle.wgsl_values.specs.declared.instance.Instance.{Instance}
use Rattle.wgsl_values.proofs.lemmas.Nodes.{nodes}
use Rattle.wgsl_layout.specs.Plan.{members, fixed_size, Places, no_places, place, Placed, plan_of, places_of, plan_view, place_view, places_view}
use Rattle.wgsl_layout.specs.TypePlan.{IsPlanOf}
use Rattle.wgsl_layout.specs.declared.plan.Place.{«Place» as CodePlace}
use Rattle.wgsl_layout.specs.declared.plan.Plan as code
use Rattle.wgsl_layout.proofs.Plans.{with_place, place-is, view-members}

-- ---- places

-- the places, and the others behind them
abbrev pub join : Places → Places → Places
join no_places qs = qs
join (place o p ps) qs = place o p (join ps qs)

join-none : (ps : Places) → join ps no_places ≡ ps
join-none no_places = refl
join-none (place o p ps) = ap (place o p) (join-none ps)

join-push : (xs : List CodePlace) (x : CodePlace) (qs : Places) → join (places_view (xs ++ (x ∷ []))) qs ≡ join (places_view xs) (with_place (place_view x) qs)
join-push [] x qs = refl
join-push (y ∷ xs) x qs = ap (λ (rest : Places). with_place (place_view y) rest) (join-push xs x qs)

-- ---- the members so far

-- what the loop keeps: of the members so far and the rest together it is known what is known of all
pub record AreMade (ms : List StructMemberType) (i : ℕ) (xs : List CodePlace) (so_far : MemberMeasures) : Type 0 where
  pub places : join (places_view xs) (places_of so_far.end (members_view (drop i ms))) ≡ places_of (Some 0) (members_view ms)
  pub end : end_of_members so_far.end (extents (members_view (drop i ms))) ≡ end_of_members (Some 0) (extents (members_view ms))
  pub align : greatest_align so_far.align (extents (members_view (drop i ms))) ≡ greatest_align (Some 0) (extents (members_view ms))
  pub fixed : (so_far.are_fixed && have_fixed_layouts (members_view (drop i ms))) ≡ have_fixed_layouts (members_view ms)
  pub runtime : ends so_far.end_in_runtime_array so_far.are_fixed so_far.end (members_view (drop i ms)) ≡ end_in_runtime_array (Some 0) (members_view ms)

pub amount-is : (o : Option ℕ) → unwrap_or o 0 ≡ amount o
amount-is None = refl
amount-is (Some n) = refl

-- these and a member more
pub record AreWith (f : Field) (old new : MemberMeasures) : Type 0 where
  pub end : new.end ≡ end_after old.end (extent_of f)
  pub align : new.align ≡ align_after old.align (extent_of f)
  pub fixed : new.are_fixed ≡ (old.are_fixed && is_fixed_member f)
  pub runtime : new.end_in_runtime_array ≡ (old.are_fixed && (is_runtime_member f && is_some (offset_after old.end (extent_of f))))

abbrev extent_from : Option ℕ → Option ℕ → Extent
extent_from s a = record { size = s; align = a }

pub with-member : (f : Field) (old new : MemberMeasures) (m : Measures) → AreMeasuresOfMember f m
    → new.end ≡ end_after old.end (record { size = m.size; align = m.align }) → new.align ≡ align_after old.align (record { size = m.size; align = m.align })
    → new.are_fixed ≡ (old.are_fixed && m.is_fixed) → new.end_in_runtime_array ≡ (old.are_fixed && (m.is_runtime_array && is_some (offset_after old.end (record { size = m.size; align = m.align }))))
    → AreWith f old new
with-member f old new m is end align fixed runtime =
    let extent : extent_from m.size m.align ≡ extent_of f = ap (λ (o : Option ℕ). extent_from o m.align) is.size ∙ ap (extent_from (extent_of f).size) is.align in
    record {
      end = end ∙ ap (end_after old.end) extent;
      align = align ∙ ap (align_after old.align) extent;
      fixed = fixed ∙ ap (λ (b : Bool). old.are_fixed && b) is.fixed;
      runtime =
          runtime ∙ ap (λ (b : Bool). old.are_fixed && (b && is_some (offset_after old.end (record { size = m.size; align = m.align })))) is.runtime
          ∙ ap (λ (x : Extent). old.are_fixed && (is_runtime_member f && is_some (offset_after old.end x))) extent;
    }

-- where a member stands
pub offset-made : (f : Field) (from : Option ℕ) (m : Measures) (o : Option ℕ) (n : ℕ) → AreMeasuresOfMember f m → o ≡ with_both round_up m.align from → n ≡ unwrap_or o 0
    → n ≡ amount (offset_after from (extent_of f))
offset-made f from m o n is there e = e ∙ amount-is o ∙ ap amount (there ∙ ap (λ (a : Option ℕ). with_both round_up a from) is.align)

pub type-is : (m : StructMemberType) → type_view m.ty ≡ (member_view m).ty
type-is m = ap (λ (f : Field). f.ty) (sym (member_view-is m))

-- one more member
pub step : (ms : List StructMemberType) (i : ℕ) (m : StructMemberType) (xs : List CodePlace) (x : CodePlace) (old new : MemberMeasures)
    → i < length ms → m ≡ get_or ms i m → AreWith (member_view m) old new
    → x.offset ≡ amount (offset_after old.end (extent_of (member_view m))) → plan_view x.plan ≡ plan_of (member_view m).ty
    → AreMade ms i xs old → AreMade ms (i + 1) (xs ++ (x ∷ [])) new
step ms i m xs x old new h e with at plan made =
    let f = member_view m in
    let fs = members_view (drop (i + 1) ms) in
    let is = fields-from ms i m h e in
    let n = next ms i m h e in
    let placed : place_view x ≡ record { offset = amount (offset_after old.end (extent_of f)); plan = plan_of f.ty } = place-is x ∙ rw (at, plan) refl in
    record {
      places =
          join-push xs x (places_of new.end fs) ∙ ap (λ (p : Placed). join (places_view xs) (with_place p (places_of new.end fs))) placed
          ∙ ap (λ (o : Option ℕ). join (places_view xs) (place (amount (offset_after old.end (extent_of f))) (plan_of f.ty) (places_of o fs))) with.end
          ∙ ap (λ (gs : Fields). join (places_view xs) (places_of old.end gs)) (sym is) ∙ made.places;
      end = ap (λ (o : Option ℕ). end_of_members o (extents fs)) with.end ∙ n.end old.end ∙ made.end;
      align = ap (λ (o : Option ℕ). greatest_align o (extents fs)) with.align ∙ n.align old.align ∙ made.align;
      fixed = ap (λ (b : Bool). b && have_fixed_layouts fs) with.fixed ∙ n.fixed old.are_fixed ∙ made.fixed;
      runtime =
          ap (λ (b : Bool). ends b new.are_fixed new.end fs) with.runtime
          ∙ ap (λ (b : Bool). ends (old.are_fixed && (is_runtime_member f && is_some (offset_after old.end (extent_of f)))) b new.end fs) with.fixed
          ∙ ap (λ (o : Option ℕ). ends (old.are_fixed && (is_runtime_member f && is_some (offset_after old.end (extent_of f)))) (old.are_fixed && is_fixed_member f) o fs) with.end
          ∙ n.runtime old.end_in_runtime_array old.are_fixed old.end ∙ made.runtime;
    }

pub and-true : (b : Bool) → (b && true) ≡ b
and-true true = refl
and-true false = refl

-- all members
pub record AreAllMade (ms : List StructMemberType) (xs : List CodePlace) (so_far : MemberMeasures) : Type 0 where
  pub places : places_view xs ≡ places_of (Some 0) (members_view ms)
  pub end : so_far.end ≡ end_of_members (Some 0) (extents (members_view ms))
  pub align : so_far.align ≡ greatest_align (Some 0) (extents (members_view ms))
  pub fixed : so_far.are_fixed ≡ have_fixed_layouts (members_view ms)
  pub runtime : so_far.end_in_runtime_array ≡ end_in_runtime_array (Some 0) (members_view ms)

pub past : (ms : List StructMemberType) (i : ℕ) (xs : List CodePlace) (so_far : MemberMeasures) → length ms ≤ i → AreMade ms i xs so_far → AreAllMade ms xs so_far
past ms i xs so_far le made =
    let none : members_view (drop i ms) ≡ no_fields = ap members_view (drop_of_length-le ms {i = i} le) in
    record {
      places = sym (join-none (places_view xs)) ∙ ap (λ (fs : Fields). join (places_view xs) (places_of so_far.end fs)) (sym none) ∙ made.places;
      end = ap (λ (fs : Fields). end_of_members so_far.end (extents fs)) (sym none) ∙ made.end;
      align = ap (λ (fs : Fields). greatest_align so_far.align (extents fs)) (sym none) ∙ made.align;
      fixed = sym (and-true so_far.are_fixed) ∙ ap (λ (fs : Fields). so_far.are_fixed && have_fixed_layouts fs) (sym none) ∙ made.fixed;
      runtime = ap (ends so_far.end_in_runtime_array so_far.are_fixed so_far.end) (sym none) ∙ made.runtime;
    }

pub all-made : (name : List ℕ) (ms : List StructMemberType) (ps : Vec CodePlace Global) (so_far : MemberMeasures) (m : Measures) (laid : Bool) (long : ℕ)
    → AreAllMade ms ps.items so_far → m.size ≡ with_both round_up so_far.align so_far.end → m.align ≡ so_far.align
    → m.is_fixed ≡ (so_far.are_fixed && is_some (with_both round_up so_far.align so_far.end)) → m.is_runtime_array ≡ false
    → laid ≡ ((so_far.are_fixed && is_some (with_both round_up so_far.align so_far.end)) || so_far.end_in_runtime_array)
    → ((t : Ty) → AreMeasuresOf t m → long ≡ fixed_size t)
    → IsPlanOf (struct name (members_view ms)) (record { plan = code.Members long ps; measures = m; has_layout = laid })
all-made name ms ps so_far m laid long all size align fixed runtime layout told =
    let fs = members_view ms in
    let size_is : with_both round_up so_far.align so_far.end ≡ struct_size (extents fs) =
    ap (λ (a : Option ℕ). with_both round_up a so_far.end) all.align ∙ ap (with_both round_up (struct_align (extents fs))) all.end in
    let fixed_is : (so_far.are_fixed && is_some (with_both round_up so_far.align so_far.end)) ≡ has_fixed_layout (struct name fs) =
    ap (λ (b : Bool). b && is_some (with_both round_up so_far.align so_far.end)) all.fixed ∙ ap (λ (o : Option ℕ). have_fixed_layouts fs && is_some o) size_is in
    let measured : AreMeasuresOf (struct name fs) m = record { size = size ∙ size_is; align = align ∙ all.align; fixed = fixed ∙ fixed_is; runtime = runtime } in
    record {
      plan = view-members long ps ∙ ap (members long) all.places ∙ ap (λ (n : ℕ). members n (places_of (Some 0) fs)) (told (struct name fs) measured);
      measures = measured;
      layout = layout ∙ ap (λ (b : Bool). b || so_far.end_in_runtime_array) fixed_is ∙ ap (λ (b : Bool). has_fixed_layout (struct name fs) || b) all.runtime;
    }

-- ---- the first element of an array

pub record IsFirstElement (x : Val) (runtime : Bool) (vs : Vals) : Type 0 where
  pub storable : IsStorable x
  pub smaller : nodes x < nodes (array_of runtime vs)
  pub typed : type_of x ≡ first_type vs

pub first-element : (runtime : Bool) (vs : List Instance) (x : Instance) → x ≡ get_or vs 0 x → IsStorable (array_of runtime (vals_view vs)) → IsFirstElement (value_of x) runtime (vals_view vs)
first-element runtime [] x e s = absurd (omega (arith, s.0))
first-element runtime (v ∷ vs) x e s =
    subst (λ (y : Instance). IsFirstElement (value_of y) runtime (vals_view (v ∷ vs))) (sym e) (record { storable = s.2.0; smaller = omega arith; typed = refl })
