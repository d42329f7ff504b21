-- The size of a structure with so many elements in the runtime-sized array that it ends in.
use Rattle.std.proofs.Common.{◌≡◌, ◌∙◌, ℕ, List, [], ◌∷◌, ◌++◌, Option, Some, refl, sym, ap, ap₂, string_bytes}
use Rattle.wgsl_rules.specs.Types.{Ty}
use Rattle.wgsl_rules.specs.Size.{Extent, extents, extent_in, extent_of, end_after, align_after, end_of_members, greatest_align, struct_align, struct_size, with_both, round_up}
use Rattle.wgsl_rules.specs.Places.{with_elements, with_elements_last}
use Rattle.wgsl_rules.specs.Measures.{AreMeasuresOf, AreMeasuresOfMember}
use Rattle.wgsl_rules.specs.View.{Field, type_view, member_view, members_view}
use Rattle.wgsl_rules.specs.declared.measures.Measures.{Measures}
use Rattle.wgsl_rules.specs.declared.ty.StructMemberType.{StructMemberType}
use Rattle.wgsl_rules.proofs.lemmas.Views.{member_view-is}

abbrev last_extent : ℕ → Field → Extent
last_extent k f = extent_in (with_elements k f.ty) f.size f.align

extents-last : (k : ℕ) (ms : List StructMemberType) (m : StructMemberType)
    → extents (with_elements_last k (members_view (ms ++ (m ∷ [])))) ≡ extents (members_view ms) ++ (last_extent k (member_view m) ∷ [])
extents-last k [] m = refl
extents-last k (x ∷ []) m = refl
extents-last k (x ∷ (y ∷ ms)) m = ap (λ (es : List Extent). extent_of (member_view x) ∷ es) (extents-last k (y ∷ ms) m)

end-last : (from : Option ℕ) (es : List Extent) (e : Extent) → end_of_members from (es ++ (e ∷ [])) ≡ end_after (end_of_members from es) e
end-last from [] e = refl
end-last from (x ∷ es) e = end-last (end_after from x) es e

align-last : (from : Option ℕ) (es : List Extent) (e : Extent) → greatest_align from (es ++ (e ∷ [])) ≡ align_after (greatest_align from es) e
align-last from [] e = refl
align-last from (x ∷ es) e = align-last (align_after from x) es e

size-last : (es : List Extent) (e : Extent) → with_both round_up (align_after (struct_align es) e) (end_after (end_of_members (Some 0) es) e) ≡ struct_size (es ++ (e ∷ []))
size-last es e = sym (ap₂ (with_both round_up) (align-last (Some 0) es e) (end-last (Some 0) es e))

extent-last : (k : ℕ) (x : StructMemberType) (own all : Measures) → AreMeasuresOf (with_elements k (type_view x.ty)) own
    → ((n : List ℕ) (t : Ty) → AreMeasuresOf t own → AreMeasuresOfMember (record { name = n; ty = t; size = x.size; align = x.align }) all)
    → record { size = all.size; align = all.align } ≡ last_extent k (member_view x)
extent-last k x own all is next =
    let m = next (string_bytes x.name) (with_elements k (type_view x.ty)) is in
    let size = m.size in
    let align = m.align in
    let here : record { size = all.size; align = all.align } ≡ extent_in (with_elements k (type_view x.ty)) x.size x.align = cc in
    here ∙ ap (last_extent k) (sym (member_view-is x))

-- from what is known of the last member and of those in front of it
pub size-is : (k : ℕ) (ms front : List StructMemberType) (x : StructMemberType) (own all : Measures) (end align : Option ℕ)
    → ms ≡ front ++ (x ∷ []) → AreMeasuresOf (with_elements k (type_view x.ty)) own
    → ((n : List ℕ) (t : Ty) → AreMeasuresOf t own → AreMeasuresOfMember (record { name = n; ty = t; size = x.size; align = x.align }) all)
    → end ≡ end_of_members (Some 0) (extents (members_view front)) → align ≡ struct_align (extents (members_view front))
    → with_both round_up (align_after align (record { size = all.size; align = all.align })) (end_after end (record { size = all.size; align = all.align }))
    ≡ struct_size (extents (with_elements_last k (members_view ms)))
size-is k ms front x own all end align is own_is next end_is align_is =
    let e = extent-last k x own all own_is next in
    let es = extents (members_view front) in
    ap₂ (λ (a : Option ℕ) (n : Option ℕ). with_both round_up (align_after a (record { size = all.size; align = all.align })) (end_after n (record { size = all.size; align = all.align }))) align_is end_is
    ∙ ap (λ (f : Extent). with_both round_up (align_after (struct_align es) f) (end_after (end_of_members (Some 0) es) f)) e
    ∙ size-last es (last_extent k (member_view x))
    ∙ ap struct_size (sym (extents-last k front x))
    ∙ ap (λ (l : List StructMemberType). struct_size (extents (with_elements_last k (members_view l)))) (sym is)
