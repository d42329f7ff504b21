-- What is known of the members of a struct, member by member.
use Rattle.std.proofs.Common.{◌≡◌, ◌+◌, ◌<◌, ℕ, List, length, get_or, drop, Option, is_some, Bool, true, false, refl, sym, ap, ◌∙◌, add-one, drop-cons, subst, string_bytes}
use Rattle.std.specs.Prelude.{◌&&◌}
use Rattle.wgsl_rules.specs.Types.{Fields, no_fields, field, Ty}
use Rattle.wgsl_rules.specs.Size.{extents, extent_of, offset_after, end_after, end_of_members, align_after, greatest_align}
use Rattle.wgsl_rules.specs.Layout.{have_fixed_layouts, is_fixed_member, is_runtime_member, end_in_runtime_array}
use Rattle.wgsl_rules.specs.View.{Field, member_view, members_view, type_view}
use Rattle.wgsl_rules.specs.declared.ty.StructMemberType.{StructMemberType}
use Rattle.wgsl_rules.specs.Measures.{AreMeasuresOf, AreMeasuresOfMember}
use Rattle.wgsl_rules.specs.declared.measures.Measures.{Measures}
use Rattle.wgsl_rules.proofs.lemmas.Views.{member_view-is}

abbrev pub first : Field → Fields → Fields
first f fs = field f.name f.ty f.size f.align fs

-- whether members end in a runtime-sized array, of which these are the last, after what ends at `from`; those
-- before are all fixed or not, and the last of those is such an array or not
abbrev pub ends : Bool → Bool → Option ℕ → Fields → Bool
ends runtime fixed from no_fields = runtime
ends runtime fixed from (field name t s a fs) = fixed && end_in_runtime_array from (field name t s a fs)

ends-first : (runtime fixed : Bool) (from : Option ℕ) (f : Field) (fs : Fields)
    → ends runtime fixed from (first f fs) ≡ ends (fixed && (is_runtime_member f && is_some (offset_after from (extent_of f)))) (fixed && is_fixed_member f) (end_after from (extent_of f)) fs
ends-first runtime fixed from f no_fields = refl
ends-first runtime true from f (field name t s a fs) = refl
ends-first runtime false from f (field name t s a fs) = refl

fixed-first : (fixed : Bool) (f : Field) (fs : Fields) → (fixed && have_fixed_layouts (first f fs)) ≡ ((fixed && is_fixed_member f) && have_fixed_layouts fs)
fixed-first true f fs = refl
fixed-first false f fs = refl

-- the members from one on
pub fields-from : (ms : List StructMemberType) (i : ℕ) (m : StructMemberType) → i < length ms → m ≡ get_or ms i m → members_view (drop i ms) ≡ first (member_view m) (members_view (drop (i + 1) ms))
fields-from ms i m h e =
    let at : members_view (drop i ms) ≡ first (member_view (get_or ms i m)) (members_view (drop (i + 1) ms)) = rw (drop-cons ms i m, add-one) refl in
    at ∙ ap (λ x. first (member_view x) (members_view (drop (i + 1) ms))) (sym e)

-- what is known of the members in front, and of one more
pub record IsNext (ms : List StructMemberType) (i : ℕ) (f : Field) : Type 0 where
  pub end : (from : Option ℕ) → end_of_members (end_after from (extent_of f)) (extents (members_view (drop (i + 1) ms))) ≡ end_of_members from (extents (members_view (drop i ms)))
  pub align : (from : Option ℕ) → greatest_align (align_after from (extent_of f)) (extents (members_view (drop (i + 1) ms))) ≡ greatest_align from (extents (members_view (drop i ms)))
  pub fixed : (fixed : Bool) → ((fixed && is_fixed_member f) && have_fixed_layouts (members_view (drop (i + 1) ms))) ≡ (fixed && have_fixed_layouts (members_view (drop i ms)))
  pub runtime : (runtime fixed : Bool) (from : Option ℕ)
      → ends (fixed && (is_runtime_member f && is_some (offset_after from (extent_of f)))) (fixed && is_fixed_member f) (end_after from (extent_of f)) (members_view (drop (i + 1) ms)) ≡ ends runtime fixed from (members_view (drop i ms))

pub next : (ms : List StructMemberType) (i : ℕ) (m : StructMemberType) → i < length ms → m ≡ get_or ms i m → IsNext ms i (member_view m)
next ms i m h e =
    let is = fields-from ms i m h e in
    record {
      end = λ from. ap (λ (fs : Fields). end_of_members from (extents fs)) (sym is);
      align = λ from. ap (λ (fs : Fields). greatest_align from (extents fs)) (sym is);
      fixed = λ fixed. sym (ap (λ (fs : Fields). fixed && have_fixed_layouts fs) is ∙ fixed-first fixed (member_view m) (members_view (drop (i + 1) ms)));
      runtime = λ runtime fixed from. sym (ap (ends runtime fixed from) is ∙ ends-first runtime fixed from (member_view m) (members_view (drop (i + 1) ms)));
    }

-- the measures of a type, with the attributes of a member
pub of-member : (x : StructMemberType) (own all : Measures) → AreMeasuresOf (type_view x.ty) own
    → ((n : List ℕ) (t : Ty) → AreMeasuresOf t own → AreMeasuresOfMember (record { name = n; ty = t; size = x.size; align = x.align }) all)
    → AreMeasuresOfMember (member_view x) all
of-member x own all is next = subst (λ (f : Field). AreMeasuresOfMember f all) (sym (member_view-is x)) (next (string_bytes x.name) (type_view x.ty) is)
