-- What is known of the members of a structure, member by member.
use Rattle.std.proofs.Common.{◌≡◌, ◌+◌, ◌-◌, ◌<◌, ℕ, zero, suc, List, [], ◌∷◌, length, get_or, drop, Bool, true, false, refl, sym, ap, ◌∙◌, add-one, arith}
use Rattle.std.specs.Prelude.{◌&&◌, ◌||◌, ◌==◌}
use Rattle.std.proofs.Math.Dec.{eqb, eqb-suc-suc, eqb-zero-suc, eqb-suc-zero}
use Rattle.wgsl_rules.specs.Types.{Fields, no_fields}
use Rattle.wgsl_rules.specs.Layout.{have_none}
use Rattle.wgsl_rules.specs.View.{Field, type_view, members_view}
use Rattle.wgsl_rules.specs.declared.ty.StructMemberType.{StructMemberType}
use Rattle.wgsl_rules.proofs.lemmas.Views.{member-type}
use Rattle.wgsl_rules.proofs.lemmas.Members.{first}
use Rattle.wgsl_interface.specs.Faults.{is_last_runtime_sized}
use Rattle.wgsl_interface.specs.Natures.{IsNatureOf}
use Rattle.wgsl_interface.specs.Plain.{is_runtime_sized, may_stand_before, is_plain, are_plain, is_sized, are_sized, is_concrete, are_concrete}
use Rattle.wgsl_interface.specs.Shared.{is_constructible, are_constructible, is_host_shareable, are_host_shareable, has_atomic, have_atomic}
use Rattle.wgsl_interface.specs.declared.nature.Nature.{Nature}

-- whether there are none behind one
none-after : (ms : List StructMemberType) (i : ℕ) → i < length ms → have_none (members_view (drop (suc i) ms)) ≡ eqb (suc i) (length ms)
none-after [] i h = absurd (omega arith)
none-after (x ∷ []) zero h = refl
none-after (x ∷ (y ∷ ms)) zero h = sym (eqb-suc-suc zero (suc (length ms)) ∙ eqb-zero-suc (length ms))
none-after (x ∷ ms) (suc i) h = none-after ms i (omega arith) ∙ sym (eqb-suc-suc (suc i) (length ms))

pub none-from : (ms : List StructMemberType) (i : ℕ) → i < length ms → have_none (members_view (drop (i + 1) ms)) ≡ (i + 1 == length ms)
none-from ms i h = rw add-one (none-after ms i h)

pub none-of : (ms : List StructMemberType) → have_none (members_view ms) ≡ (length ms == 0)
none-of [] = refl
none-of (x ∷ ms) = sym (eqb-suc-zero (length ms))

-- behind the last one
pub at_end : (P : Fields → Bool) (a : Bool) {fs : Fields} → fs ≡ no_fields → P no_fields ≡ true → a ≡ (a && P fs)
at_end P true e h = sym (ap P e ∙ h)
at_end P false e h = refl

pub or_at_end : (P : Fields → Bool) (a : Bool) {fs : Fields} → fs ≡ no_fields → P no_fields ≡ false → a ≡ (a || P fs)
or_at_end P true e h = refl
or_at_end P false e h = sym (ap P e ∙ h)

-- what holds of some members, with the nature of the next one
pub record IsNext (f : Field) (fs : Fields) (last : Bool) (n : Nature) : Type 0 where
  pub plain : (a : Bool) → ((a && ((n.is_sized || (last && n.is_runtime_sized)) && n.is_plain)) && are_plain fs) ≡ (a && are_plain (first f fs))
  pub sized : (a : Bool) → ((a && n.is_sized) && are_sized fs) ≡ (a && are_sized (first f fs))
  pub concrete : (a : Bool) → ((a && n.is_concrete) && are_concrete fs) ≡ (a && are_concrete (first f fs))
  pub constructible : (a : Bool) → ((a && n.is_constructible) && are_constructible fs) ≡ (a && are_constructible (first f fs))
  pub shareable : (a : Bool) → ((a && ((n.is_sized || (last && n.is_runtime_sized)) && n.is_host_shareable)) && are_host_shareable fs) ≡ (a && are_host_shareable (first f fs))
  pub atomic : (a : Bool) → ((a || n.has_atomic) || have_atomic fs) ≡ (a || have_atomic (first f fs))

and_next : (x y : Bool) (r s : Bool) → x ≡ y → (y && r) ≡ s → (a : Bool) → ((a && x) && r) ≡ (a && s)
and_next x y r s e h true = ap (λ (b : Bool). b && r) e ∙ h
and_next x y r s e h false = refl

or_next : (x y : Bool) (r s : Bool) → x ≡ y → (y || r) ≡ s → (a : Bool) → ((a || x) || r) ≡ (a || s)
or_next x y r s e h true = refl
or_next x y r s e h false = ap (λ (b : Bool). b || r) e ∙ h

pub next : (f : Field) (fs : Fields) (last : Bool) (n : Nature) → IsNatureOf f.ty n → have_none fs ≡ last → IsNext f fs last n
next f fs last n is e =
    let plain = is.plain in let sized = is.sized in let runtime = is.runtime in let concrete = is.concrete in
    let constructible = is.constructible in let shareable = is.shareable in let atomic = is.atomic in
    let both : ((n.is_sized || (last && n.is_runtime_sized)) && n.is_plain) ≡ (may_stand_before fs f.ty && is_plain f.ty) = cc in
    let shared : ((n.is_sized || (last && n.is_runtime_sized)) && n.is_host_shareable) ≡ (may_stand_before fs f.ty && is_host_shareable f.ty) = cc in
    record {
      plain = and_next ((n.is_sized || (last && n.is_runtime_sized)) && n.is_plain) (may_stand_before fs f.ty && is_plain f.ty) (are_plain fs) (are_plain (first f fs)) both refl;
      sized = and_next n.is_sized (is_sized f.ty) (are_sized fs) (are_sized (first f fs)) sized refl;
      concrete = and_next n.is_concrete (is_concrete f.ty) (are_concrete fs) (are_concrete (first f fs)) concrete refl;
      constructible = and_next n.is_constructible (is_constructible f.ty) (are_constructible fs) (are_constructible (first f fs)) constructible refl;
      shareable = and_next ((n.is_sized || (last && n.is_runtime_sized)) && n.is_host_shareable) (may_stand_before fs f.ty && is_host_shareable f.ty) (are_host_shareable fs) (are_host_shareable (first f fs)) shared refl;
      atomic = or_next n.has_atomic (has_atomic f.ty) (have_atomic fs) (have_atomic (first f fs)) atomic refl;
    }

last-at : (ms : List StructMemberType) (i : ℕ) (m : StructMemberType) → suc i ≡ length ms → m ≡ get_or ms i m → is_runtime_sized (type_view m.ty) ≡ is_last_runtime_sized (members_view ms)
last-at [] i m e h = absurd (omega arith)
last-at (x ∷ []) zero m e h = ap (λ (y : StructMemberType). is_runtime_sized (type_view y.ty)) h ∙ ap is_runtime_sized (sym (member-type x))
last-at (x ∷ []) (suc i) m e h = absurd (omega arith)
last-at (x ∷ (y ∷ ms)) zero m e h = absurd (omega arith)
last-at (x ∷ (y ∷ ms)) (suc i) m e h = last-at (y ∷ ms) i m (omega arith) h

pub last-is : (ms : List StructMemberType) (m : StructMemberType) → 0 < length ms → m ≡ get_or ms (length ms - 1) m → is_runtime_sized (type_view m.ty) ≡ is_last_runtime_sized (members_view ms)
last-is ms m h e = last-at ms (length ms - 1) m (omega arith) e
