-- Members by their names.
use Rattle.std.proofs.Common.{◌≡◌, ℕ, zero, suc, ◌<◌, List, [], ◌∷◌, length, get_or, Some, option_map, option_and_then, sym, ap, ◌∙◌, arith}
use Rattle.wgsl_rules.specs.Types.{Ty}
use Rattle.wgsl_rules.specs.Values.{member}
use Rattle.wgsl_rules.specs.Paths.{index_named}
use Rattle.wgsl_rules.specs.View.{type_view, struct_view as struct_type_view, members_view}
use Rattle.wgsl_rules.specs.declared.ty.StructMemberType.{StructMemberType}
use Rattle.wgsl_rules.specs.declared.ty.StructType.{StructType, out-StructType}
use Rattle.wgsl_layout.proofs.Making.{type-is}
use Rattle.wgsl_layout.proofs.Reading.{struct-of}
use Rattle.wgsl_places.specs.Steps.{field_at, step_to}

pub nth-field : (ms : List StructMemberType) (i : ℕ) (m : StructMemberType) → i < length ms → field_at i (members_view ms) ≡ Some (type_view (get_or ms i m).ty)
nth-field [] i m lt = absurd (omega arith)
nth-field (x ∷ ms) zero m lt = ap Some (sym (type-is x))
nth-field (x ∷ ms) (suc i) m lt = nth-field ms i m (omega arith)

-- the step to a member of a structure
pub member-step : (s : StructType) (ms : List StructMemberType) (name : List ℕ) (i : ℕ) (u : Ty) → ms ≡ (out-StructType s).members.items → Some i ≡ index_named name (members_view ms) → Some u ≡ field_at i (members_view ms)
    → Some (i, u) ≡ step_to (member name) (struct_type_view s)
member-step s ms name i u e is at =
    ap (option_map {U = ℕ × Ty} (λ (v : Ty). (i, v))) at
    ∙ ap (option_and_then {U = ℕ × Ty} (λ (k : ℕ). option_map {U = ℕ × Ty} (λ (v : Ty). (k, v)) (field_at k (members_view ms)))) is
    ∙ ap (step_to (member name)) (sym (struct-of s ms e))
