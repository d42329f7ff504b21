-- What a converted value holds: the references that it held, and no deferred value where it was none.
use Rattle.std.proofs.Common.{◌≡◌, Bool, List, Option, Some, None, ◌==◌, ◌++◌, sym, ap, ap₂, ◌∙◌, subst}
use Rattle.std.specs.Prelude.{IfSome, option_map}
use Rattle.wgsl_rules.specs.Converted.{converted, all_converted, type_count}
use Rattle.wgsl_rules.specs.Kinds as kinds
use Rattle.wgsl_rules.specs.Same.{same_number}
use Rattle.wgsl_rules.specs.Types as types
use Rattle.wgsl_rules.specs.Types.{Ty}
use Rattle.wgsl_rules.specs.Values.{Reference, Val, number, array_of, vector, matrix, Vals, no_vals, val, count, IsStorable, IsWellFormed}
use Rattle.wgsl_rules.proofs.lemmas.Converted.{mapped, joins, keeps, converted-well_formed}
use Rattle.wgsl_store.specs.Memory.{AllKept, HoldsValue, references, references_in}
use Rattle.wgsl_values.proofs.lemmas.ConvertedValues.{number-is}
pub use Rattle.wgsl_values.proofs.lemmas.ConvertedValues.{converted-storable}

-- ---- the references

mutual
  same-references : (v w : Val) (t : Ty) → converted v t ≡ Some w → references w ≡ references v
  same-references (number kinds.abstract_int z) w t e = ap references ((number-is z t w e).is)
  same-references (array_of runtime vs) w (types.array t n) e =
      let m = mapped (same_number (type_count runtime (count vs)) n) (array_of runtime) (all_converted vs t) w e in
      ap references m.is ∙ all-same vs m.parts t m.gives
  same-references (vector vs) w (types.vec n t) e =
      let m = mapped (count vs == n) vector (all_converted vs t) w e in
      ap references m.is ∙ all-same vs m.parts t m.gives
  same-references (matrix vs) w (types.mat n r t) e =
      let m = mapped (count vs == n) matrix (all_converted vs (types.vec r t)) w e in
      ap references m.is ∙ all-same vs m.parts (types.vec r t) m.gives
  same-references v w t e = ap references ((keeps v w t e).1)

  all-same : (vs ws : Vals) (t : Ty) → all_converted vs t ≡ Some ws → references_in ws ≡ references_in vs
  all-same no_vals ws t e = let same : ws ≡ no_vals = cc in ap references_in same
  all-same (val v vs) ws t e =
      let j = joins (converted v t) (all_converted vs t) ws e in
      ap references_in j.is ∙ ap₂ (λ (qs rs : List Reference). qs ++ rs) (same-references v j.first t j.first_is) (all-same vs j.rest t j.rest_is)

-- ---- what was converted, if it was

pub some-well_formed : {X : Type 0} (view : X → Val) (o : Option X) (v : Val) (t : Ty) → option_map view o ≡ converted v t → IsWellFormed v → IfSome o (λ x. IsWellFormed (view x))
some-well_formed view None v t e h = tt
some-well_formed view (Some x) v t e h = converted-well_formed v (view x) t h (sym e)

pub some-storable : {X : Type 0} (view : X → Val) (o : Option X) (v : Val) (t : Ty) → option_map view o ≡ converted v t → IsStorable v → IfSome o (λ x. IsStorable (view x))
some-storable view None v t e h = tt
some-storable view (Some x) v t e h = converted-storable v (view x) t h (sym e)

pub some-held : {X : Type 0} (view : X → Val) (cells : List Val) (o : Option X) (v : Val) (t : Ty) → option_map view o ≡ converted v t → HoldsValue cells v → IfSome o (λ x. HoldsValue cells (view x))
some-held view cells None v t e h = tt
some-held view cells (Some x) v t e h = subst (AllKept cells) (sym (same-references v (view x) t (sym e))) h
