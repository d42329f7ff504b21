-- Values picked from two lists by bools, where the counts differ, and where they may be stored.
use Rattle.std.proofs.Common.{◌≡◌, ◌≢◌, ◌∙◌, ℕ, suc, Bool, true, Option, Some, Ok, Err, refl, sym, ap}
use Rattle.wgsl_value_ops.specs.Lift.{followed}
use Rattle.wgsl_rules.specs.Converted.{converted}
use Rattle.wgsl_rules.specs.InCommon.{in_common}
use Rattle.wgsl_rules.specs.Refusals.{Outcome, and_then, builtin}
use Rattle.wgsl_rules.specs.Values.{Val, truth, vector, Vals, no_vals, val, count, type_of, IsStorable, IsWellFormed}
use Rattle.wgsl_scalar.specs.Operands.{ok_or}
use Rattle.wgsl_value_builtins.proofs.ComponentLemmas.{components-are}
use Rattle.wgsl_value_builtins.proofs.Known.{common-known, known-storable}
use Rattle.wgsl_value_builtins.specs.Components.{components_of}
use Rattle.wgsl_value_builtins.specs.Lifts.{in_common_type}
use Rattle.wgsl_value_builtins.specs.Logical.{one_selected, each_selected, components_selected, is_known}

followed-builtin : (c v w : Val) (o : Outcome Vals) → o ≡ Err builtin → followed (one_selected c v w) o ≡ Err builtin
followed-builtin (truth b) v w o e = rw e refl
followed-builtin c v w o e = refl

unequal : (bs vs ws : Vals) → count bs ≢ count vs → each_selected bs vs ws ≡ Err builtin
unequal no_vals no_vals ws n = absurd (n refl)
unequal no_vals (val v vs) ws n = refl
unequal (val b bs) no_vals ws n = refl
unequal (val b bs) (val v vs) no_vals n = refl
unequal (val b bs) (val v vs) (val w ws) n = followed-builtin b v w (each_selected bs vs ws) (unequal bs vs ws (λ e. n (ap suc e)))

pub components-unequal : (bs vs ws : Vals) (v w : Val) → components_of v ≡ Ok vs → components_of w ≡ Ok ws → count bs ≢ count vs → components_selected bs v w ≡ Err builtin
components-unequal bs vs ws v w e f n = rw (e, f, unequal bs vs ws n) refl

-- vectors of one type have as many components
pub counts-equal : (vs ws : Vals) (v w : Val) → components_of v ≡ Ok vs → components_of w ≡ Ok ws → type_of v ≡ type_of w → count vs ≡ count ws
counts-equal vs ws v w e f t =
    let same : type_of (vector vs) ≡ type_of (vector ws) = ap type_of (sym (components-are v vs e)) ∙ t ∙ ap type_of (components-are w ws f) in
    cc

pub record AreBothStorable (v w : Val) : Type 0 where
  pub first : IsStorable v
  pub second : IsStorable w

-- what is taken to a common type may be stored, where neither is deferred
pub common-storable-pair : (v w x y : Val) → is_known v ≡ true → is_known w ≡ true → in_common converted v w ≡ Some (x, y) → IsWellFormed x → IsWellFormed y → AreBothStorable x y
common-storable-pair v w x y k l e h g =
    let p : in_common_type v w ≡ Ok (x, y) = ap (ok_or builtin) e in
    let known = common-known v w (x, y) k l p in
    record { first = known-storable x known.0 h; second = known-storable y known.1 g }
