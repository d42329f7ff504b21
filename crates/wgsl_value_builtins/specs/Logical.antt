-- Whether all or any are true, and a choice between two values (WGSL: logical builtin functions).
use Rattle.std.specs.Prelude.{Bool, true, false, ◌&&◌, ◌||◌, if◌then◌else◌, Ok, Err}
use Rattle.wgsl_value_ops.specs.Lift.{followed}
use Rattle.wgsl_rules.specs.Refusals.{Outcome, and_then, builtin}
use Rattle.wgsl_rules.specs.Values.{Val, truth, vector, deferred, Vals, no_vals, val}
use Rattle.wgsl_value_builtins.specs.Components.{components_of}
use Rattle.wgsl_value_builtins.specs.Lifts.{in_common_type}

-- the truth value of a bool; another value is refused
abbrev pub truth_in : Val → Outcome Bool
truth_in (truth b) = Ok b
truth_in v = Err builtin

-- each of the truth values and b, joined by f
abbrev pub truths_joined : (Bool → Bool → Bool) → Bool → Vals → Outcome Bool
truths_joined f b no_vals = Ok b
truths_joined f b (val v vs) = and_then (truth_in v) (λ a. and_then (truths_joined f b vs) (λ c. Ok (f a c)))

-- the truth values of a vector joined by f, or a bool itself
abbrev pub joined_by : (Bool → Bool → Bool) → Bool → Val → Outcome Val
joined_by f b (vector vs) = and_then (truths_joined f b vs) (λ c. Ok (truth c))
joined_by f b v = and_then (truth_in v) (λ c. Ok (truth c))

-- WGSL: all
abbrev pub all_hold : Val → Outcome Val
all_hold v = joined_by ◌&&◌ true v

-- WGSL: any
abbrev pub any_holds : Val → Outcome Val
any_holds v = joined_by ◌||◌ false v

-- of two values, by a bool, the second where it is true, else the first
abbrev pub one_selected : Val → Val → Val → Outcome Val
one_selected c v w = and_then (truth_in c) (λ b. Ok (if b then w else v))

-- of the values of two lists, by bools; all are of one length
abbrev pub each_selected : Vals → Vals → Vals → Outcome Vals
each_selected no_vals no_vals no_vals = Ok no_vals
each_selected (val c bs) (val v vs) (val w ws) = followed (one_selected c v w) (each_selected bs vs ws)
each_selected bs vs ws = Err builtin

-- by the components of two vectors
abbrev pub components_selected : Vals → Val → Val → Outcome Val
components_selected bs v w =
    and_then (components_of v) (λ vs. and_then (components_of w) (λ ws. and_then (each_selected bs vs ws) (λ xs. Ok (vector xs))))

-- by a vector of bools from two vectors of its count, or by a bool
abbrev pub selected_by : Val → Val → Val → Outcome Val
selected_by (vector bs) v w = components_selected bs v w
selected_by c v w = one_selected c v w

abbrev pub is_known : Val → Bool
is_known (deferred t) = false
is_known v = true

-- of two values in their common type, w where the condition is true, else v (WGSL: select)
abbrev pub selected : Val → Val → Val → Outcome Val
selected v w c =
    if is_known v && is_known w then and_then (in_common_type v w) (λ p. selected_by c p.0 p.1) else Err builtin
