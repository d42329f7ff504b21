-- Resources at one group and binding (WGSL: resource interface).
use Rattle.std.specs.Prelude.{ℕ, Bool, false, ◌==◌, ◌&&◌, Option, None, List, [], ◌∷◌, ◌++◌, position, slice_get, option_map, option_and_then, unwrap_or}
use Rattle.std.specs.List.{find, cons_option}
use Rattle.wgsl_interface.specs.declared.bindings.Binding.{Binding}
use Rattle.wgsl_interface.specs.declared.bindings.BindingPair.{BindingPair}

abbrev pub is_same : Binding → Binding → Bool
is_same x y = (x.group == y.group) && (x.binding == y.binding)

-- of each of these, that come behind some others, the number of the first in front of it that is the same
abbrev pub firsts_behind : List Binding → List Binding → List (Option ℕ)
firsts_behind others [] = []
firsts_behind others (x ∷ xs) = position (is_same x) others ∷ firsts_behind (others ++ x ∷ []) xs

abbrev pub firsts : List Binding → List (Option ℕ)
firsts xs = firsts_behind [] xs

-- the group and the binding of a declaration, if it has them
abbrev pub binding_of : List (Option Binding) → ℕ → Option Binding
binding_of bindings declaration = unwrap_or (slice_get bindings declaration) None

-- a declaration has this group and binding
abbrev pub is_at : List (Option Binding) → Binding → ℕ → Bool
is_at bindings x declaration = unwrap_or (option_map (is_same x) (binding_of bindings declaration)) false

-- a declaration with the first of some others at its group and binding, if one of them is there
abbrev pub pair_with : List (Option Binding) → List ℕ → ℕ → Option BindingPair
pair_with bindings others later = option_and_then (λ x. option_map (λ first. record { first = first; later = later }) (find (is_at bindings x) others)) (binding_of bindings later)

-- of each of these declarations, that come behind some others, the pair with the first in front of it
abbrev pub pairs_behind : List (Option Binding) → List ℕ → List ℕ → List BindingPair
pairs_behind bindings others [] = []
pairs_behind bindings others (n ∷ ns) = cons_option (pair_with bindings others n) (pairs_behind bindings (others ++ n ∷ []) ns)

abbrev pub pairs : List (Option Binding) → List ℕ → List BindingPair
pairs bindings used = pairs_behind bindings [] used
