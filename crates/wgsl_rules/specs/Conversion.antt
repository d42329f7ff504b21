-- Which types convert to which, how near they are, and the type that several have in common
-- (WGSL: conversion rank).
use Rattle.std.specs.Prelude.{◌≡◌, ℕ, List, [], ◌∷◌, Option, Some, None, is_some, option_and_then, Bool, ◌&&◌, ◌==◌, if◌then◌else◌, codes, nat_eq}
use Rattle.std.specs.List.{starts_with, ends_with}
use Rattle.wgsl_rules.specs.Access.{can_read}
use Rattle.wgsl_rules.specs.Types.{Ty, abstract_int, abstract_float, i32, u32, f32, f16, struct, array, vec, mat, ref}
use Rattle.wgsl_rules.specs.Same.{same, same_number}

-- from AbstractInt (WGSL: conversion rank)
abbrev pub rank_from_int : Ty → Option ℕ
rank_from_int i32 = Some 3
rank_from_int u32 = Some 4
rank_from_int abstract_float = Some 5
rank_from_int f32 = Some 6
rank_from_int f16 = Some 7
rank_from_int t = None

-- from AbstractFloat (WGSL: conversion rank)
abbrev pub rank_from_float : Ty → Option ℕ
rank_from_float f32 = Some 1
rank_from_float f16 = Some 2
rank_from_float t = None

-- a structure of this name is the abstract result of a builtin function (WGSL: conversion rank)
abbrev pub is_abstract_name : List ℕ → Bool
is_abstract_name n = starts_with nat_eq n (codes "__") && ends_with nat_eq n (codes "abstract")

-- from the structure named n to the one named m, its result in f32 or f16 (WGSL: conversion rank)
abbrev pub struct_rank : List ℕ → List ℕ → Option ℕ
struct_rank n m =
    if is_abstract_name n
    then (if ends_with nat_eq m (codes "f32") then Some 1 else (if ends_with nat_eq m (codes "f16") then Some 2 else None))
    else None

-- 0 where the two are the same, else the given rank
abbrev pub zero_if : Bool → Option ℕ → Option ℕ
zero_if b rank = if b then Some 0 else rank

-- the rank, where this holds
abbrev pub only_if : Bool → Option ℕ → Option ℕ
only_if b rank = if b then rank else None

-- from t to u, where they are not the same (WGSL: conversion rank)
abbrev pub unequal_rank : Ty → Ty → Option ℕ
unequal_rank abstract_int u = rank_from_int u
unequal_rank abstract_float u = rank_from_float u
unequal_rank (ref s t a) u = only_if (can_read a && same t u) (Some 0)
unequal_rank (struct n fs) (struct m gs) = struct_rank n m
unequal_rank (array t n) (array u m) = only_if (same_number n m) (zero_if (same t u) (unequal_rank t u))
unequal_rank (vec n t) (vec m u) = only_if (n == m) (zero_if (same t u) (unequal_rank t u))
unequal_rank (mat c r t) (mat d s u) = only_if ((c == d) && (r == s)) (zero_if (same t u) (unequal_rank t u))
unequal_rank t u = None

-- from t to u, the less the nearer; none where t does not convert to u (WGSL: conversion rank)
abbrev pub rank : Ty → Ty → Option ℕ
rank t u = zero_if (same t u) (unequal_rank t u)

-- u where t converts to it, else t where u converts to it (WGSL: conversion rank)
abbrev pub common_type : Ty → Ty → Option Ty
common_type t u =
    if is_some (rank t u) then Some u else (if is_some (rank u t) then Some t else None)

-- of t and of the types after it, from the left
abbrev pub common_type_with : Ty → List Ty → Option Ty
common_type_with t [] = Some t
common_type_with t (u ∷ us) = option_and_then (λ v. common_type_with v us) (common_type t u)

-- of all of a list, from the left; none of the empty list
abbrev pub common_type_of : List Ty → Option Ty
common_type_of [] = None
common_type_of (t ∷ ts) = common_type_with t ts

-- the common type of two types is that of the two in the other order
abbrev pub CommonTypeIsSymmetric : Type 0
CommonTypeIsSymmetric = (t u : Ty) → common_type t u ≡ common_type u t

-- the scalar of a concrete matrix type: an abstract one becomes f32, there being no matrices of
-- integers (WGSL: matrix types)
abbrev pub concrete_scalar : Ty → Ty
concrete_scalar abstract_int = f32
concrete_scalar abstract_float = f32
concrete_scalar t = t

-- the concrete type that values of a type end in (WGSL: concretization)
abbrev pub concretized : Ty → Ty
concretized abstract_int = i32
concretized abstract_float = f32
concretized (array t n) = array (concretized t) n
concretized (vec n t) = vec n (concretized t)
concretized (mat c r t) = mat c r (concrete_scalar t)
concretized t = t

-- what a reference refers to, and on while that is a reference (WGSL: load rule)
abbrev pub loaded_type : Ty → Ty
loaded_type (ref s t a) = loaded_type t
loaded_type t = t
